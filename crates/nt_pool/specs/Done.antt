-- What workers have done.
use Rattle.std.specs.Prelude.{⊤, ◌≡◌, ℕ, ◌<◌, ◌≤◌, List, [], ◌∷◌, length, vec_capacity, Option}
use Rattle.std.specs.List.{AllByRecursion}
use Rattle.std.specs.declared.mem.ManuallyDrop.{ManuallyDrop}
use Rattle.crossbeam_queue.specs.Passes.{Pass, view, IsPassOf}
use Rattle.crossbeam_queue.specs.declared.array_queue.Doing.{Doing}
use Rattle.crossbeam_queue.specs.declared.array_queue.Slotted.{Slotted}
use Rattle.nt_pool.specs.declared.rule.Hand.{Hand}
use Rattle.nt_pool.specs.declared.work.Answer.{Answer}
use Rattle.nt_pool.specs.declared.work.Worker.{Worker}
use Rattle.nt_pool.specs.Rule.{weigh, IsOf, all_parts}

module _ {J : Type 0} where
  -- with all parts in one hand, each job that was put was taken, once
  abbrev pub TookAll : Hand J → Type 0
  TookAll v = v.parts ≡ all_parts → ((f : J → ℕ) → weigh f v.taken ≡ weigh f v.put) × AllByRecursion (IsOf v.put) v.taken

  module _ {D : Type 0} (number : J → ℕ) (does : J → D → Type 0) where
    -- the answers are those of the jobs, one for each, with their numbers
    abbrev pub Pairs : List J → List (Answer D) → Type 0
    Pairs [] [] = ⊤
    Pairs [] (a ∷ rest) = ⊥
    Pairs (j ∷ js) [] = ⊥
    Pairs (j ∷ js) (a ∷ rest) = (a.number ≡ number j) × does j a.done × Pairs js rest

    -- a worker that has the answers of the jobs that it took, and room for those of all
    pub record Works {Q A : Type 0} (line : Slotted (Option (ManuallyDrop J)) (Doing (ManuallyDrop J) (Hand J)) Q A)
        (w : Worker (Pass (ManuallyDrop J) (Hand J)) D) : Type 0 where
      pub of : IsPassOf line w.pass
      pub part : 0 < (view w.pass).parts
      pub pairs : Pairs (view w.pass).taken w.answers.items
      pub room : length (view w.pass).put ≤ vec_capacity w.answers

  abbrev pub IsSameWorker : {D : Type 0} → Worker (Pass (ManuallyDrop J) (Hand J)) D → Worker (Pass (ManuallyDrop J) (Hand J)) D → Type 0
  IsSameWorker old new =
      ((view new.pass).parts ≡ (view old.pass).parts) × ((view new.pass).put ≡ (view old.pass).put)
