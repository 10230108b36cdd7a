-- What a pool of workers is given, and what it answers.
use Rattle.std.specs.Prelude.{◌≡◌, ℕ, ◌≤◌, List, [], length, vec_len, vec_capacity, Option, Vec}
use Rattle.std.specs.List.{AllByRecursion}
use mathlib.Core.Option.{some}
use lib.ListN.{get_elem?}
use Rattle.std.specs.declared.mem.ManuallyDrop.{ManuallyDrop}
use Rattle.crossbeam_queue.specs.Passes.{Pass, view, IsPassOf, ruled_capacity}
use Rattle.crossbeam_queue.specs.declared.array_queue.Doing.{Doing}
use Rattle.crossbeam_queue.specs.declared.array_queue.Slotted.{Slotted}
use Rattle.nt_pool.specs.declared.rule.Hand.{Hand}
use Rattle.nt_pool.specs.declared.work.Answer.{Answer}
use Rattle.nt_pool.specs.declared.work.Worker.{Worker}
use Rattle.nt_pool.specs.declared.room.Room.{Room}
use Rattle.nt_pool.specs.Rule.{IsOf, weigh, hand, all_parts}
use Rattle.nt_pool.specs.Done.{Pairs, Works}

module _ {J : Type 0} where
  -- each job has the number of its place, from 0
  abbrev pub AreNumbered : (J → ℕ) → List J → Type 0
  AreNumbered number jobs = (i : ℕ) (j : J) → get_elem? jobs i ≡ some j → number j ≡ i

  module _ {D : Type 0} (does : J → D → Type 0) where
    -- there is one answer for each job, and at the place of a job stands what it may end with
    abbrev pub AreDone : List J → List D → Type 0
    AreDone jobs done = (length done ≡ length jobs) × ((i : ℕ) (j : J) (d : D) → get_elem? jobs i ≡ some j → get_elem? done i ≡ some d
        → does j d)

    module _ (number : J → ℕ) where
      -- a worker with one part, that knows these jobs
      pub record IsWorker {Q A : Type 0} (line : Slotted (Option (ManuallyDrop J)) (Doing (ManuallyDrop J) (Hand J)) Q A) (jobs : List J)
          (w : Worker (Pass (ManuallyDrop J) (Hand J)) D) : Type 0 where
        pub works : Works number does line w
        pub one : (view w.pass).parts ≡ 1
        pub put : (view w.pass).put ≡ jobs

      -- these are the answers of all jobs, in any order
      pub record AreAll (jobs : List J) (answers : List (Answer D)) : Type 0 where
        pub taken : List J
        pub pairs : Pairs number does taken answers
        pub each : (f : J → ℕ) → weigh f taken ≡ weigh f jobs
        pub of : AllByRecursion (IsOf jobs) taken

module _ {D A : Type 0} where
  abbrev pub IsEmptyList : Vec (Answer D) A → Type 0
  IsEmptyList list = list.items ≡ []

  -- an empty list with room for so many answers
  abbrev pub IsRoomOf : ℕ → Vec (Answer D) A → Type 0
  IsRoomOf count list = (list.items ≡ []) × (count ≤ vec_capacity list)

  -- an empty list with room for the answers of these jobs
  abbrev pub IsRoomFor : {J : Type 0} → List J → Vec (Answer D) A → Type 0
  IsRoomFor jobs list = IsRoomOf (length jobs) list

-- all memory that so many workers need for so many jobs
pub record IsRoom {J D Q A : Type 0} (many count : ℕ)
    (room : Room (Slotted (Option (ManuallyDrop J)) (Doing (ManuallyDrop J) (Hand J)) Q A) (Pass (ManuallyDrop J) (Hand J))
    (Worker (Pass (ManuallyDrop J) (Hand J)) D) D) : Type 0 where
  pub of : IsPassOf room.line room.pass
  pub fits : count ≤ ruled_capacity room.line
  pub first : view room.pass ≡ hand all_parts [] []
  pub workers : vec_len room.lists ≡ many
  pub lists : AllByRecursion (IsRoomOf count) room.lists.items
  pub own : IsRoomOf count room.own
  pub seats : (room.seats.items ≡ []) × (many ≤ vec_capacity room.seats)
  pub done : (room.done.items ≡ []) × (count ≤ vec_capacity room.done)
