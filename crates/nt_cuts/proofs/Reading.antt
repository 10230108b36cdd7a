-- What is left of a log that is cut off, as it is read.
use Rattle.std.proofs.Common.{◌≡◌, refl, subst, ℕ, zero, suc, List, [], ◌∷◌, ◌++◌, take, drop, ap, get_or, inl, inr}
use Rattle.std.specs.Prelude.{◌⊎◌}
use Rattle.std.specs.List.{AllByRecursion}
use Rattle.nt_num.specs.Codes.{unfinished}
use Rattle.nt_num.specs.Faults.{fault}
use Rattle.nt_outside.specs.Log.{Step, Sync}
use Rattle.nt_container.proofs.Gate.{unfinished_is}
use Rattle.nt_file_meaning.specs.Outlines.{outline_of}
use Rattle.nt_file_meaning.specs.Files.{read_file, HasDefect}
use Rattle.nt_cuts.specs.Cuts.{WritesFirst, HasSync, LeavesUnfinished, LeavesUnfinishedOr}
use Rattle.nt_cuts.specs.Shut.{StaysShut}
use Rattle.nt_cuts.proofs.Orders.{shut-cut, ZeroOr, Cut}

-- a file whose first byte is 0 isn't finished
pub unfinished-zero : (bytes : List ℕ) → get_or bytes 0 0 ≡ 0 → HasDefect bytes (fault unfinished 0)
unfolding read_file outline_of
unfinished-zero bytes shut = rw (unfinished_is bytes shut) refl

-- what is left wherever a log is cut off
pub read-cut : (Whole : List ℕ → Type 0) (log : List Step) → Cut Whole log → LeavesUnfinishedOr Whole log
read-cut Whole log cut k bytes has may = at (cut k bytes has may)
  where
    at : ZeroOr Whole (take k log) bytes → HasDefect bytes (fault unfinished 0) ⊎ (WritesFirst (take k log) × Whole bytes)
    at (inl shut) = inl (unfinished-zero bytes shut)
    at (inr left) = inr left

-- of one that is shut
pub read-shut : (log : List Step) → StaysShut log → LeavesUnfinished log
read-shut log shut k bytes has may = unfinished-zero bytes (shut-cut log shut k bytes has may)

-- steps of which none is a sync
abbrev HaveNone : List Step → Type 0
HaveNone steps = AllByRecursion (λ (s : Step). s ≡ Sync → ⊥) steps

none-kept : (steps : List Step) → HaveNone steps → (k : ℕ) → HasSync (take k steps) → ⊥
none-kept steps none k has = at steps none k has.before has.is
  where
    at : (steps : List Step) → HaveNone steps → (k : ℕ) (before : List Step) → take k steps ≡ before ++ Sync ∷ has.after → ⊥
    at steps none zero [] is = cc
    at steps none zero (b ∷ before) is = cc
    at [] none (suc k) [] is = cc
    at [] none (suc k) (b ∷ before) is = cc
    at (s ∷ steps) none (suc k) [] is = none.0 cc
    at (s ∷ steps) none (suc k) (b ∷ before) is = at steps none.1 k before (ap (drop 1) is)

-- of one without a sync nothing is said
pub unsynced-leaves : (log steps : List Step) → log ≡ steps → HaveNone steps → LeavesUnfinished log
unsynced-leaves log steps is none k bytes has may = absurd (none-kept steps none k (subst (λ (l : List Step). HasSync (take k l)) is has))
