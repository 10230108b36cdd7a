-- What a crash leaves, of files that are whole in one sense and so in another.
use Rattle.std.proofs.Common.{◌≡◌, ◌⊎◌, inl, inr, ℕ, List, take, Option, Result, Ok, Err}
use Rattle.nt_num.specs.Codes.{unfinished}
use Rattle.nt_num.specs.Faults.{fault}
use Rattle.nt_outside.specs.Log.{Step}
use Rattle.nt_outside.specs.Order.{FirstByteLast}
use Rattle.nt_outside.specs.World.{World}
use Rattle.nt_file_meaning.specs.Files.{HasDefect}
use Rattle.nt_cuts.specs.Cuts.{WritesFirst, LeavesUnfinished, LeavesUnfinishedOr}
use Rattle.nt_store.specs.Worlds.{IsWrittenInOrder, IsLeftAfter}
use Rattle.nt_store.proofs.Refused.{none_made}
use Rattle.nt_merge_files.specs.declared.error.MergeStoreError.{MergeStoreError}
use Rattle.nt_merge_files.specs.declared.error.MergeStoreError.TheVariants.{Outside, Memory, Defect, Schema, Limit}
use Rattle.nt_merge_files.specs.Crashes.{MergeCrash, LeavesMerge, MergeCrashTold}

-- what isn't finished, and nothing else
pub only-unfinished : (Whole : List ℕ → Type 0) (log : List Step) → LeavesUnfinished log → LeavesUnfinishedOr Whole log
only-unfinished Whole log leaves k bytes has may = inl (leaves k bytes has may)

module _ (Whole Other : List ℕ → Type 0) (into : (bytes : List ℕ) → Whole bytes → Other bytes) where
  or-into : (log : List Step) → LeavesUnfinishedOr Whole log → LeavesUnfinishedOr Other log
  or-into log leaves k bytes has may = at (leaves k bytes has may)
    where
      at : HasDefect bytes (fault unfinished 0) ⊎ (WritesFirst (take k log) × Whole bytes)
          → HasDefect bytes (fault unfinished 0) ⊎ (WritesFirst (take k log) × Other bytes)
      at (inl none) = inl none
      at (inr whole) = inr (whole.0, into bytes whole.1)

  crash-into : {T : Type 0} (log : List Step) (result : Result T MergeStoreError) → MergeCrash Whole log result
      → MergeCrash Other log result
  crash-into log (Ok done) leaves = (or-into log leaves.0, λ bytes may. into bytes (leaves.1 bytes may))
  crash-into log (Err Outside) leaves = or-into log leaves
  crash-into log (Err Memory) leaves = leaves
  crash-into log (Err (Defect file e)) leaves = leaves
  crash-into log (Err (Schema place)) leaves = leaves
  crash-into log (Err (Limit reached limit)) leaves = leaves

  pub leaves-into : {T : Type 0} (name : List ℕ) (w' : World) (result : Result T MergeStoreError) → LeavesMerge Whole name w' result
      → LeavesMerge Other name w' result
  leaves-into name w' result left = record {
    at = left.at;
    log = left.log;
    there = left.there;
    steps = left.steps;
    leaves = crash-into left.log result left.leaves;
  }

-- ---- the steps of a file

module _ (name : List ℕ) (v : World) where
  pub written-in-order : IsLeftAfter FirstByteLast name v → IsWrittenInOrder name v
  written-in-order left = record { at = left.at; log = left.log; there = left.there; steps = left.steps; order = left.ends }

  pub order-left : IsWrittenInOrder name v → IsLeftAfter FirstByteLast name v
  order-left kept = record { at = kept.at; log = kept.log; there = kept.there; steps = kept.steps; ends = kept.order }

  module _ {T : Type 0} (Whole : List ℕ → Type 0) (result : Result T MergeStoreError) where
    pub leaves-behind : IsLeftAfter (λ (log : List Step). MergeCrash Whole log result) name v → LeavesMerge Whole name v result
    leaves-behind left = record { at = left.at; log = left.log; there = left.there; steps = left.steps; leaves = left.ends }

    -- and what they leave is that of another answer
    pub behind-as : {S : Type 0} (other : Result S MergeStoreError)
        → ((log : List Step) → MergeCrash Whole log result → MergeCrash Whole log other) → LeavesMerge Whole name v result
        → IsLeftAfter (λ (log : List Step). MergeCrash Whole log other) name v
    behind-as other later left =
        record { at = left.at; log = left.log; there = left.there; steps = left.steps; ends = later left.log left.leaves }

-- where no disk was made there is nothing to leave
pub none-left : {T : Type 0} (Whole : World → List ℕ → Type 0) (name : List ℕ) (old new : Option World)
    (result : Result T MergeStoreError) → new ≡ old → MergeCrashTold Whole name old new result
none-left Whole name old new result stays w w' is is' made = absurd (none_made name old new stays w w' is is' made)
