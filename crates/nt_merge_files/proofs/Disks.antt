-- What a merge leaves of an empty disk, before it is back.
use Rattle.std.proofs.Common.{◌≡◌, sym, subst, refl, ℕ, List, Some, Result, Ok, Err}
use Rattle.nt_outside.specs.Disk.{DiskState}
use Rattle.nt_outside.specs.Held.{Held, nothing_held}
use Rattle.nt_outside.specs.Order.{FirstByteLast, BeginsOpen}
use Rattle.nt_grammar.specs.Table.{Table}
use Rattle.nt_book.specs.declared.params.Params.{Params}
use Rattle.nt_cuts.specs.Cuts.{LeavesUnfinished}
use Rattle.nt_store.specs.Writing.{HoldsNow}
use Rattle.nt_merge.specs.declared.error.MergeError.{MergeError}
use Rattle.nt_merge.specs.declared.error.MergeError.TheVariants as merge
use Rattle.nt_merge.specs.Merging.{Numbered, IsMergedFile, IsUnclosed, IsLeftUnfinished, MergesTold, nothing_written, shut}
use Rattle.nt_merge_files.specs.Errors.{counts_of_merge}
use Rattle.nt_merge_files.specs.Crashes.{MergeCrash}
use Rattle.nt_merge_files.proofs.Crashes.{only-unfinished}

-- its file can't pass for finished
pub begins-open : (left : Held) → IsUnclosed nothing_held left → BeginsOpen left.image
begins-open left (nothing_written same) = subst (λ (h : Held). BeginsOpen h.image) (sym same) tt
begins-open left (shut (rest, is)) = subst BeginsOpen (sym is) refl

module _ (t : Table) (p : Params) (ns : List Numbered) (old new : DiskState) (empty : old.held ≡ Some nothing_held) where
  abbrev IsWhole : List ℕ → Type 0
  IsWhole = IsMergedFile t p ns

  -- its steps are in order
  left-ordered : IsLeftUnfinished old new → HoldsNow new.held (λ h. FirstByteLast h.log)
  left-ordered left = let now = left nothing_held empty in (now.0, now.1, now.2.order)

  pub ordered : (merged : Result (ℕ × ℕ) MergeError) → MergesTold t p ns old new merged → HoldsNow new.held (λ h. FirstByteLast h.log)
  ordered (Ok (clusters, entries)) told = told.order nothing_held empty
  ordered (Err (merge.Defect file e)) told = left-ordered told.1
  ordered (Err (merge.Schema place)) told = absurd told
  ordered (Err (merge.RangeTooLarge len most)) told = left-ordered told.left
  ordered (Err (merge.FileTooLarge end most)) told = left-ordered told.left
  ordered (Err merge.TooManyClusters) told = left-ordered told.left
  ordered (Err merge.ReadFault) told = left-ordered told
  ordered (Err merge.DiskFault) told = let now = told nothing_held empty in (now.0, now.1, now.2.order)
  ordered (Err merge.Memory) told = left-ordered told

  -- what a crash leaves of it
  abbrev pub CrashesBy : Result (ℕ × ℕ) MergeError → Type 0
  CrashesBy merged = HoldsNow new.held (λ h. MergeCrash IsWhole h.log (counts_of_merge p.limits.clusters merged))

  left-crash : IsLeftUnfinished old new → HoldsNow new.held (λ h. LeavesUnfinished h.log)
  left-crash left = let now = left nothing_held empty in (now.0, now.1, now.2.crash)

  pub crashes : (merged : Result (ℕ × ℕ) MergeError) → MergesTold t p ns old new merged → CrashesBy merged
  crashes (Ok (clusters, entries)) told = told.crash nothing_held empty
  crashes (Err (merge.Defect file e)) told = left-crash told.1
  crashes (Err (merge.Schema place)) told = absurd told
  crashes (Err (merge.RangeTooLarge len most)) told = left-crash told.left
  crashes (Err (merge.FileTooLarge end most)) told = left-crash told.left
  crashes (Err merge.TooManyClusters) told = left-crash told.left
  crashes (Err merge.ReadFault) told = let now = left-crash told in (now.0, now.1, only-unfinished IsWhole now.0.log now.2)
  crashes (Err merge.DiskFault) told = let now = told nothing_held empty in (now.0, now.1, now.2.crash)
  crashes (Err merge.Memory) told = left-crash told
