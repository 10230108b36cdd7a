-- What is left of the disk of what is selected, all of which was put or a front of it.
use Rattle.std.proofs.Common.{◌≡◌, inl, inr, sym, refl, subst, ℕ, ◌+◌, List, [], ◌++◌, Some, Result, Ok, Err}
use Rattle.nt_num.specs.declared.fault.ReadError.{ReadError}
use Rattle.nt_types.specs.TreeData.{TreesData}
use Rattle.nt_outside.specs.Disk.{DiskState}
use Rattle.nt_outside.specs.Held.{Held}
use Rattle.nt_outside.specs.Log.{Step}
use Rattle.nt_outside.specs.Order.{BeginsOpen}
use Rattle.nt_grammar.specs.Rows.{Rows}
use Rattle.nt_grammar.specs.Table.{Table}
use Rattle.nt_book.specs.declared.limits.LimitError.{LimitError}
use Rattle.nt_book.specs.declared.limits.LimitError.TheVariants as limit
use Rattle.nt_book.specs.declared.params.Params.{Params}
use Rattle.nt_close.specs.Laws.{IsShut}
use Rattle.nt_commit.specs.declared.error.CommitError.{CommitError}
use Rattle.nt_commit.specs.declared.error.CommitError.TheVariants as commit
use Rattle.nt_cuts.specs.Cuts.{LeavesUnfinished}
use Rattle.nt_seq.specs.Writer.{SeqState}
use Rattle.nt_store.specs.Writing.{HoldsNow}
use Rattle.nt_store.proofs.Begun.{shut_open}
use Rattle.nt_store.proofs.Crashing.{or_as}
use Rattle.nt_script.specs.declared.storing.Counts.{Counts}
use Rattle.nt_script.specs.Limits.{TellsLimit, PassesHere}
use Rattle.nt_script.specs.Taking.{HaltsAt, MakesWhole}
use Rattle.nt_script.specs.Running.{error_of_commit}
use Rattle.nt_skim.specs.Select.{Selection, selected, entries_read, before_fault}
use Rattle.nt_skim_file.specs.declared.error.SkimStoreError.{SkimStoreError}
use Rattle.nt_skim_file.specs.declared.error.SkimStoreError.TheVariants.{Outside, Memory, Defect, Unplanned, Limit}
use Rattle.nt_skim_file.specs.Errors.{skim_of_commit}
use Rattle.nt_skim_file.specs.Whole.{IsSelectedFile, IsWholeSelection, PassesSelected}
use Rattle.nt_skim_file.specs.Crashes.{SkimCrash}
use Rattle.nt_skim_file.specs.Filing.{EntriesTold, LeavesEntries, SelectionTold, LeavesSelection}
use Rattle.nt_skim_file.proofs.Meanings.{before-none}
use Rattle.nt_skim_file.proofs.Early.{passes_there}

module _ (p : Params) (s : Selection) (rs : List (Result (List TreesData) ReadError)) where
  -- ---- all entries were read

  module _ (entries : List TreesData) (read : entries_read rs ≡ Ok entries) (disk : DiskState) where
    whole_as : (bytes : List ℕ) → IsSelectedFile p s.fields (selected s entries) bytes → IsWholeSelection p s rs bytes
    whole_as bytes whole = (entries, read, whole)

    all_told : (result : Result Counts SkimStoreError) → EntriesTold p s.fields (selected s entries) disk result
        → SelectionTold p s rs disk result
    all_told (Ok counts) told = (entries, read, told.0, told.1)
    all_told (Err Outside) (inl still_open) = inl still_open
    all_told (Err Outside) (inr (h, held, (whole, ends))) = inr (h, held, (whole_as h.image whole, ends))
    all_told (Err Memory) told = told
    all_told (Err (Defect e)) told = absurd told
    all_told (Err (Unplanned e)) told = absurd told
    all_told (Err (Limit reached most)) (over, still_open) = (
      subst (λ (l : List TreesData). PassesSelected p s.fields (selected s l) reached most) (sym (before-none rs entries read)) over,
      still_open,
    )

    all_crash : (log : List Step) (result : Result Counts SkimStoreError)
        → SkimCrash (IsSelectedFile p s.fields (selected s entries)) log result → SkimCrash (IsWholeSelection p s rs) log result
    all_crash log (Ok counts) leaves = (
      or_as (IsSelectedFile p s.fields (selected s entries)) (IsWholeSelection p s rs) log whole_as leaves.0,
      λ bytes may. whole_as bytes (leaves.1 bytes may),
    )
    all_crash log (Err Outside) leaves = or_as (IsSelectedFile p s.fields (selected s entries))
        (IsWholeSelection p s rs) log whole_as leaves
    all_crash log (Err Memory) leaves = leaves
    all_crash log (Err (Defect e)) leaves = leaves
    all_crash log (Err (Unplanned e)) leaves = leaves
    all_crash log (Err (Limit reached most)) leaves = leaves

    pub all_left : (result : Result Counts SkimStoreError) → LeavesEntries p s.fields (selected s entries) disk result
        → LeavesSelection p s rs disk result
    all_left result left = record {
      told = all_told result left.told;
      crash = (left.crash.0, left.crash.1, all_crash left.crash.0.log result left.crash.2);
    }

  -- ---- it ended early

  module _ (disk : DiskState) (h : Held) (held : disk.held ≡ Some h) (shut : IsShut h.image) (leaves : LeavesUnfinished h.log) where
    abbrev still_open : HoldsNow disk.held (λ k. BeginsOpen k.image)
    still_open = (h, held, shut_open h.image shut)

    -- the outside failed
    pub failed_left : LeavesSelection p s rs disk (Err Outside)
    failed_left = record {
      told = inl (h, held, inl (shut_open h.image shut));
      crash = (h, held, λ k bytes has may. inl (leaves k bytes has may));
    }

    -- memory was wanting
    pub wanting_left : LeavesSelection p s rs disk (Err Memory)
    wanting_left = record { told = still_open; crash = (h, held, leaves) }

    -- the clusters have a fault
    pub defect_left : (e : ReadError) → entries_read rs ≡ Err e → LeavesSelection p s rs disk (Err (Defect e))
    defect_left e read = record { told = (read, still_open); crash = (h, held, leaves) }

    module _ {D : Type 0} (state : D → DiskState) (t : Table) (rows : Rows s.fields p.plain t) (w : SeqState D)
        (front rest : List TreesData) (split : selected s (before_fault rs) ≡ front ++ rest) where
      over : (next : List TreesData) (error : LimitError) (reached most : ℕ) → MakesWhole p next → PassesHere t p [] front next error
          → TellsLimit p error reached most → PassesSelected p s.fields (selected s (before_fault rs)) reached most
      over next error reached most whole passes tells =
          subst (λ (l : List TreesData). PassesSelected p s.fields l reached most) (sym split)
          (passes_there s.fields t p rows front rest next error reached most (inl whole) passes tells)

      -- of what is selected before the first fault a front was taken, and more was refused
      pub refused_left : (e : CommitError) → HaltsAt state (MakesWhole p) t p [] front w (error_of_commit e)
          → LeavesSelection p s rs disk (Err (skim_of_commit p.limits.clusters e))
      refused_left (commit.RangeTooLarge len most) (next, whole, passes) = record {
        told = (over next (limit.RangeTooLarge len most) len most whole passes (refl, refl), still_open);
        crash = (h, held, leaves);
      }
      refused_left (commit.FileTooLarge end most) (next, whole, passes) = record {
        told = (over next (limit.FileTooLarge end most) end most whole passes (refl, refl), still_open);
        crash = (h, held, leaves);
      }
      refused_left commit.TooManyClusters (next, whole, passes) = record {
        told = (over next limit.TooManyClusters (p.limits.clusters + 1) p.limits.clusters whole passes (refl, refl), still_open);
        crash = (h, held, leaves);
      }
      refused_left commit.Memory halts = wanting_left
      refused_left commit.Fault halts = failed_left
