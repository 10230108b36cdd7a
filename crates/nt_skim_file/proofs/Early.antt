-- What is left of the disk of a writer that ended early, and of one whose last cluster was written.
use Rattle.std.proofs.Common.{◌≡◌, ◌∙◌, inl, inr, ap, sym, refl, subst, ℕ, ◌+◌, ◌<◌, ◌≤◌, true, List, [], ◌++◌, length, None}
use Rattle.std.proofs.Common.{Some, Result, Ok}
use Rattle.std.proofs.Common.{Err, append-nil, arith}
use Rattle.nt_types.specs.ShapeData.{MemberData}
use Rattle.nt_types.specs.TreeData.{TreesData}
use Rattle.nt_outside.specs.Disk.{DiskState}
use Rattle.nt_outside.specs.Held.{Held, BecomesSome, nothing_held}
use Rattle.nt_outside.specs.Order.{FirstByteLast}
use Rattle.nt_grammar.specs.Rows.{Rows}
use Rattle.nt_grammar.specs.Table.{Table}
use Rattle.nt_book.specs.declared.limits.LimitError.{LimitError}
use Rattle.nt_book.specs.declared.limits.LimitError.TheVariants as limit
use Rattle.nt_book.specs.declared.params.Params.{Params}
use Rattle.nt_book.specs.Kept.{IsBookKept}
use Rattle.nt_close.specs.Laws.{IsShut}
use Rattle.nt_cuts.specs.Cuts.{LeavesUnfinished}
use Rattle.nt_commit.specs.declared.error.CommitError.{CommitError}
use Rattle.nt_commit.specs.declared.error.CommitError.TheVariants as commit
use Rattle.nt_seq.specs.Standing.{IsWriting}
use Rattle.nt_seq.specs.Writer.{SeqState, gathered_by}
use Rattle.nt_seq.specs.Written.{IsUnclosedOf}
use Rattle.nt_seq.specs.Changing.{FlushesNext}
use Rattle.nt_store.proofs.Begun.{shut_open}
use Rattle.nt_script.specs.declared.storing.Counts.{Counts}
use Rattle.nt_script.specs.Script.{last_entries}
use Rattle.nt_script.specs.Limits.{TellsLimit, PassesHere}
use Rattle.nt_script.specs.Passing.{IsWrittenNext, passes_writing}
use Rattle.nt_script.specs.Taking.{HasTakenLines, HasWrittenLines, HaltsAt}
use Rattle.nt_script.specs.Running.{error_of_commit}
use Rattle.nt_script.proofs.Flushed.{gathered_written, gathered_refused, given_flushed, given_refused}
use Rattle.nt_skim_file.specs.declared.error.SkimStoreError.{SkimStoreError}
use Rattle.nt_skim_file.specs.declared.error.SkimStoreError.TheVariants.{Outside}
use Rattle.nt_skim_file.specs.Errors.{skim_of_commit}
use Rattle.nt_skim_file.specs.Whole.{PassesSelected}
use Rattle.nt_skim_file.specs.Filing.{LeavesEntries, EndsEntries}

-- the law of files that aren't closed
abbrev pub UnclosedAreShut : Type 0
UnclosedAreShut = (t : Table) (h : Held) → IsUnclosedOf t h → IsShut h.image

-- the law of the order of files that aren't closed
abbrev pub UnclosedInOrder : Type 0
UnclosedInOrder = (t : Table) (h : Held) → IsUnclosedOf t h → FirstByteLast h.log

-- and of what a crash leaves of them
abbrev pub UnclosedLeave : Type 0
UnclosedLeave = (t : Table) (h : Held) → IsUnclosedOf t h → LeavesUnfinished h.log

module _ (F : List MemberData) (t : Table) (p : Params) (rows : Rows F p.plain t) (front rest : List TreesData) where
  -- a cluster behind the first entries passes a limit
  pub passes_there : (next : List TreesData) (error : LimitError) (reached most : ℕ) → IsWrittenNext p next (last_entries rest None)
      → PassesHere t p [] front next error → TellsLimit p error reached most → PassesSelected p F (front ++ rest) reached most
  passes_there next error reached most written passes tells = passes_writing error (record {
    first = t;
    rows = rows;
    segments = [];
    table = t;
    grows = refl;
    entries = front;
    next = next;
    passes = passes;
    behind = last_entries rest None;
    script_is = refl;
    written_next = written;
  }) tells

  module _ {D : Type 0} (state : D → DiskState) (w : SeqState D) (disk : DiskState) (h : Held) (held : disk.held ≡ Some h)
      (shut : IsShut h.image) (leaves : LeavesUnfinished h.log) (IsNext : List TreesData → Type 0)
      (written : (next : List TreesData) → IsNext next → IsWrittenNext p next (last_entries rest None)) where
    pub early_left : (e : CommitError) → HaltsAt state IsNext t p [] front w (error_of_commit e)
        → LeavesEntries p F (front ++ rest) disk (Err (skim_of_commit p.limits.clusters e))
    early_left (commit.RangeTooLarge len most) (next, is, passes) = record {
      told = (
        passes_there next (limit.RangeTooLarge len most) len most (written next is) passes (refl, refl),
        (h, held, shut_open h.image shut),
      );
      crash = (h, held, leaves);
    }
    early_left (commit.FileTooLarge end most) (next, is, passes) = record {
      told = (
        passes_there next (limit.FileTooLarge end most) end most (written next is) passes (refl, refl),
        (h, held, shut_open h.image shut),
      );
      crash = (h, held, leaves);
    }
    early_left commit.TooManyClusters (next, is, passes) = record {
      told = (
        passes_there next limit.TooManyClusters (p.limits.clusters + 1) p.limits.clusters (written next is) passes (refl, refl),
        (h, held, shut_open h.image shut),
      );
      crash = (h, held, leaves);
    }
    early_left commit.Memory halts = record { told = (h, held, shut_open h.image shut); crash = (h, held, leaves) }
    early_left commit.Fault halts = record {
      told = inl (h, held, inl (shut_open h.image shut));
      crash = (h, held, λ k bytes has may. inl (leaves k bytes has may));
    }

-- an answer is a fault of the outside where that of the writer is
pub commit_failed : (clusters : ℕ) (e : CommitError) → skim_of_commit clusters e ≡ Outside → e ≡ commit.Fault
commit_failed clusters (commit.RangeTooLarge len most) is = absurd (cc is)
commit_failed clusters (commit.FileTooLarge end most) is = absurd (cc is)
commit_failed clusters commit.TooManyClusters is = absurd (cc is)
commit_failed clusters commit.Memory is = absurd (cc is)
commit_failed clusters commit.Fault is = refl

module _ {D : Type 0} (state : D → DiskState) (old new : SeqState D) (disk : D) where
  abbrev Taken : List TreesData → Type 0
  Taken es = HasTakenLines state [] es old

  module _ (some : 0 < old.params.cluster) (few : length (gathered_by old) ≤ old.params.cluster) (alive : old.alive ≡ true) where
    -- the last cluster was written, and the file closed, or not
    pub finished : FlushesNext state old new (Ok tt) → (result : Result Counts SkimStoreError)
        → EndsEntries state new (λ es. HasWrittenLines state [] es new) disk result → EndsEntries state old Taken disk result
    finished flushes result ends =
        let given : new.given ≡ old.given = given_flushed state old new (λ none. (flushes.nothing none).1) flushes.ok in
        let empty_now : (state old.given).held ≡ Some nothing_held → (state new.given).held ≡ Some nothing_held =
        λ empty. ap (λ (d : D). (state d).held) given ∙ empty in
        record {
          left = λ F es rows taken empty.
              let wrote = gathered_written state [] es old new some few alive taken (λ none. (flushes.nothing none).1) flushes.ok in
              subst (λ (p : Params). LeavesEntries p F es (state disk) result) wrote.1.params
              (ends.left F es (subst (λ (t : Table). Rows F new.params.plain t) (sym wrote.1.table)
              (subst (λ (p : Params). Rows F p.plain old.table) (sym wrote.1.params) rows)) wrote.0 (empty_now empty));
          order = λ empty. ends.order (empty_now empty);
          failed = ends.failed;
        }

    module _ (kept : IsBookKept old.book) (is : IsWriting state old) (shut : UnclosedAreShut)
        (ordered : UnclosedInOrder) (leave : UnclosedLeave) (same : disk ≡ new.disk)
        (unclosed : BecomesSome (state new.given).held (state disk).held (λ h left. IsUnclosedOf new.begun left)) where
      -- or it wasn't written
      pub not_finished : (e : CommitError) → FlushesNext state old new (Err e)
          → EndsEntries state old Taken disk (Err (skim_of_commit old.params.limits.clusters e))
      not_finished e flushes =
          let given : new.given ≡ old.given = given_refused state old new e flushes.refused in
          let empty_now : (state old.given).held ≡ Some nothing_held → (state new.given).held ≡ Some nothing_held =
          λ empty. ap (λ (d : D). (state d).held) given ∙ empty in
          record {
            left = λ F es rows taken empty.
                let left = unclosed nothing_held (empty_now empty) in
                subst (λ (l : List TreesData). LeavesEntries old.params F l (state disk)
                (Err (skim_of_commit old.params.limits.clusters e))) (append-nil es)
                (early_left F old.table old.params rows es [] state new (state disk) left.0 left.1 (shut new.begun left.0 left.2)
                (leave new.begun left.0 left.2) (λ next. next ≡ gathered_by old) (λ next any. inr tt) e
                (gathered_refused state [] es old new e few kept is taken flushes.nothing flushes.limits flushes.refused.fault));
            order = λ empty. let left = unclosed nothing_held (empty_now empty) in (left.0, left.1, ordered new.begun left.0 left.2);
            failed = λ bad.
                let cut = flushes.refused.fault (ap (λ (f : CommitError). Err f) (commit_failed old.params.limits.clusters e (cc bad))) in
                subst (λ (d : D). 0 < (state d).faults) (sym same) (omega (arith, cut.fails.rose));
          }
