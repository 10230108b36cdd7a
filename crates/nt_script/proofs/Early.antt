-- What is left of the disk of a script that ended early.
use Rattle.std.proofs.Common.{◌≡◌, ◌⊎◌, ◌∙◌, inl, inr, ap, sym, refl, subst, ℕ, ◌+◌, ◌<◌, List, Option}
use Rattle.std.proofs.Common.{Some, Result, Err}
use Rattle.nt_types.specs.ShapeData.{MemberData}
use Rattle.nt_outside.specs.Disk.{DiskState}
use Rattle.nt_outside.specs.Faults.{Rose}
use Rattle.nt_outside.specs.Held.{Held, BecomesSome, nothing_held}
use Rattle.nt_grammar.specs.Table.{Table}
use Rattle.nt_event.specs.Lines.{LinesState}
use Rattle.nt_book.specs.declared.limits.LimitError.{LimitError}
use Rattle.nt_book.specs.declared.limits.LimitError.TheVariants as limit
use Rattle.nt_book.specs.declared.params.Params.{Params}
use Rattle.nt_close.specs.Laws.{IsShut}
use Rattle.nt_cuts.specs.Cuts.{LeavesUnfinished}
use Rattle.nt_seq.specs.Writer.{SeqState}
use Rattle.nt_seq.specs.Written.{IsUnclosedOf}
use Rattle.nt_seq.proofs.Files.{shut-unclosed, order-unclosed}
use Rattle.nt_store.proofs.Begun.{shut_open}
use Rattle.nt_script.specs.declared.storing.Counts.{Counts}
use Rattle.nt_script.specs.declared.error.ScriptError.{ScriptError}
use Rattle.nt_script.specs.declared.error.ScriptError.TheVariants as script
use Rattle.nt_script.specs.declared.store_error.ScriptStoreError.{ScriptStoreError}
use Rattle.nt_script.specs.declared.store_error.ScriptStoreError.TheVariants.{Outside}
use Rattle.nt_script.specs.StoreErrors.{error_of_script}
use Rattle.nt_script.specs.Script.{Script, read_script}
use Rattle.nt_script.specs.Clusters.{bad_line}
use Rattle.nt_script.specs.Reading.{GivesScript}
use Rattle.nt_script.specs.Limits.{TellsLimit}
use Rattle.nt_script.specs.Passing.{PassesWriting, PassesNoneBefore, PassesLimit, passes_writing}
use Rattle.nt_script.specs.Running.{IsDoneScript, EndsEarlyFor, IsFirstWriter}
use Rattle.nt_seq.specs.Crashes.{AppendsLeave}
use Rattle.nt_script.specs.Filing.{LeavesScriptFile, FinishesScript, FilesScript}

module _ {D : Type 0} (state : D → DiskState) (F : List MemberData) (first : Table) (p : Params) (old new : LinesState) (w : SeqState D)
    (disk : DiskState) (text : List ℕ) (is : old.left ≡ Some text) where
  read_is : (s : Script) → GivesScript F old.left s → read_script F text ≡ s
  read_is s gives = subst (λ (o : Option (List ℕ)). GivesScript F o s) is gives

  -- the script passes the limit that is told
  passes_here : (error : LimitError) (s : Script) (reached most : ℕ) → GivesScript F old.left s → PassesWriting F p s error
      → TellsLimit p error reached most → PassesLimit F p (read_script F text) reached most
  passes_here error s reached most gives passes names =
      passes_writing error (subst (λ (o : Script). PassesWriting F p o error) (sym (read_is s gives)) passes) names

  -- what is left, where the file isn't closed
  early_left : (h : Held) → disk.held ≡ Some h → IsShut h.image → LeavesUnfinished h.log → (e : ScriptError)
      → EndsEarlyFor state F old.left first p old new w e
      → LeavesScriptFile F p text disk (Err (error_of_script p.limits.clusters e))
  early_left h held shut leaves (script.Line line kind) (s, gives, bad, before) = record {
    told = (
      record {
        first = ap bad_line (read_is s gives) ∙ bad;
        before = subst (λ (o : Script). PassesNoneBefore F p o (record { line = line; kind = kind })) (sym (read_is s gives)) before;
      },
      (h, held, shut_open h.image shut),
    );
    crash = (h, held, leaves);
  }
  early_left h held shut leaves (script.Limit (limit.RangeTooLarge len most)) (s, gives, passes) = record {
    told = (passes_here (limit.RangeTooLarge len most) s len most gives passes (refl, refl), (h, held, shut_open h.image shut));
    crash = (h, held, leaves);
  }
  early_left h held shut leaves (script.Limit (limit.FileTooLarge end most)) (s, gives, passes) = record {
    told = (passes_here (limit.FileTooLarge end most) s end most gives passes (refl, refl), (h, held, shut_open h.image shut));
    crash = (h, held, leaves);
  }
  early_left h held shut leaves (script.Limit limit.TooManyClusters) (s, gives, passes) = record {
    told = (
      passes_here limit.TooManyClusters s (p.limits.clusters + 1) p.limits.clusters gives passes (refl, refl),
      (h, held, shut_open h.image shut),
    );
    crash = (h, held, leaves);
  }
  early_left h held shut leaves script.Outside ends = record {
    told = inl (h, held, inl (shut_open h.image shut));
    crash = (h, held, λ k bytes has may. inl (leaves k bytes has may));
  }
  early_left h held shut leaves script.Memory ends = record { told = (h, held, shut_open h.image shut); crash = (h, held, leaves) }

early_failed : {D : Type 0} (state : D → DiskState) (F : List MemberData) (text : Option (List ℕ)) (first : Table) (p : Params)
    (old new : LinesState) (w : SeqState D) (clusters : ℕ) (e : ScriptError) → EndsEarlyFor state F text first p old new w e
    → error_of_script clusters e ≡ Outside → (0 < (state w.disk).faults) ⊎ Rose old.faults new.faults
early_failed state F text first p old new w clusters (script.Line line kind) ends is = absurd (cc is)
early_failed state F text first p old new w clusters (script.Limit (limit.RangeTooLarge len most)) ends is = absurd (cc is)
early_failed state F text first p old new w clusters (script.Limit (limit.FileTooLarge end most)) ends is = absurd (cc is)
early_failed state F text first p old new w clusters (script.Limit limit.TooManyClusters) ends is = absurd (cc is)
early_failed state F text first p old new w clusters script.Outside (inl rose) is = inr rose
early_failed state F text first p old new w clusters script.Outside (inr some) is = inl some
early_failed state F text first p old new w clusters script.Memory ends is = absurd (cc is)

-- the script of a writer was written, and its file closed, or not
pub files_done : {D : Type 0} (state : D → DiskState) (F : List MemberData) (old new : LinesState) (w now : SeqState D) (disk : D)
    (result : Result Counts ScriptStoreError) → IsFirstWriter state F old w → now.given ≡ w.given
    → IsDoneScript state F old.left w.table w.params now → FinishesScript state now disk result → FilesScript state w F old new disk result
files_done {D} state F old new w now disk result begins given done ends = record {
  left = λ text is empty.
      ends.left F text w.table w.params begins.rows
      (subst (λ (o : Option (List ℕ)). IsDoneScript state F o w.table w.params now) is done) (empty_now empty);
  order = λ empty. ends.order (empty_now empty);
  failed = λ bad. inl (ends.failed bad);
}
  where
    empty_now : (state w.given).held ≡ Some nothing_held → (state now.given).held ≡ Some nothing_held
    empty_now empty = ap (λ (d : D). (state d).held) given ∙ empty

-- or it ended early, and the disk came back as it was
pub files_early : {D : Type 0} (state : D → DiskState) (F : List MemberData) (old new : LinesState) (w now : SeqState D) (disk : D)
    (clusters : ℕ) (e : ScriptError) → AppendsLeave → w.params.limits.clusters ≡ clusters → now.given ≡ w.given
    → EndsEarlyFor state F old.left w.table w.params old new now e → disk ≡ now.disk
    → BecomesSome (state now.given).held (state disk).held (λ h left. IsUnclosedOf now.begun left)
    → FilesScript state w F old new disk (Err (error_of_script clusters e))
files_early {D} state F old new w now disk clusters e leave few given ends same unclosed =
    subst (λ (n : ℕ). FilesScript state w F old new disk (Err (error_of_script n e))) few (record {
      left = λ text is empty.
          let left = unclosed nothing_held (empty_now empty) in
          early_left state F w.table w.params old new now (state disk) text is left.0 left.1 (shut-unclosed now.begun left.0 left.2)
          (leave.unclosed now.begun left.0 left.2) e ends;
      order = λ empty. let left = unclosed nothing_held (empty_now empty) in (left.0, left.1, order-unclosed now.begun left.0 left.2);
      failed = λ bad.
          elim (early_failed state F old.left w.table w.params old new now w.params.limits.clusters e ends (cc bad)) [
            | inl some ↦ inl (subst (λ (d : D). 0 < (state d).faults) (sym same) some)
            | inr rose ↦ inr rose
          ];
    })
  where
    empty_now : (state w.given).held ≡ Some nothing_held → (state now.given).held ≡ Some nothing_held
    empty_now empty = ap (λ (d : D). (state d).held) given ∙ empty
