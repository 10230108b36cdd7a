-- The file of a script that is written whole, once it is closed, or not.
use Rattle.std.proofs.Common.{◌≡◌, ◌∙◌, inl, inr, ap, sym, subst, refl, ℕ, ◌<◌, List, Option, Some, None}
use Rattle.std.proofs.Common.{Result, Ok, Err, arith}
use Rattle.std.specs.Prelude.{IfOk}
use Rattle.nt_types.specs.ShapeData.{MemberData}
use Rattle.nt_outside.specs.Disk.{DiskState}
use Rattle.nt_outside.specs.Held.{Held, BecomesSome, nothing_held}
use Rattle.nt_outside.specs.Order.{BeginsOpen}
use Rattle.nt_grammar.specs.Rows.{Rows}
use Rattle.nt_grammar.specs.Table.{Table}
use Rattle.nt_book.specs.declared.limits.LimitError.TheVariants as limit
use Rattle.nt_book.specs.declared.list.Tear.{Tear}
use Rattle.nt_book.specs.declared.params.Params.{Params}
use Rattle.nt_book.specs.Books.{BookData}
use Rattle.nt_book.specs.Kept.{IsBookKept}
use Rattle.nt_book.specs.Listing.{torn_group}
use Rattle.nt_close.specs.declared.error.CloseError.{CloseError}
use Rattle.nt_close.specs.declared.error.CloseError.TheVariants as close
use Rattle.nt_close.specs.Closing.{HasCloseCause, LeavesClosed}
use Rattle.nt_close.specs.Damage.{IsUndamaged, IsTornAt, IsUnpublishedAt}
use Rattle.nt_close.specs.Filled.{closing_tail, closing_front}
use Rattle.nt_close.specs.Passing.{passed_by_close}
use Rattle.nt_close.specs.Spoiled.{IsUnspoiled, IsFirstSpoiled}
use Rattle.nt_close.specs.Steps.{closed_on}
use Rattle.nt_seq.specs.Standing.{IsWriting}
use Rattle.nt_seq.specs.Writer.{SeqState}
use Rattle.nt_seq.specs.Written.{IsUnclosedOf, file_so_far}
use Rattle.nt_seq.specs.Closing.{IsFileOf, AreCounts, AnswersClosing, EndsFile, LeavesFile}
use Rattle.nt_seq.proofs.Files.{shut-unclosed}
use Rattle.nt_store.specs.Writing.{HoldsNow}
use Rattle.nt_store.proofs.Begun.{shut_open}
use Rattle.nt_store.proofs.Crashing.{or_as}
use Rattle.nt_script.specs.declared.storing.Counts.{Counts}
use Rattle.nt_script.specs.declared.store_error.ScriptStoreError.{ScriptStoreError}
use Rattle.nt_script.specs.declared.store_error.ScriptStoreError.TheVariants.{Outside}
use Rattle.nt_script.specs.StoreErrors.{script_error_of_close}
use Rattle.nt_script.specs.Running.{IsDoneScript}
use Rattle.nt_script.specs.Whole.{IsScriptFile}
use Rattle.nt_script.specs.Filing.{ScriptFileTold, LeavesScriptFile, FinishesScript}
use Rattle.nt_script.proofs.Wholes.{LateFilesMean, file_here, numbers_here, over_here}

-- no range is spoiled, no page list failed, and none is unpublished
pub none_spoiled : (book : BookData) (cluster faults : ℕ) → IsUndamaged book → IsFirstSpoiled book cluster faults → ⊥
none_spoiled book cluster faults none first = subst IsUnspoiled first.spoiled (none.unspoiled cluster first.inside)

pub none_torn : (book : BookData) (group faults : ℕ) → IsUndamaged book → IsTornAt book group faults → ⊥
none_torn book group faults none at = cc (sym (ap (λ (x : Option Tear). torn_group x) none.untorn) ∙ at.torn)

pub none_unpublished : (book : BookData) (range : ℕ) → IsUndamaged book → IsUnpublishedAt book range → ⊥
none_unpublished book range none at =
    let one = none.published at.unpublished.staged range at.unpublished.inside at.unpublished.filled in
    at.unpublished.none one.0 one.1 one.2

held_is : (held : Option Held) (h k : Held) → held ≡ Some h → held ≡ Some k → h ≡ k
held_is held h k one two = cc (one, two)

module _ {D : Type 0} (state : D → DiskState) (w : SeqState D) (F : List MemberData) (text : List ℕ) (first : Table)
    (rows : Rows F w.params.plain first) (done : IsDoneScript state F (Some text) first w.params w) where
  module _ (law : LateFilesMean) (is : IsWriting state w) (kept : IsBookKept w.book) (empty : (state w.given).held ≡ Some nothing_held)
      (disk : D) where
    abbrev behind : List ℕ
    behind = closing_tail w.params.staged w.table w.book w.params.group

    abbrev before : List ℕ
    before = closing_front w.params.staged w.table w.book w.params.group

    -- what is held before it is closed
    abbrev h : Held
    h = file_so_far w.table is.blobs

    held : (state w.disk).held ≡ Some h
    held = is.held nothing_held empty

    unclosed : IsUnclosedOf w.table h
    unclosed = record { blobs = is.blobs; steps = inl refl }

    -- the closed file is that of the script
    turn : passed_by_close w.params w.table w.book ≡ None → (bytes : List ℕ) → IsFileOf state w bytes
        → IsScriptFile w.params F text bytes
    turn none bytes file = file_here state w F text first rows done law is kept none bytes file

    -- after Ok
    pub closed_here : (n : ℕ × ℕ) → passed_by_close w.params w.table w.book ≡ None → EndsFile state w disk (Ok n)
        → AreCounts state w n.0 n.1
        → HoldsNow (state disk).held (λ left. LeavesFile state w left (Ok n))
        → LeavesScriptFile F w.params text (state disk) (Ok (record { clusters = n.0; entries = n.1 }))
    closed_here n none ends are left =
        let same : left.0 ≡ closed_on behind before h =
        held_is (state disk).held left.0 (closed_on behind before h) left.1 (ends.held h held) in
        record {
          told = (
            (left.0, left.1, (turn none left.0.image left.2.whole, (_, ap (λ (k : Held). k.log) same))),
            numbers_here state w F text first rows done (record { clusters = n.0; entries = n.1 }) are,
          );
          crash = (
            left.0,
            left.1,
            (
              or_as (IsFileOf state w) (IsScriptFile w.params F text) left.0.log (turn none) left.2.crash.0,
              λ bytes may. turn none bytes (left.2.crash.1 bytes may),
            ),
          );
        }

    still : (state disk).held ≡ (state w.disk).held → HoldsNow (state disk).held (λ left. BeginsOpen left.image)
    still same = (h, same ∙ held, shut_open h.image (shut-unclosed w.table h unclosed))

    abbrev Ends : CloseError → Type 0
    Ends e = LeavesScriptFile F w.params text (state disk) (Err (script_error_of_close e))

    -- or why not
    pub unclosed_here : (e : CloseError) → IsUndamaged w.book → HasCloseCause w.book (passed_by_close w.params w.table w.book) (Err e)
        → LeavesClosed behind before (state w.disk) (state disk) (Err e)
        → HoldsNow (state disk).held (λ left. LeavesFile state w left (Err e)) → Ends e
    unclosed_here (close.Spoiled cluster faults) none cause left ends = absurd (none_spoiled w.book cluster faults none cause)
    unclosed_here (close.Torn group faults) none cause left ends = absurd (none_torn w.book group faults none cause)
    unclosed_here (close.Unpublished range) none cause left ends = absurd (none_unpublished w.book range none cause)
    unclosed_here close.Memory none cause left ends =
        record { told = still left.place.held; crash = (ends.0, ends.1, ends.2.crash) }
    unclosed_here (close.RangeTooLarge len most) none cause left ends = record {
      told = (
        over_here state w F text first rows done is kept len most (limit.RangeTooLarge len most) cause.1 (inl refl),
        still left.place.held,
      );
      crash = (ends.0, ends.1, ends.2.crash);
    }
    unclosed_here (close.FileTooLarge end most) none cause left ends = record {
      told = (
        over_here state w F text first rows done is kept end most (limit.FileTooLarge end most) cause.1 (inr refl),
        still left.place.held,
      );
      crash = (ends.0, ends.1, ends.2.crash);
    }
    unclosed_here close.Fault none cause left ends = record {
      told = elim ends.2.shut as (λ _. ScriptFileTold F w.params text (state disk) (Err Outside)) [
        | inl shut ↦ inl (ends.0, ends.1, inl (shut_open ends.0.image shut))
        | inr file ↦ inr (ends.0, ends.1, (turn cause.1 ends.0.image file.whole, file.last))
      ];
      crash = (
        ends.0,
        ends.1,
        or_as (IsFileOf state w) (IsScriptFile w.params F text) ends.0.log (turn cause.1) ends.2.crash,
      );
    }

-- the disk has failed where the closing did
closing_failed : {D : Type 0} (state : D → DiskState) (w : SeqState D) (disk : D) (e : CloseError) → IsUndamaged w.book
    → HasCloseCause w.book (passed_by_close w.params w.table w.book) (Err e)
    → LeavesClosed (closing_tail w.params.staged w.table w.book w.params.group)
    (closing_front w.params.staged w.table w.book w.params.group) (state w.disk) (state disk) (Err e)
    → script_error_of_close e ≡ Outside → 0 < (state disk).faults
closing_failed state w disk (close.Spoiled cluster faults) none cause left is = absurd (none_spoiled w.book cluster faults none cause)
closing_failed state w disk (close.Torn group faults) none cause left is = absurd (none_torn w.book group faults none cause)
closing_failed state w disk (close.Unpublished range) none cause left is = absurd (none_unpublished w.book range none cause)
closing_failed state w disk close.Memory none cause left is = absurd (cc is)
closing_failed state w disk (close.RangeTooLarge len most) none cause left is = absurd (cc is)
closing_failed state w disk (close.FileTooLarge end most) none cause left is = absurd (cc is)
closing_failed state w disk close.Fault none cause left is = omega (arith, left.rose)

module _ {D : Type 0} (state : D → DiskState) (w : SeqState D) (law : LateFilesMean) (is : IsWriting state w) (kept : IsBookKept w.book)
    (disk : D) where
  -- what is said by the parameters of the writer is said by these
  by_params : (result : Result Counts ScriptStoreError) (F : List MemberData) (text : List ℕ) (first : Table) (p : Params)
      → w.params ≡ p
      → (Rows F w.params.plain first → IsDoneScript state F (Some text) first w.params w
      → LeavesScriptFile F w.params text (state disk) result)
      → Rows F p.plain first → IsDoneScript state F (Some text) first p w → LeavesScriptFile F p text (state disk) result
  by_params result F text first p same left =
      subst (λ (q : Params). Rows F q.plain first → IsDoneScript state F (Some text) first q w
      → LeavesScriptFile F q text (state disk) result) same left

  closed_ok : (n : ℕ × ℕ) → passed_by_close w.params w.table w.book ≡ None → EndsFile state w disk (Ok n) → AreCounts state w n.0 n.1
      → BecomesSome (state w.given).held (state disk).held (λ h left. LeavesFile state w left (Ok n))
      → FinishesScript state w disk (Ok (record { clusters = n.0; entries = n.1 }))
  closed_ok n none ends are file = record {
    left = λ F text first p rows done empty.
        by_params (Ok (record { clusters = n.0; entries = n.1 })) F text first p done.params
        (λ r d. closed_here state w F text first r d law is kept empty disk n none ends are (file nothing_held empty)) rows done;
    order = λ empty. let left = file nothing_held empty in (left.0, left.1, left.2.order);
    failed = λ bad. absurd (cc bad);
  }

  closed_not : (e : CloseError) → AnswersClosing w (Err e) → EndsFile state w disk (Err e)
      → BecomesSome (state w.given).held (state disk).held (λ h left. LeavesFile state w left (Err e))
      → FinishesScript state w disk (Err (script_error_of_close e))
  closed_not e answers ends file = record {
    left = λ F text first p rows done empty.
        by_params (Err (script_error_of_close e)) F text first p done.params
        (λ r d. unclosed_here state w F text first r d law is kept empty disk e answers.undamaged answers.cause ends
        (file nothing_held empty)) rows done;
    order = λ empty. let left = file nothing_held empty in (left.0, left.1, left.2.order);
    failed = λ bad. closing_failed state w disk e answers.undamaged answers.cause ends (cc bad);
  }

  module _ (r : Result (ℕ × ℕ) CloseError) (ends : EndsFile state w disk r)
      (file : BecomesSome (state w.given).held (state disk).held (λ h left. LeavesFile state w left r)) where
    -- the file was closed
    pub finishes : (n : ℕ × ℕ) → r ≡ Ok n → AnswersClosing w r → IfOk r (λ m. AreCounts state w m.0 m.1)
        → FinishesScript state w disk (Ok (record { clusters = n.0; entries = n.1 }))
    finishes n is answers are =
        closed_ok n (subst (AnswersClosing w) is answers).cause.1 (subst (EndsFile state w disk) is ends)
        (subst (λ (o : Result (ℕ × ℕ) CloseError). IfOk o (λ m. AreCounts state w m.0 m.1)) is are)
        (subst (λ (o : Result (ℕ × ℕ) CloseError). BecomesSome (state w.given).held (state disk).held (λ h left. LeavesFile state w left o))
        is file)

    -- or it wasn't
    pub finishes_not : (e : CloseError) → r ≡ Err e → AnswersClosing w r → FinishesScript state w disk (Err (script_error_of_close e))
    finishes_not e is answers =
        closed_not e (subst (AnswersClosing w) is answers) (subst (EndsFile state w disk) is ends)
        (subst (λ (o : Result (ℕ × ℕ) CloseError). BecomesSome (state w.given).held (state disk).held (λ h left. LeavesFile state w left o))
        is file)
