-- The file of entries that a writer has taken, once it is closed, or not.
use Rattle.std.proofs.Common.{◌≡◌, ◌∙◌, inl, inr, ap, subst, refl, ℕ, ◌<◌, List, [], Option, Some, None, Result}
use Rattle.std.proofs.Common.{Ok, Err, true, arith}
use Rattle.std.specs.Prelude.{IfOk}
use Rattle.nt_lists.specs.Chunks.{chunks}
use Rattle.nt_types.specs.ShapeData.{MemberData}
use Rattle.nt_types.specs.TreeData.{TreesData}
use Rattle.nt_outside.specs.Disk.{DiskState}
use Rattle.nt_outside.specs.Held.{Held, BecomesSome, nothing_held}
use Rattle.nt_outside.specs.Order.{BeginsOpen}
use Rattle.nt_grammar.specs.Rows.{Rows}
use Rattle.nt_book.specs.declared.limits.LimitError.{LimitError}
use Rattle.nt_book.specs.declared.limits.LimitError.TheVariants as limit
use Rattle.nt_book.specs.declared.meta.ClusterMeta.{ClusterMeta}
use Rattle.nt_book.specs.Kept.{IsBookKept}
use Rattle.nt_close.specs.declared.error.CloseError.{CloseError}
use Rattle.nt_close.specs.declared.error.CloseError.TheVariants as close
use Rattle.nt_close.specs.Passing.{passed_by_close, measures_of}
use Rattle.nt_seq.specs.Standing.{IsWriting, IsSequential}
use Rattle.nt_seq.specs.Writer.{SeqState}
use Rattle.nt_seq.specs.Written.{HasWritten, IsUnclosedOf}
use Rattle.nt_seq.specs.Closing.{IsFileOf, AreCounts, AnswersClosing, EndsFile, LeavesFile}
use Rattle.nt_store.specs.Writing.{HoldsNow}
use Rattle.nt_store.proofs.Begun.{shut_open}
use Rattle.nt_store.proofs.Crashing.{or_as}
use Rattle.nt_store.proofs.Passing.{Names}
use Rattle.nt_store.proofs.Whole.{measures}
use Rattle.nt_script.specs.declared.storing.Counts.{Counts}
use Rattle.nt_script.specs.Limits.{StandsWithin, IsOverEnd}
use Rattle.nt_script.specs.Passing.{passes_closing}
use Rattle.nt_script.specs.Taking.{HasWrittenLines}
use Rattle.nt_script.proofs.Closed.{none_spoiled, none_torn, none_unpublished}
use Rattle.nt_script.proofs.Passed.{stands_within, closed_over}
use Rattle.nt_script.proofs.Fitted.{closed_fits}
use Rattle.nt_script.proofs.Wholes.{LateFilesMean}
use Rattle.nt_skim_file.specs.declared.error.SkimStoreError.TheVariants.{Outside}
use Rattle.nt_skim_file.specs.Errors.{skim_of_close}
use Rattle.nt_skim_file.specs.Whole.{IsSelectedFile, AreSelectedNumbers, PassesSelected}
use Rattle.nt_skim_file.specs.Filing.{EntriesTold, LeavesEntries, EndsEntries}
use Rattle.nt_skim_file.proofs.Early.{UnclosedAreShut}

pub held_is : (held : Option Held) (h k : Held) → held ≡ Some h → held ≡ Some k → h ≡ k
held_is held h k one two = cc (one, two)

module _ {D : Type 0} (state : D → DiskState) (w : SeqState D) (F : List MemberData) (es : List TreesData)
    (rows : Rows F w.params.plain w.table) (has : HasWrittenLines state [] es w) where
  abbrev clusters : List (List TreesData)
  clusters = chunks w.params.cluster es

  written : HasWritten state w clusters
  written = has.written

  -- the file of the writer is that of the entries
  pub file_here : LateFilesMean → IsWriting state w → IsBookKept w.book → passed_by_close w.params w.table w.book ≡ None
      → (image : List ℕ) → IsFileOf state w image → IsSelectedFile w.params F es image
  file_here law is kept none image file = record {
    table = w.table;
    rows = rows;
    laid = file.first F rows clusters written;
    late = file.late clusters written;
    short = file.short clusters written;
    means = law image w.table clusters (measures_of w.params) file.described (measures w.params) (file.late clusters written);
    fits = closed_fits state w is kept none F w.table [] es rows refl has.keeps;
  }

  numbers_here : (counts : Counts) → AreCounts state w counts.clusters counts.entries → AreSelectedNumbers w.params es counts
  numbers_here counts are = let both = are clusters written in record { clusters = both.0; entries = both.1 }

  -- a limit that its closing passes
  over_here : IsWriting state w → IsBookKept w.book → (reached most : ℕ) (e : LimitError)
      → passed_by_close w.params w.table w.book ≡ Some e → Names e reached most → PassesSelected w.params F es reached most
  over_here is kept reached most e passed names = passes_closing (record {
    segments = [];
    entries = es;
    script_is = refl;
    written = record {
      first = w.table;
      rows = rows;
      table = w.table;
      grows = refl;
      own = has.keeps.own;
      kept = has.keeps.kept;
      within = subst (StandsWithin w.table w.params) has.keeps.metas (stands_within state w is kept);
    };
    over = subst (λ (ms : List ClusterMeta). IsOverEnd w.table w.params ms reached most) has.keeps.metas
        (closed_over w.table w.params w.book is.closable.noted is.not_staged kept is.closable.begin e reached most passed names);
  })

  module _ (law : LateFilesMean) (shut : UnclosedAreShut) (is : IsWriting state w) (kept : IsBookKept w.book)
      (now : HoldsNow (state w.disk).held (IsUnclosedOf w.begun)) (disk : D) where
    turn : passed_by_close w.params w.table w.book ≡ None → (bytes : List ℕ) → IsFileOf state w bytes
        → IsSelectedFile w.params F es bytes
    turn none bytes file = file_here law is kept none bytes file

    -- after Ok
    closed_here : (n : ℕ × ℕ) → passed_by_close w.params w.table w.book ≡ None → EndsFile state w disk (Ok n) → AreCounts state w n.0 n.1
        → HoldsNow (state disk).held (λ left. LeavesFile state w left (Ok n))
        → LeavesEntries w.params F es (state disk) (Ok (record { clusters = n.0; entries = n.1 }))
    closed_here n none ends are left =
        let same = held_is (state disk).held left.0 _ left.1 (ends.held now.0 now.1) in
        record {
          told = (
            (left.0, left.1, (turn none left.0.image left.2.whole, (_, ap (λ (k : Held). k.log) same))),
            numbers_here (record { clusters = n.0; entries = n.1 }) are,
          );
          crash = (
            left.0,
            left.1,
            (
              or_as (IsFileOf state w) (IsSelectedFile w.params F es) left.0.log (turn none) left.2.crash.0,
              λ bytes may. turn none bytes (left.2.crash.1 bytes may),
            ),
          );
        }

    still : (state disk).held ≡ (state w.disk).held → HoldsNow (state disk).held (λ left. BeginsOpen left.image)
    still same = (now.0, same ∙ now.1, shut_open now.0.image (shut w.begun now.0 now.2))

    -- or why not
    unclosed_here : (e : CloseError) → AnswersClosing w (Err e) → EndsFile state w disk (Err e)
        → HoldsNow (state disk).held (λ left. LeavesFile state w left (Err e))
        → LeavesEntries w.params F es (state disk) (Err (skim_of_close e))
    unclosed_here (close.Spoiled cluster faults) answers ends left =
        absurd (none_spoiled w.book cluster faults answers.undamaged answers.cause)
    unclosed_here (close.Torn group faults) answers ends left = absurd (none_torn w.book group faults answers.undamaged answers.cause)
    unclosed_here (close.Unpublished range) answers ends left =
        absurd (none_unpublished w.book range answers.undamaged answers.cause)
    unclosed_here close.Memory answers ends left =
        record { told = still ends.place.held; crash = (left.0, left.1, left.2.crash) }
    unclosed_here (close.RangeTooLarge len most) answers ends left = record {
      told = (over_here is kept len most (limit.RangeTooLarge len most) answers.cause.1 (inl refl), still ends.place.held);
      crash = (left.0, left.1, left.2.crash);
    }
    unclosed_here (close.FileTooLarge end most) answers ends left = record {
      told = (over_here is kept end most (limit.FileTooLarge end most) answers.cause.1 (inr refl), still ends.place.held);
      crash = (left.0, left.1, left.2.crash);
    }
    unclosed_here close.Fault answers ends left = record {
      told = elim left.2.shut as (λ _. EntriesTold w.params F es (state disk) (Err Outside)) [
        | inl shut-is ↦ inl (left.0, left.1, inl (shut_open left.0.image shut-is))
        | inr file ↦ inr (left.0, left.1, (turn answers.cause.1 left.0.image file.whole, file.last))
      ];
      crash = (left.0, left.1, or_as (IsFileOf state w) (IsSelectedFile w.params F es) left.0.log (turn answers.cause.1) left.2.crash);
    }

-- the disk has failed where the closing did
closing_failed : {D : Type 0} (state : D → DiskState) (w : SeqState D) (disk : D) (e : CloseError) → AnswersClosing w (Err e)
    → EndsFile state w disk (Err e) → skim_of_close e ≡ Outside → 0 < (state disk).faults
closing_failed state w disk (close.Spoiled cluster faults) answers ends is =
    absurd (none_spoiled w.book cluster faults answers.undamaged answers.cause)
closing_failed state w disk (close.Torn group faults) answers ends is =
    absurd (none_torn w.book group faults answers.undamaged answers.cause)
closing_failed state w disk (close.Unpublished range) answers ends is =
    absurd (none_unpublished w.book range answers.undamaged answers.cause)
closing_failed state w disk close.Memory answers ends is = absurd (cc is)
closing_failed state w disk (close.RangeTooLarge len most) answers ends is = absurd (cc is)
closing_failed state w disk (close.FileTooLarge end most) answers ends is = absurd (cc is)
closing_failed state w disk close.Fault answers ends is = omega (arith, ends.rose)

module _ {D : Type 0} (state : D → DiskState) (w : SeqState D) (law : LateFilesMean) (shut : UnclosedAreShut)
    (sequential : IsSequential state w) (alive : w.alive ≡ true) (kept : IsBookKept w.book) (disk : D) where
  abbrev Has : List TreesData → Type 0
  Has es = HasWrittenLines state [] es w

  closed_ok : (n : ℕ × ℕ) → passed_by_close w.params w.table w.book ≡ None → EndsFile state w disk (Ok n) → AreCounts state w n.0 n.1
      → BecomesSome (state w.given).held (state disk).held (λ h left. LeavesFile state w left (Ok n))
      → EndsEntries state w Has disk (Ok (record { clusters = n.0; entries = n.1 }))
  closed_ok n none ends are file = record {
    left = λ F es rows has empty.
        closed_here state w F es rows has law shut (sequential.writing alive) kept (sequential.unclosed nothing_held empty) disk n none
        ends are (file nothing_held empty);
    order = λ empty. let left = file nothing_held empty in (left.0, left.1, left.2.order);
    failed = λ bad. absurd (cc bad);
  }

  closed_not : (e : CloseError) → AnswersClosing w (Err e) → EndsFile state w disk (Err e)
      → BecomesSome (state w.given).held (state disk).held (λ h left. LeavesFile state w left (Err e))
      → EndsEntries state w Has disk (Err (skim_of_close e))
  closed_not e answers ends file = record {
    left = λ F es rows has empty.
        unclosed_here state w F es rows has law shut (sequential.writing alive) kept (sequential.unclosed nothing_held empty) disk e
        answers ends (file nothing_held empty);
    order = λ empty. let left = file nothing_held empty in (left.0, left.1, left.2.order);
    failed = λ bad. closing_failed state w disk e answers ends (cc bad);
  }

  module _ (r : Result (ℕ × ℕ) CloseError) (ends : EndsFile state w disk r)
      (file : BecomesSome (state w.given).held (state disk).held (λ h left. LeavesFile state w left r)) where
    -- the file was closed
    pub closed : (n : ℕ × ℕ) → r ≡ Ok n → AnswersClosing w r → IfOk r (λ m. AreCounts state w m.0 m.1)
        → EndsEntries state w Has disk (Ok (record { clusters = n.0; entries = n.1 }))
    closed n is answers are =
        closed_ok n (subst (AnswersClosing w) is answers).cause.1 (subst (EndsFile state w disk) is ends)
        (subst (λ (o : Result (ℕ × ℕ) CloseError). IfOk o (λ m. AreCounts state w m.0 m.1)) is are)
        (subst (λ (o : Result (ℕ × ℕ) CloseError). BecomesSome (state w.given).held (state disk).held (λ h left. LeavesFile state w left o))
        is file)

    -- or it wasn't
    pub not_closed : (e : CloseError) → r ≡ Err e → AnswersClosing w r → EndsEntries state w Has disk (Err (skim_of_close e))
    not_closed e is answers =
        closed_not e (subst (AnswersClosing w) is answers) (subst (EndsFile state w disk) is ends)
        (subst (λ (o : Result (ℕ × ℕ) CloseError). BecomesSome (state w.given).held (state disk).held (λ h left. LeavesFile state w left o))
        is file)
