-- What the closing of a filled file leaves on its disk.
use Rattle.std.proofs.Common.{◌≡◌, ◌⊎◌, ◌∙◌, inl, inr, subst, refl, ℕ, ◌<◌, List, Option, Some, None, Result, Ok, Err, arith}
use Rattle.nt_types.specs.ShapeData.{MemberData}
use Rattle.nt_outside.specs.Held.{Held}
use Rattle.nt_outside.specs.Disk.{DiskState}
use Rattle.nt_outside.specs.Reads.{Reads}
use Rattle.nt_outside.specs.Order.{BeginsOpen, EndsInSync}
use Rattle.nt_grammar.specs.Table.{Table}
use Rattle.nt_book.specs.declared.params.Params.{Params}
use Rattle.nt_book.specs.declared.limits.LimitError.{LimitError}
use Rattle.nt_book.specs.Books.{BookData}
use Rattle.nt_close.specs.Filled.{closing_tail, closing_front}
use Rattle.nt_close.specs.declared.error.CloseError.{CloseError}
use Rattle.nt_close.specs.declared.error.CloseError.TheVariants as close
use Rattle.nt_close.specs.Steps.{closed_on, closed_partly, closed_whole}
use Rattle.nt_close.specs.Laws.{ClosedIsFinished, EndsOverFirst}
use Rattle.nt_close.specs.Passing.{passed_by_close}
use Rattle.nt_close.specs.Damage.{IsTornAt, IsUnpublishedAt, IsUndamaged}
use Rattle.nt_close.specs.Spoiled.{IsUnspoiled, IsFirstSpoiled}
use Rattle.nt_close.specs.Closing.{HasCloseCause, LeavesClosed, IsCloseCut, StaysWithin}
use Rattle.nt_close.proofs.FirstByte.{cut_shut, closes_in_order}
use Rattle.nt_close.proofs.Within.{within}
use Rattle.nt_dealing.specs.Dealt.{commit_order}
use Rattle.nt_store.specs.declared.error.StoreError.TheVariants.{Outside}
use Rattle.nt_store.specs.Errors.{error_of_close}
use Rattle.nt_store.specs.Whole.{IsStored}
use Rattle.nt_store.specs.Laws.{RangesAreAsLong, FinishedAreStored, PassedAreOver, CrashesLeave}
use Rattle.nt_store.specs.Writing.{HoldsNow, KeepsOrder}
use Rattle.nt_store.specs.Crashes.{CrashLeaves}
use Rattle.nt_store.specs.Filling.{IsFilledFile, IsOfNoText, CloseLeaves}
use Rattle.nt_store.proofs.Begun.{shut_open, some_shut}
use Rattle.nt_store.proofs.Crashing.{leaves_open}
use Rattle.nt_store.proofs.Whole.{ranged}

none_spoiled : (book : BookData) (cluster faults : ℕ) → IsUndamaged book → IsFirstSpoiled book cluster faults → ⊥
none_spoiled book cluster faults none first = subst IsUnspoiled first.spoiled (none.unspoiled cluster first.inside)

none_torn : (book : BookData) (group faults : ℕ) → IsUndamaged book → IsTornAt book group faults → ⊥
none_torn book group faults none torn = cc (none.untorn, torn.torn)

none_unpublished : (book : BookData) (range : ℕ) → IsUndamaged book → IsUnpublishedAt book range → ⊥
none_unpublished book range none at =
    let one = none.published at.unpublished.staged range at.unpublished.inside at.unpublished.filled in
    at.unpublished.none one.0 one.1 one.2

-- a closing that fails names no text
pub of_no_text : (e : CloseError) → IsOfNoText (error_of_close e)
of_no_text (close.Spoiled cluster faults) = tt
of_no_text (close.Torn group faults) = tt
of_no_text (close.Unpublished range) = tt
of_no_text close.Memory = tt
of_no_text (close.RangeTooLarge len most) = tt
of_no_text (close.FileTooLarge end most) = tt
of_no_text close.Fault = tt

module _ (long : RangesAreAsLong) (stored : FinishedAreStored) (over : PassedAreOver) (finish : ClosedIsFinished) (t : Table) (p : Params)
    (book : BookData) (fields : List MemberData) (texts : List (List ℕ)) (h : Held) (filled : IsFilledFile fields p texts t book h) where
  abbrev ends : List ℕ
  ends = closing_tail p.staged t book p.group

  abbrev begins : List ℕ
  begins = closing_front p.staged t book p.group

  -- a file that stands there whole is stored
  stands : (left : Held) → StaysWithin t p book → left.image ≡ (closed_on ends begins h).image
      → IsStored p fields texts (commit_order book) left.image
  stands left stays whole =
      stored fields p texts t book filled.ranges left.image filled.holds stays
      (whole ∙ finish p.staged t book p.group filled.ranges h (ranged long fields p texts t book filled.ranges filled.holds) filled.image)

  -- it is closed
  pub closed_leaves : (new : Option Held) → new ≡ Some (closed_on ends begins h) → StaysWithin t p book
      → HoldsNow new (λ left. IsStored p fields texts (commit_order book) left.image × EndsInSync left.log)
  closed_leaves new is stays =
      (closed_on ends begins h, is, (stands (closed_on ends begins h) stays refl, (_, refl)))

  cut_leaves : (old new : DiskState) → old.held ≡ Some h → passed_by_close p t book ≡ None → IsCloseCut ends begins old new
      → HoldsNow new.held (λ left. BeginsOpen left.image
      ⊎ (IsStored p fields texts (commit_order book) left.image × EndsOverFirst left.log))
  cut_leaves old new is none cut =
      let left = cut.held h is in (
        left.0,
        left.1,
        elim (cut_shut ends begins h left.0 filled.shut left.2) [
          | inl still ↦ inl (shut_open left.0.image still)
          | inr whole ↦ inr (stands left.0 (within t p book filled.holds.kept filled.holds.noted filled.holds.untorn none) whole.0, whole.1)
        ],
      )

  still : (new : Option Held) → new ≡ Some h → HoldsNow new (λ left. BeginsOpen left.image)
  still new is = (h, is, shut_open h.image filled.shut)

  -- or why it isn't
  pub unclosed_leaves : (e : CloseError) (old new : DiskState) → old.held ≡ Some h → IsUndamaged book
      → HasCloseCause book (passed_by_close p t book) (Err e) → LeavesClosed ends begins old new (Err e)
      → CloseLeaves fields p texts (commit_order book) new.held (Err (error_of_close e))
  unclosed_leaves (close.Spoiled cluster faults) old new is undamaged cause left = absurd (none_spoiled book cluster faults undamaged cause)
  unclosed_leaves (close.Torn group faults) old new is undamaged cause left = absurd (none_torn book group faults undamaged cause)
  unclosed_leaves (close.Unpublished range) old new is undamaged cause left = absurd (none_unpublished book range undamaged cause)
  unclosed_leaves close.Memory old new is undamaged cause left = still new.held (left.place.held ∙ is)
  unclosed_leaves (close.RangeTooLarge len most) old new is undamaged cause left = (
    record {
      table = t;
      rows = filled.holds.rows;
      over = over fields p texts t book filled.ranges len most filled.holds (inl cause.1);
      by = record { sound = filled.holds.sound; fit = filled.holds.fit };
    },
    still new.held (left.place.held ∙ is),
  )
  unclosed_leaves (close.FileTooLarge end most) old new is undamaged cause left = (
    record {
      table = t;
      rows = filled.holds.rows;
      over = over fields p texts t book filled.ranges end most filled.holds (inr cause.1);
      by = record { sound = filled.holds.sound; fit = filled.holds.fit };
    },
    still new.held (left.place.held ∙ is),
  )
  unclosed_leaves close.Fault old new is undamaged cause left = cut_leaves old new is cause.1 left

module _ (leave : CrashesLeave) (t : Table) (p : Params) (book : BookData) (fields : List MemberData) (texts : List (List ℕ)) (h : Held)
    (filled : IsFilledFile fields p texts t book h) where
  -- what a crash leaves of one that is closed
  pub closed_crash : (new : Option Held) → StaysWithin t p book
      → new ≡ Some (closed_on (closing_tail p.staged t book p.group) (closing_front p.staged t book p.group) h)
      → HoldsNow new (λ left. CrashLeaves (IsStored p fields texts (commit_order book)) left.log (Ok tt))
  closed_crash new stays is = (
    closed_on (closing_tail p.staged t book p.group) (closing_front p.staged t book p.group) h,
    is,
    (
      leave.closing fields p texts t book filled.ranges h
          (closed_on (closing_tail p.staged t book p.group) (closing_front p.staged t book p.group) h) filled.holds stays
          filled.filled (closed_whole refl),
      leave.closed fields p texts t book filled.ranges h filled.holds stays filled.filled,
    ),
  )

  untouched : (e : CloseError) (new : Option Held) → new ≡ Some h
      → HoldsNow new (λ left. CrashLeaves (IsStored p fields texts (commit_order book)) left.log (Err (error_of_close e)))
  untouched e new is = (h, is, leaves_open (IsStored p fields texts (commit_order book)) h.log (error_of_close e) filled.unfinished)

  -- and of one that isn't
  pub unclosed_crash : (e : CloseError) (old new : DiskState) → old.held ≡ Some h → IsUndamaged book
      → HasCloseCause book (passed_by_close p t book) (Err e)
      → LeavesClosed (closing_tail p.staged t book p.group) (closing_front p.staged t book p.group) old new (Err e)
      → HoldsNow new.held (λ left. CrashLeaves (IsStored p fields texts (commit_order book)) left.log (Err (error_of_close e)))
  unclosed_crash (close.Spoiled cluster faults) old new is undamaged cause left = absurd (none_spoiled book cluster faults undamaged cause)
  unclosed_crash (close.Torn group faults) old new is undamaged cause left = absurd (none_torn book group faults undamaged cause)
  unclosed_crash (close.Unpublished range) old new is undamaged cause left = absurd (none_unpublished book range undamaged cause)
  unclosed_crash close.Memory old new is undamaged cause left = untouched close.Memory new.held (left.place.held ∙ is)
  unclosed_crash (close.RangeTooLarge len most) old new is undamaged cause left =
      untouched (close.RangeTooLarge len most) new.held (left.place.held ∙ is)
  unclosed_crash (close.FileTooLarge end most) old new is undamaged cause left =
      untouched (close.FileTooLarge end most) new.held (left.place.held ∙ is)
  unclosed_crash close.Fault old new is undamaged cause left =
      let some = left.held h is in (
        some.0,
        some.1,
        leave.closing fields p texts t book filled.ranges h some.0 filled.holds
            (within t p book filled.holds.kept filled.holds.noted filled.holds.untorn cause.1) filled.filled
            (closed_partly some.2),
      )

-- the steps stay in order
pub close_order : (tail front : List ℕ) (old new : DiskState) (result : Result Unit CloseError) → ((h : Held) → old.held ≡ Some h
    → Reads h.log h.image) → LeavesClosed tail front old new result
    → KeepsOrder old.held new.held
close_order tail front old new (Ok value) reads left h is =
    (_, left.held h is, λ shut order. closes_in_order tail front h (some_shut h.image shut) (reads h is) order _ (closed_whole refl))
close_order tail front old new (Err (close.Spoiled cluster faults)) reads left h is = (h, left.place.held ∙ is, λ shut order. order)
close_order tail front old new (Err (close.Torn group faults)) reads left h is = (h, left.place.held ∙ is, λ shut order. order)
close_order tail front old new (Err (close.Unpublished range)) reads left h is = (h, left.place.held ∙ is, λ shut order. order)
close_order tail front old new (Err close.Memory) reads left h is = (h, left.place.held ∙ is, λ shut order. order)
close_order tail front old new (Err (close.RangeTooLarge len most)) reads left h is = (h, left.place.held ∙ is, λ shut order. order)
close_order tail front old new (Err (close.FileTooLarge end most)) reads left h is = (h, left.place.held ∙ is, λ shut order. order)
close_order tail front old new (Err close.Fault) reads left h is =
    let some = left.held h is in
    (some.0, some.1, λ shut order. closes_in_order tail front h (some_shut h.image shut) (reads h is) order some.0 (closed_partly some.2))

-- the disk has failed where the closing did
pub close_fails : (book : BookData) (passed : Option LimitError) (tail front : List ℕ) (old new : DiskState) (e : CloseError)
    → IsUndamaged book → HasCloseCause book passed (Err e)
    → LeavesClosed tail front old new (Err e) → error_of_close e ≡ Outside → 0 < new.faults
close_fails book passed tail front old new (close.Spoiled cluster faults) undamaged cause left is = absurd (none_spoiled book cluster
    faults undamaged cause)
close_fails book passed tail front old new (close.Torn group faults) undamaged cause left is = absurd (none_torn book group faults undamaged
    cause)
close_fails book passed tail front old new (close.Unpublished range) undamaged cause left is =
    absurd (none_unpublished book range undamaged cause)
close_fails book passed tail front old new close.Memory undamaged cause left is = absurd (cc is)
close_fails book passed tail front old new (close.RangeTooLarge len most) undamaged cause left is = absurd (cc is)
close_fails book passed tail front old new (close.FileTooLarge end most) undamaged cause left is = absurd (cc is)
close_fails book passed tail front old new close.Fault undamaged cause left is = omega (arith, left.rose)
