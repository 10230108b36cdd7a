-- What the steps of the end leave, with the parts of the finished file.
use Rattle.std.proofs.Common.{◌≡◌, ◌∙◌, ◌≤◌, ℕ, Bool, List, [], Some, ap, subst}
use Rattle.nt_outside.specs.Faults.{Rose}
use Rattle.nt_outside.specs.Held.{BecomesSome}
use Rattle.nt_outside.specs.Disk.{DiskState}
use Rattle.nt_container.specs.declared.parts.FileFields.{FileFields}
use Rattle.nt_grammar.specs.Table.{Table}
use Rattle.nt_book.specs.Books.{BookData}
use Rattle.nt_book.specs.Kept.{IsBookKept}
use Rattle.nt_layout.specs.Headers.{clusters_place}
use Rattle.nt_layout.specs.Finished.{front}
use Rattle.nt_layout.specs.Arranged.{HasLists}
use Rattle.nt_close.specs.Steps.{closed_on, IsClosedPartly, IsEndedWith}
use Rattle.nt_close.specs.Making.{IsEnding, front_with}
use Rattle.nt_close.specs.Filled.{closing_tail, closing_front}
use Rattle.nt_close.specs.Closing.{IsClosed, IsCloseCut, BecomesFinished}
use Rattle.nt_close.proofs.Finishing.{closed-is}

module _ (staged : Bool) (t : Table) (book : BookData) (most : ℕ) where
  front_is : (bytes : List ℕ) (f : FileFields) → IsEnding staged t book most bytes f → front_with f ≡ closing_front staged t book most
  unfolding front
  front_is bytes f is = ap front_with is.fields_are

  -- all steps were taken on a disk for which there was room
  pub closed : (bytes text lead : List ℕ) (f : FileFields) (old mid new : DiskState) → IsEnding staged t book most bytes f → text ≡ bytes
      → lead ≡ front_with f → mid.held ≡ old.held → mid.faults ≡ old.faults
      → IsEndedWith text lead mid new → new.out ≡ [] → mid.faults ≤ new.faults
      → IsClosed (closing_tail staged t book most) (closing_front staged t book most) old new
  closed bytes text lead f old mid new is text-is lead-is held faults ok out later = record {
    held = λ h was.
        ok.held h (held ∙ was)
        ∙ (ap (λ (l : List ℕ). Some (closed_on l lead h)) (text-is ∙ is.bytes_are)
        ∙ ap (λ (l : List ℕ). Some (closed_on (closing_tail staged t book most) l h)) (lead-is ∙ front_is bytes f is));
    out = out;
    later = subst (λ (n : ℕ). n ≤ new.faults) faults later;
  }

  -- a step failed
  pub cut : (bytes text lead : List ℕ) (f : FileFields) (old mid new : DiskState) → IsEnding staged t book most bytes f → text ≡ bytes
      → lead ≡ front_with f → mid.held ≡ old.held → mid.faults ≡ old.faults
      → BecomesSome mid.held new.held (IsClosedPartly text lead) → new.out ≡ [] → Rose mid.faults new.faults
      → IsCloseCut (closing_tail staged t book most) (closing_front staged t book most) old new
  cut bytes text lead f old mid new is text-is lead-is held faults left out rose = record {
    held = λ h was.
        let stands = left h (held ∙ was) in (
          stands.0,
          stands.1,
          subst (λ (l : List ℕ). IsClosedPartly (closing_tail staged t book most) l h stands.0) (lead-is ∙ front_is bytes f is)
              (subst (λ (l : List ℕ). IsClosedPartly l lead h stands.0) (text-is ∙ is.bytes_are) stands.2),
        );
    out = out;
    rose = subst (λ (n : ℕ). Rose n new.faults) faults rose;
  }

  -- the finished file stands there
  pub finished-there : (old new : DiskState) → IsBookKept book → HasLists staged t most book → book.begin ≡ clusters_place t
      → IsClosed (closing_tail staged t book most) (closing_front staged t book most) old new
      → BecomesFinished staged t book most old.held new.held
  finished-there old new kept lists begins closes ranges are h is was = (
    closed_on (closing_tail staged t book most) (closing_front staged t book most) h,
    closes.held h is,
    closed-is staged t book most ranges h (record { kept = kept; lists = lists; begin = begins; lens = are }) was,
  )
