-- An image that was put behind all others, or failed there.
use Rattle.std.proofs.Common.{◌≡◌, ◌∙◌, ap, sym, subst, ℕ, ◌+◌, ◌<◌, ◌≤◌, ◌^◌, List, [], ◌∷◌, ◌++◌, ◌-◌, length, drop, arith}
use Rattle.std.proofs.lemmas.List.{length-append, length-drop}
use Rattle.nt_outside.specs.Held.{Becomes, BecomesSome, IsTornAppend, appended}
use Rattle.nt_outside.specs.Disk.{DiskState, HasSpare}
use Rattle.nt_outside.specs.Faults.{Rose}
use Rattle.nt_container.specs.Spelling.{blob_key}
use Rattle.nt_container.proofs.Lengths.{blob_key-len}
use Rattle.nt_book.specs.Appending.{IsAppendable}
use Rattle.nt_book.specs.Books.{BookData, book_ranges, book_end}
use Rattle.nt_book.specs.Entries.{faulted_entry}
use Rattle.nt_book.proofs.Fitting.{limit_error-none}
use Rattle.nt_pages.specs.declared.image.ClusterImage.{ClusterImage}
use Rattle.nt_pages.specs.Image.{key_room}
use Rattle.nt_append.specs.Appending.{keyed, GainsCluster, MayAppendRange, AppendsRange, FailsAtRange}

module _ (d : DiskState) (b : BookData) (i : ClusterImage) (may : MayAppendRange d b i) where
  pub roomy : 42 ≤ length i.bytes
  roomy = subst (λ (n : ℕ). 42 ≤ n) may.may.image_is.whole may.may.image_is.room

  long : length (keyed i.bytes (book_end b)) ≡ i.meta.len
  long =
      length-append (blob_key (length i.bytes - key_room) (book_end b)) (drop key_room i.bytes)
      ∙ omega (
        arith,
        blob_key-len (length i.bytes - key_room) (book_end b),
        length-drop key_room i.bytes,
        roomy,
        may.may.image_is.whole,
      )

  within-limits : i.meta.len ≤ b.limits.range
  within-limits = (limit_error-none b.limits (book_end b) (length (book_ranges b)) i.meta.len may.limits).0

  within-file : book_end b + i.meta.len ≤ b.limits.file
  within-file = (limit_error-none b.limits (book_end b) (length (book_ranges b)) i.meta.len may.limits).1

  pub short : length i.bytes < 2 ^ 32
  short = omega (arith, within-limits, b.limits.range_bound, may.may.image_is.whole)

  pub low : book_end b ≤ 2 ^ 56
  low = omega (arith, within-file, b.limits.file_bound)

  pub appendable : IsAppendable b i.meta
  appendable = record {
    not_staged = may.may.not_staged;
    limits = may.limits;
    spare = may.memory.book_room;
    not_due = may.not_due;
    lists = may.may.image_is.lists;
    paged = may.may.image_is.paged;
  }

  module _ (bytes : List ℕ) (bytes_are : bytes ≡ keyed i.bytes (book_end b)) where
    count : length bytes ≡ i.meta.len
    count = ap (λ (l : List ℕ). length l) bytes_are ∙ long

    pub range-sum : d.end + length bytes ≤ 2 ^ 63
    range-sum = omega (arith, count, within-file, b.limits.file_bound, may.may.end)

    pub range-spare : HasSpare d (length bytes)
    range-spare = record { step = may.memory.steps_left; bytes = omega (arith, count, may.memory.bytes_left) }

    module _ (d' : DiskState) (b' : BookData) where
      -- it stands there
      pub range-appended : Becomes d.held d'.held (appended bytes) → d'.end ≡ d.end + length bytes → d'.out ≡ d.out
          → d.faults ≤ d'.faults → GainsCluster i.meta b b' → AppendsRange i d d' b b'
      range-appended held end out later gains = record {
        held = subst (λ (l : List ℕ). Becomes d.held d'.held (appended l)) bytes_are held;
        end = omega (arith, end, count);
        out = out;
        later = later;
        gains = gains;
      }

      -- the append failed, and the fault is entered
      pub range-failed : (context faults spare : ℕ) → context ≡ i.meta.context → faults ≡ d'.faults
          → b' ≡ record b { history = b.history ++ faulted_entry context faults ∷ []; spare = spare }
          → BecomesSome d.held d'.held (IsTornAppend (length bytes)) → Rose d.faults d'.faults → d'.out ≡ d.out
          → FailsAtRange i d d' b b'
      range-failed context faults spare context_is faults_is is held rose out = record {
        held = subst (λ (n : ℕ). BecomesSome d.held d'.held (IsTornAppend n)) count held;
        rose = rose;
        out = out;
        book_is = is
            ∙ (ap (λ (n : ℕ). record b { history = b.history ++ faulted_entry n faults ∷ []; spare = spare }) context_is
            ∙ (ap (λ (n : ℕ). record b { history = b.history ++ faulted_entry i.meta.context n ∷ []; spare = spare }) faults_is
            ∙ ap (λ (n : ℕ). record b { history = b.history ++ faulted_entry i.meta.context d'.faults ∷ []; spare = n })
            (sym (ap (λ (x : BookData). x.spare) is))));
      }
