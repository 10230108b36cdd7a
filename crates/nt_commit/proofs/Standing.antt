-- A disk and its book, which are in step.
use Rattle.std.proofs.Common.{◌≡◌, ◌∙◌, ap, sym, refl, ℕ, ◌+◌, ◌^◌, ◌≤◌, Bool, true, false, List, length, map, take}
use Rattle.std.proofs.Common.{Option, None, arith, subst}
use Rattle.std.specs.Prelude.{Contains}
use Rattle.nt_outside.specs.declared.range.Range.{Range}
use Rattle.nt_outside.specs.Range.{ExtState}
use Rattle.nt_outside.specs.Disk.{DiskState, IsNewExt}
use Rattle.nt_machine.specs.declared.entry.Entry.{Entry}
use Rattle.nt_machine.specs.History.{Cluster, ranges_of}
use Rattle.nt_machine.specs.Legal.{IsOut, ranges_end, end_after}
use Rattle.nt_book.specs.declared.limits.LimitError.{LimitError}
use Rattle.nt_book.specs.declared.meta.ClusterMeta.{ClusterMeta}
use Rattle.nt_book.specs.Books.{BookData, book_ranges, book_end, is_due}
use Rattle.nt_book.specs.Kept.{IsBookKept}
use Rattle.nt_book.specs.Limiting.{limit_error, limit_error_with}
use Rattle.nt_book.proofs.Fitting.{limit_error-none}
use Rattle.nt_pagelists.specs.Due.{due_len}
use Rattle.nt_pagelists.specs.Staying.{without_fate}
use Rattle.nt_pagelists.proofs.ListsStay.{list-stays}
use Rattle.nt_commit.specs.declared.claim.Claim.{Claim}
use Rattle.nt_commit.specs.Claims.{IsNewClaim, IsClaimOf}
use Rattle.nt_commit.specs.Holds.{locked_count}
use Rattle.nt_commit.specs.Lists.{IsNextPlace, NextPlace, limit_at}
use Rattle.nt_commit.specs.Locked.{LockedState, place_of, IsInStep, birth_with, book_of_birth, history_of_locked}
use Rattle.nt_commit.specs.Locked.{locked_by}
use Rattle.nt_commit.proofs.Claimed.{claim_out}
use Rattle.nt_commit.proofs.Handed.{contains_out}
use Rattle.nt_commit.proofs.Noting.{stays-told}
use Rattle.nt_commit.proofs.Placing.{due_or_none, bare-place, place-is}
use Rattle.nt_commit.proofs.ToldRanges.{told_out, told_end, told_last, told_count}
use Rattle.nt_commit.proofs.Unstaged.{clusters-plain, count-plain}

abbrev pub locked_of : {D : Type 0} → D → D → ℕ → BookData → LockedState D
locked_of begun disk contexts book = locked_by (birth_with begun book contexts) disk book

module _ {D : Type 0} (state : D → DiskState) (begun d : D) (contexts : ℕ) (b : BookData)
    (was : IsInStep state (locked_of begun d contexts b)) where
  abbrev old : LockedState D
  old = locked_of begun d contexts b

  abbrev history : List (Entry ClusterMeta)
  history = history_of_locked state old

  -- the ranges are no longer than the book
  pub ranges_before : end_after (state begun).end (ranges_of history) ≤ book_end b
  ranges_before =
      omega (
        arith,
        told_end (state begun).end (state begun).held (state d).held b.history,
        ap (λ (m : ℕ). end_after m (ranges_of b.history)) was.begin,
      )

  -- the last range ends where the book's does, or before
  pub begun_behind : ranges_end b.begin (ranges_of b.history) ≤ book_end b → ranges_end (state begun).end (ranges_of history) ≤ book_end b
  begun_behind behind =
      omega (
        arith,
        behind,
        ap (λ (m : ℕ). ranges_end m (ranges_of b.history)) was.begin,
        told_last (state begun).end (state begun).held (state d).held b.history,
      )

  pub count_is : length (book_ranges b) ≡ locked_count state old
  count_is = sym (told_count (state begun).held (state d).held b.history)

  -- where the next cluster begins, behind the list that is due
  module _ (kept : IsBookKept b) (due : ℕ) (due_is : due ≡ due_or_none (is_due b) (due_len b)) where
    end_is : end_after (state begun).end (ranges_of history) ≡ end_after b.begin (ranges_of b.history)
    end_is =
        told_end (state begun).end (state begun).held (state d).held b.history
        ∙ ap (λ (m : ℕ). end_after m (ranges_of b.history)) (sym was.begin)

    plain_place : b.staged ≡ false → IsNextPlace (book_of_birth state old.birth history) (book_end b) due
    plain_place plain =
        let B = book_of_birth state old.birth history in
        place-is b B kept was.lists was.torn was.listed was.ungrouped refl
        (count-plain B plain ∙ (sym count_is ∙ sym (count-plain b plain)))
        end_is
        (λ sum s le. list-stays sum b B s kept le (record {
          clusters = ap (λ (cs : List (Cluster ClusterMeta)). map without_fate (take (s.from + s.count) cs)) (clusters-plain B plain)
              ∙ (stays-told (s.from + s.count) (state begun).held (state d).held b.history
              ∙ sym (ap (λ (cs : List (Cluster ClusterMeta)). map without_fate (take (s.from + s.count) cs)) (clusters-plain b plain)));
          firsts = λ column less. refl;
        })) was.whole due due_is

    -- a staged book has no lists
    staged_place : b.staged ≡ true → IsNextPlace (book_of_birth state old.birth history) (book_end b) due
    staged_place staged =
        let none = kept.no_groups staged in
        bare-place b (book_of_birth state old.birth history) due none (was.ungrouped none) refl end_is due_is

    pub place_is : IsNextPlace (book_of_birth state old.birth history) (book_end b) due
    place_is = at b.staged refl
      where
        at : (s : Bool) → b.staged ≡ s → IsNextPlace (book_of_birth state old.birth history) (book_end b) due
        at true staged = staged_place staged
        at false plain = plain_place plain

    abbrev pub place_behind : NextPlace (book_of_birth state old.birth history)
    place_behind = record { before = book_end b; due = due; is = place_is }

    -- the limits that the book looked for
    pub limits_are : (len : ℕ) (answer : Option LimitError)
        → answer ≡ limit_error_with b.limits (book_end b) (length (book_ranges b)) len due
        → limit_at (book_of_birth state old.birth history) place_behind len ≡ answer
    limits_are len answer is =
        ap (λ (m : ℕ). limit_error_with b.limits (book_end b) m len due) (sym count_is) ∙ sym is

  -- a range that keeps the limits fits into a file
  pub range_fits : (len : ℕ) → limit_error b.limits (book_end b) (length (book_ranges b)) len ≡ None → (state d).end + len ≤ 2 ^ 63
  range_fits len is =
      let fits = limit_error-none b.limits (book_end b) (length (book_ranges b)) len is in
      omega (arith, fits.1, b.limits.file_bound, was.end)

  -- the claim that a commit hands out
  pub new_claim : {X : Type 0} (tell : X → ExtState) (n len : ℕ) (ext : X) → n ≡ length (book_ranges b)
      → IsNewExt len (state d) (tell ext)
      → IsNewClaim tell (state begun).held (locked_count state old) (book_end b) len (record { cluster = n; ext = ext })
  new_claim tell n len ext number is =
      record {
        number = number ∙ count_is;
        range = is.range ∙ ap (λ (m : ℕ). record { start = m; len = len }) was.end;
        unfilled = is.filled;
        empty = is.content;
        tells = λ h told. let first = was.follows.log h told in is.tells first.0 first.1;
      }

  -- the range of a claim is out, in the book and on the disk
  module _ {X : Type 0} (tell : X → ExtState) (i : ℕ) (claim : Claim X)
      (own : IsClaimOf tell (state begun).held (ranges_of history) i claim) where
    pub claimed : (is : IsOut (ranges_of history) i claim.cluster) × (place_of is.cluster ≡ (tell claim.ext).range)
    claimed = claim_out tell (state begun).held (state begun).end history i claim was.follows.legal own

    pub out_in_book : IsOut (ranges_of b.history) i claim.cluster
    out_in_book = told_out (state begun).held (state d).held b.history i claim.cluster claimed.0

    pub out_of_disk : Contains (state d).out (tell claim.ext).range
    out_of_disk =
        let is = claimed.0 in
        subst (λ (r : Range). Contains (state d).out r) claimed.1
        (subst (λ (l : List Range). Contains l (place_of is.cluster)) (sym was.follows.out)
        (contains_out (ranges_of history) claim.cluster is.cluster is.at is.out))
