-- A cluster or a fault is entered in the book of a disk.
use Rattle.std.proofs.Common.{◌≡◌, ◌∙◌, ap, sym, ℕ, ◌+◌, ◌^◌, ◌<◌, ◌≤◌, List, [], ◌∷◌, ◌++◌, length, None, arith, subst}
use Rattle.std.proofs.Common.{append-nil, Bool, Option, inl, inr}
use Rattle.std.proofs.lemmas.Bool.{cases_lt}
use Rattle.std.specs.List.{AllByRecursion}
use Rattle.nt_outside.specs.Log.{Reserve}
use Rattle.nt_outside.specs.Held.{BecomesSome, IsReserved}
use Rattle.nt_outside.specs.Disk.{DiskState, KeepsPlace}
use Rattle.nt_outside.specs.Faults.{Rose}
use Rattle.nt_machine.specs.declared.entry.Entry.{Entry}
use Rattle.nt_machine.specs.declared.entry.EntryKind.TheVariants as entry
use Rattle.nt_machine.specs.History.{numbers_of, own_of, ranges_of}
use Rattle.nt_machine.specs.Legal.{IsFilledRange, ranges_end}
use Rattle.nt_book.specs.declared.meta.ClusterMeta.{ClusterMeta}
use Rattle.nt_book.specs.Books.{BookData, book_ranges, book_end}
use Rattle.nt_book.specs.Kept.{IsBookKept}
use Rattle.nt_book.specs.Entries.{faulted_entry, published_entry}
use Rattle.nt_book.specs.Limiting.{limit_error}
use Rattle.nt_book.proofs.Fitting.{limit_error-none}
use Rattle.nt_commit.specs.Claims.{reserving_entry}
use Rattle.nt_commit.specs.Holds.{IsLater, locked_count}
use Rattle.nt_commit.specs.Locked.{LockedState, IsInStep, history_of_locked}
use Rattle.nt_commit.proofs.Following.{risen, IsDiskAfter-fault}
use Rattle.nt_commit.proofs.Publishing.{told_numbers}
use Rattle.nt_commit.proofs.Reserving.{reserving-len, reserving-within, IsDiskAfter-publish, IsDiskAfter-reserve}
use Rattle.nt_commit.proofs.Standing.{locked_of, count_is, ranges_before, begun_behind}
use Rattle.nt_commit.proofs.Stepping.{HasHistory, told-published, told-reserving, told-faulted, grows_to}

module _ {D : Type 0} (state : D → DiskState) (begun d : D) (contexts : ℕ) (b : BookData)
    (was : IsInStep state (locked_of begun d contexts b)) where
  abbrev old : LockedState D
  old = locked_of begun d contexts b

  abbrev history : List (Entry ClusterMeta)
  history = history_of_locked state old

  module _ (d' : D) (b' : BookData) where
    abbrev new : LockedState D
    new = locked_of begun d' contexts b'

    -- a fault was entered
    pub faulted : IsBookKept b → (i faults spare : ℕ) → HasHistory b b' (b.history ++ faulted_entry i faults ∷ []) spare b.ready
        → i ≤ contexts → KeepsPlace (state d) (state d')
        → (state d).faults ≤ (state d').faults → Rose (state d).faults (state d').faults → faults ≡ (state d').faults → faults < 2 ^ 64
        → IsLater state old new × (history_of_locked state new ≡ history ++ faulted_entry i (state d').faults ∷ [])
    faulted kept i faults spare is context place later rose count fits =
        let done = grows_to state begun d contexts b was d' b' kept (faulted_entry i faults) (faulted_entry i faults) spare [] is
        (λ h was. (h, place.held ∙ was, sym (append-nil h.log))) (told-faulted (state begun).held i faults [])
        (omega (arith, place.end))
        (IsDiskAfter-fault (state begun) (state d) (state d') contexts history was.lists was.torn was.follows i faults context place.held
        place.end place.out
        (risen (state d).faults faults (omega (arith, later, count)) (subst (λ (n : ℕ). Rose (state d).faults n) (sym count) rose)
        fits) (omega (arith, count))) tt in
        (done.0, done.1 ∙ ap (λ (n : ℕ). history ++ faulted_entry i n ∷ []) count)

    -- a range was reserved for a cluster, and entered as a staged one or not
    pub entered : IsBookKept b → (staged : Bool) (n spare : ℕ) {ready : Option ℕ} (meta : ClusterMeta)
        → HasHistory b b' (b.history ++ reserving_entry staged n (book_end b) meta ∷ []) spare ready
        → n ≡ length (book_ranges b) → ranges_end b.begin (ranges_of b.history) ≤ book_end b
        → limit_error b.limits (book_end b) (length (book_ranges b)) meta.len ≡ None → meta.context ≤ contexts → 42 ≤ meta.len
        → BecomesSome (state d).held (state d').held (IsReserved (state d).end meta.len) → (state d').end ≡ (state d).end + meta.len
        → (state d').out ≡ (state d).out ++ record { start = (state d).end; len = meta.len } ∷ [] → (state d).faults ≤ (state d').faults
        → IsLater state old new
        × (history_of_locked state new ≡ history ++ reserving_entry staged (locked_count state old) (book_end b) meta ∷ [])
    entered kept staged n spare meta is number behind limits context room log end out later =
        let e = reserving_entry staged n (book_end b) meta in
        let done = grows_to state begun d contexts b was d' b' kept e e spare
        (Reserve (state d).end meta.len ∷ []) is
        (λ h was. let next = log h was in (next.0, next.1, next.2.log))
        (told-reserving staged (state begun).held n (book_end b) meta (Reserve (state d).end meta.len ∷ []))
        (end ∙ ap (λ (m : ℕ). (state d).end + m) (sym (reserving-len staged n (book_end b) meta)))
        (IsDiskAfter-reserve (state begun) (state d) (state d') contexts history was.lists was.torn was.follows meta.context n
        (book_end b) meta.len meta staged (number ∙ count_is state begun d contexts b was)
        (begun_behind state begun d contexts b was behind) was.end
        context room log end out later)
        (let free = limit_error-none b.limits (book_end b) (length (book_ranges b)) meta.len limits in
        reserving-within b.limits (state begun).end (ranges_of history) staged n (book_end b) meta
        (free.0, omega (arith, free.1, ranges_before state begun d contexts b was), fewer free.2)) in (
          done.0,
          done.1 ∙ ap (λ (m : ℕ). history ++ reserving_entry staged m (book_end b) meta ∷ [])
              (number ∙ count_is state begun d contexts b was),
        )
      where
        fewer : (length (book_ranges b) ≡ b.limits.clusters → ⊥) → length (ranges_of history) < b.limits.clusters
        fewer differ =
            let few = was.within.few in
            elim (cases_lt (length (ranges_of history)) b.limits.clusters) [
              | inl less ↦ less
              | inr more ↦ absurd (differ (omega (arith, more, few, count_is state begun d contexts b was)))
            ]

  -- a context published its ranges
  pub published : (b' : BookData) → IsBookKept b → (i : ℕ) {ready : Option ℕ}
      → HasHistory b b' (b.history ++ published_entry (book_ranges b) i ∷ []) b.spare ready → i ≤ contexts
      → AllByRecursion IsFilledRange (own_of (ranges_of history) i)
      → IsLater state old (locked_of begun d contexts b')
      × (history_of_locked state (locked_of begun d contexts b') ≡ history ++ published_entry (ranges_of history) i ∷ [])
  published b' kept i is context filled =
      let e = published_entry (book_ranges b) i in
      let same = told_numbers (state begun).held (state d).held b.history i in
      let done = grows_to state begun d contexts b was d b' kept e e b.spare [] is (λ h was. (h, was, sym (append-nil h.log)))
      (told-published (state begun).held i (numbers_of (own_of (book_ranges b) i)) []) (omega arith)
      (IsDiskAfter-publish (state begun) (state d) (state d) contexts history was.lists was.torn was.follows i
      (numbers_of (own_of (book_ranges b) i))
      (sym same, filled) context) tt in
      (done.0, done.1 ∙ ap (λ (ns : List ℕ). history ++ record { context = i; kind = entry.Published ns } ∷ []) (sym same))
