-- Where the next cluster begins behind the page lists of a book.
use Rattle.std.proofs.Common.{◌≡◌, ◌∙◌, ap, sym, refl, subst, ℕ, suc, ◌+◌, ◌*◌, ◌/◌, ◌≤◌, ◌<◌, ◌==◌, Bool, true, false, List, length}
use Rattle.std.proofs.Common.{Option, Some, None, arith, inl, inr}
use Rattle.std.specs.Prelude.{IfSome, if◌then◌else◌}
use Rattle.std.proofs.lemmas.Bool.{eqb-true, eqb-false, cases_lt}
use Rattle.std.proofs.lemmas.Nat.{le-div}
use Rattle.std.proofs.Math.Nat.{add-mul, one-mul, div-eq_of_lt-le, div-mul-le_self}
use Rattle.nt_lists.specs.Parts.{Part}
use Rattle.nt_machine.specs.History.{ranges_of}
use Rattle.nt_machine.specs.Legal.{end_after}
use Rattle.nt_book.specs.declared.list.NotedList.{NotedList}
use Rattle.nt_book.specs.declared.list.Tear.{Tear}
use Rattle.nt_book.specs.Books.{BookData, book_clusters, book_end, is_due}
use Rattle.nt_book.specs.Kept.{IsBookKept}
use Rattle.nt_book.specs.Listing.{AtMostOneUnlisted, HasNoLists, clusters_listed, group_size, is_due_after, lists_bytes, torn_bytes}
use Rattle.nt_pagelists.specs.Blobs.{blob_len}
use Rattle.nt_pagelists.specs.Due.{due_len, due_object, group_sum}
use Rattle.nt_pagelists.specs.Objects.{list_len}
use Rattle.nt_commit.specs.Lists.{HasListsOf, HasNoFault, IsDueLen, IsNextPlace, IsTornList, full_lists_len, groups_len}
use Rattle.nt_commit.proofs.Noting.{SameLists, suc-times, times, noted-len, groups-snoc, groups-more, groups-same}

-- the page list of the group behind those that are listed
abbrev pub next_len : ℕ × ℕ → BookData → List NotedList → ℕ
next_len g book ls = list_len g.1 book (record { from = clusters_listed g.0 ls; count = g.0 })

-- a page list that is due, or nothing
abbrev pub due_or_none : Bool → ℕ → ℕ
due_or_none b len = if b then len else 0

-- how long lists of groups of so many clusters and what is left of one that failed are, by what a book keeps
pub record AreListed (g : ℕ × ℕ) (book : BookData) (clusters : ℕ) (ls : List NotedList) (torn : Option Tear) : Type 0 where
  pub sized : 0 < g.0
  pub bytes : lists_bytes ls ≡ groups_len g.1 book g.0 0 (length ls)
  pub inside : clusters_listed g.0 ls ≤ clusters
  pub few : torn ≡ None → clusters ≤ clusters_listed g.0 ls + g.0
  pub short : IfSome torn (λ t. (clusters_listed g.0 ls + g.0 ≤ clusters) × (t.len ≤ next_len g book ls))

-- the lists of full groups
abbrev pub all_len : ℕ × ℕ → BookData → ℕ → ℕ
all_len g book clusters = groups_len g.1 book g.0 0 (clusters / g.0)

module _ (g : ℕ × ℕ) (book : BookData) (clusters : ℕ) (ls : List NotedList) where
  next-is : next_len g book ls ≡ list_len g.1 book (record { from = 0 + length ls * g.0; count = g.0 })
  next-is = ap (λ (m : ℕ). list_len g.1 book (record { from = m; count = g.0 })) (omega (arith, times g.0 ls))

  with-next : groups_len g.1 book g.0 0 (suc (length ls)) ≡ groups_len g.1 book g.0 0 (length ls) + next_len g book ls
  with-next = omega (arith, groups-snoc g.1 g.0 book 0 (length ls), next-is)

  -- with one list more they are those of all full groups
  one-more : 0 < g.0 → clusters_listed g.0 ls + g.0 ≤ clusters
      → lists_bytes ls ≡ groups_len g.1 book g.0 0 (length ls)
      → lists_bytes ls + next_len g book ls ≤ all_len g book clusters
  one-more sized full bytes =
      omega (
        arith,
        bytes,
        with-next,
        groups-more g.1 g.0 book (suc (length ls)) (clusters / g.0) 0
            (le-div (suc (length ls)) clusters g.0 sized (omega (arith, full, times g.0 ls, suc-times (length ls) g.0))),
      )

  just-full : 0 < g.0 → clusters ≡ clusters_listed g.0 ls + g.0 → clusters / g.0 ≡ suc (length ls)
  just-full sized is =
      div-eq_of_lt-le {k = suc (length ls)} g.0 {m = clusters} (omega (arith, is, times g.0 ls, suc-times (length ls) g.0))
      (omega (arith, is, sized, times g.0 ls, suc-times (length ls) g.0, add-mul (suc (length ls)) 1 g.0, one-mul g.0))

  not-full : 0 < g.0 → clusters_listed g.0 ls ≤ clusters → clusters < clusters_listed g.0 ls + g.0 → clusters / g.0 ≡ length ls
  not-full sized least less =
      div-eq_of_lt-le {k = length ls} g.0 {m = clusters} (omega (arith, least, times g.0 ls))
      (omega (arith, less, times g.0 ls, add-mul (length ls) 1 g.0, one-mul g.0))

  -- with the one that is due they are at most those of all full groups
  pub most-listed : (torn : Option Tear) → AreListed g book clusters ls torn
      → lists_bytes ls + torn_bytes torn + due_or_none (is_due_after (Some g) ls torn clusters) (next_len g book ls)
      ≤ all_len g book clusters
  most-listed (Some t) h =
      let more = one-more h.sized h.short.0 h.bytes in omega (arith, more, h.short.1)
  most-listed None h = at (clusters == clusters_listed g.0 ls + g.0) refl
    where
      at : (b : Bool) → clusters == clusters_listed g.0 ls + g.0 ≡ b
          → lists_bytes ls + 0 + due_or_none b (next_len g book ls) ≤ all_len g book clusters
      at true is =
          let more = one-more h.sized (omega (arith, eqb-true clusters (clusters_listed g.0 ls + g.0) is)) h.bytes in omega (arith, more)
      at false is =
          omega (
            arith,
            h.bytes,
            groups-more g.1 g.0 book (length ls) (clusters / g.0) 0
                (le-div (length ls) clusters g.0 h.sized (omega (arith, h.inside, times g.0 ls))),
          )

  -- and just those, where none failed
  pub just-listed : AreListed g book clusters ls None
      → lists_bytes ls + 0 + due_or_none (is_due_after (Some g) ls None clusters) (next_len g book ls) ≡ all_len g book clusters
  just-listed h = at (clusters == clusters_listed g.0 ls + g.0) refl
    where
      at : (b : Bool) → clusters == clusters_listed g.0 ls + g.0 ≡ b
          → lists_bytes ls + 0 + due_or_none b (next_len g book ls) ≡ all_len g book clusters
      at true is =
          omega (
            arith,
            h.bytes,
            with-next,
            ap (λ (n : ℕ). groups_len g.1 book g.0 0 n)
                (just-full h.sized (eqb-true clusters (clusters_listed g.0 ls + g.0) is)),
          )
      at false is =
          omega (
            arith,
            h.bytes,
            ap (λ (n : ℕ). groups_len g.1 book g.0 0 n)
                (not-full h.sized h.inside (less (h.few refl) (eqb-false clusters (clusters_listed g.0 ls + g.0) is))),
          )
        where
          less : {a b : ℕ} → a ≤ b → (a ≡ b → ⊥) → a < b
          less {a} {b} le differ = elim (cases_lt a b) [ inl low ↦ low | inr high ↦ absurd (differ (omega (arith, le, high))) ]

  -- what is due is the list of the last group
  pub due-last : (torn : Option Tear) → clusters ≡ length (book_clusters book)
      → IsDueLen (Some g) book (due_or_none (is_due_after (Some g) ls torn clusters) (next_len g book ls))
  due-last (Some t) is = inl refl
  due-last None is = at (clusters == clusters_listed g.0 ls + g.0) refl
    where
      at : (b : Bool) → clusters == clusters_listed g.0 ls + g.0 ≡ b → IsDueLen (Some g) book (due_or_none b (next_len g book ls))
      at true full = inr (record {
        groups = length ls;
        full = omega (arith, is, eqb-true clusters (clusters_listed g.0 ls + g.0) full, times g.0 ls);
        len_is = ap (λ (m : ℕ). list_len g.1 book (record { from = m; count = g.0 })) (times g.0 ls);
      })
      at false full = inl refl

-- of a page list that failed
pub torn-facts : {P Q : Tear → Type 0} (torn : Option Tear) → ((t : Tear) → P t → Q t) → IfSome torn (λ t. P t) → IfSome torn (λ t. Q t)
torn-facts None f h = tt
torn-facts (Some t) f h = f t h

-- the list that is due is that of the next group
pub due-next : (b : BookData) (g : ℕ × ℕ) → b.group ≡ Some g → due_len b ≡ next_len g b b.lists
unfolding due_object
due-next b g is =
    ap (λ (o : Option (ℕ × ℕ)). list_len (group_sum o) b (record {
      from = clusters_listed (group_size o) b.lists;
      count = group_size o;
    })) is

-- what a book keeps of its lists
listed-of : (b : BookData) (g : ℕ × ℕ) (lists : List Part) (torn : List ℕ) → IsBookKept b → HasListsOf b lists torn → b.group ≡ Some g
    → AreListed g b (length (book_clusters b)) b.lists b.torn
listed-of b g lists torn kept listed is = record {
  sized = subst (λ (o : Option (ℕ × ℕ)). IfSome o (λ g. 0 < g.0)) is kept.sized;
  bytes = subst (λ (o : Option (ℕ × ℕ)). lists_bytes b.lists ≡ groups_len (group_sum o) b (group_size o) 0 (length b.lists)) is
      (noted-len (group_sum b.group) (group_size b.group) b 0 b.lists lists listed.noted);
  inside = subst (λ (o : Option (ℕ × ℕ)). clusters_listed (group_size o) b.lists ≤ length (book_clusters b)) is kept.listed;
  few = λ none. subst (λ (o : Option (ℕ × ℕ)). AtMostOneUnlisted o b.lists (length (book_clusters b))) is (kept.few_lists none);
  short = torn-facts {P = IsTornList b} b.torn (λ t h. (
    subst (λ (o : Option (ℕ × ℕ)). clusters_listed (group_size o) b.lists + group_size o ≤ length (book_clusters b)) is h.full,
    subst (λ (n : ℕ). t.len ≤ n) (due-next b g is) h.short,
  )) listed.torn_short;
}

-- the next cluster of a book without groups
pub bare-place : (b B : BookData) (due : ℕ) → b.group ≡ None → HasNoLists b.lists b.torn → B.group ≡ b.group
    → end_after B.begin (ranges_of B.history) ≡ end_after b.begin (ranges_of b.history) → due ≡ due_or_none (is_due b) (due_len b)
    → IsNextPlace B (book_end b) due
bare-place b B due none unlisted group end due_is =
    let nothing : due ≡ 0 =
    due_is
    ∙ ap (λ (o : Option (ℕ × ℕ)). due_or_none (is_due_after o b.lists b.torn (length (book_clusters b))) (due_len b)) none in
    let all : full_lists_len B.group B ≡ 0 = ap (λ (o : Option (ℕ × ℕ)). full_lists_len o B) (group ∙ none) in
    let here : book_end b ≡ end_after B.begin (ranges_of B.history) =
    omega (arith, end, ap lists_bytes unlisted.none_noted, ap torn_bytes unlisted.none_torn) in
    record {
      due_is = subst (λ (o : Option (ℕ × ℕ)). IsDueLen o B due) (sym (group ∙ none)) nothing;
      least = omega (arith, here);
      most = omega (arith, here, nothing, all);
      exact = λ sound. omega (arith, here, nothing, all);
    }

module _ (b B : BookData) (kept : IsBookKept b) (lists : List Part) (torn : List ℕ) (listed : HasListsOf b lists torn)
    (unlisted : b.group ≡ None → HasNoLists b.lists b.torn) (group : B.group ≡ b.group)
    (count : length (book_clusters B) ≡ length (book_clusters b))
    (end : end_after B.begin (ranges_of B.history) ≡ end_after b.begin (ranges_of b.history))
    (same : (sum : ℕ) → SameLists sum (length (book_clusters b)) b B) (whole : HasNoFault B.history → b.torn ≡ None) (due : ℕ)
    (due_is : due ≡ due_or_none (is_due b) (due_len b)) where
  abbrev clusters : ℕ
  clusters = length (book_clusters b)

  module _ (g : ℕ × ℕ) (is : b.group ≡ Some g) where
    abbrev owed : ℕ
    owed = due_or_none (is_due_after (Some g) b.lists b.torn clusters) (next_len g b b.lists)

    owed-is : due ≡ owed
    owed-is =
        due_is ∙ (ap (λ (o : Option (ℕ × ℕ)). due_or_none (is_due_after o b.lists b.torn clusters) (due_len b)) is
        ∙ ap (λ (n : ℕ). due_or_none (is_due_after (Some g) b.lists b.torn clusters) n) (due-next b g is))

    all-is : full_lists_len B.group B ≡ all_len g b clusters
    all-is =
        ap (λ (o : Option (ℕ × ℕ)). full_lists_len o B) (group ∙ is)
        ∙ (ap (λ (n : ℕ). groups_len g.1 B g.0 0 (n / g.0)) count
        ∙ groups-same g.1 g.0 clusters b B (same g.1) (clusters / g.0) 0 (omega (arith, div-mul-le_self clusters g.0)))

    last-here : IsDueLen (Some g) b owed → IsDueLen (Some g) B owed
    last-here (inl none) = inl none
    last-here (inr r) = inr (record {
      groups = r.groups;
      full = r.full ∙ sym count;
      len_is = r.len_is ∙ sym (ap (λ (object : List ℕ). blob_len (length object))
          (same g.1 (record { from = r.groups * g.0; count = g.0 }) (omega (arith, r.full))));
    })

    grouped-place : IsNextPlace B (book_end b) due
    grouped-place =
        let h = listed-of b g lists torn kept listed is in
        record {
          due_is = subst (λ (o : Option (ℕ × ℕ)). IsDueLen o B due) (sym (group ∙ is))
              (subst (λ (n : ℕ). IsDueLen (Some g) B n) (sym owed-is) (last-here (due-last g b clusters b.lists b.torn refl)));
          least = omega (arith, end);
          most = omega (arith, end, owed-is, all-is, most-listed g b clusters b.lists b.torn h);
          exact = λ sound.
              let none = whole sound in
              let just = just-listed g b clusters b.lists
              (subst (λ (t : Option Tear). AreListed g b clusters b.lists t) none h) in
              omega (
                arith,
                end,
                all-is,
                just,
                owed-is ∙ ap (λ (t : Option Tear). due_or_none (is_due_after (Some g) b.lists t clusters) (next_len g b b.lists)) none,
                ap torn_bytes none,
              );
        }

  by-group : (o : Option (ℕ × ℕ)) → b.group ≡ o → IsNextPlace B (book_end b) due
  by-group None is = bare-place b B due is (unlisted is) group end due_is
  by-group (Some g) is = grouped-place g is

  -- the next cluster begins behind all that the book has, and behind the list that is due
  pub place-is : IsNextPlace B (book_end b) due
  place-is = by-group b.group refl
