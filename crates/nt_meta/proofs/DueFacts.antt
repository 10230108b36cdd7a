-- The group whose page list a book is due.
use Rattle.std.proofs.Common.{◌≡◌, ◌∙◌, ap, sym, subst, ℕ, ◌+◌, ◌-◌, true, false, List, length, arith}
use Rattle.std.specs.Prelude.{Option, Some, None}
use Rattle.std.proofs.lemmas.Bool.{eqb-true, false≢true}
use Rattle.nt_format.specs.Envelopes.{envelope}
use Rattle.nt_book.specs.declared.list.NotedList.{NotedList}
use Rattle.nt_book.specs.declared.list.Tear.{Tear}
use Rattle.nt_book.specs.Books.{BookData, book_clusters, is_due}
use Rattle.nt_book.specs.Listing.{clusters_listed, group_size, is_due_after}
use Rattle.nt_pagelists.specs.Books.{listed_clusters}
use Rattle.nt_pagelists.specs.Due.{due_object, group_sum}
use Rattle.nt_pagelists.specs.Objects.{list_object}
use Rattle.nt_pagelists.specs.Writing.{page_list_text}

full : (lists : List NotedList) (torn : Option Tear) (n : ℕ) (g : ℕ × ℕ) → is_due_after (Some g) lists torn n ≡ true
    → n ≡ clusters_listed g.0 lists + g.0
full lists None n g due = eqb-true n (clusters_listed g.0 lists + g.0) due
full lists (Some t) n g due = absurd (false≢true due)

-- without groups none is due
pub due-none : (book : BookData) → is_due book ≡ true → book.group ≡ None → ⊥
due-none book due none =
    false≢true (subst (λ (o : Option (ℕ × ℕ)). is_due_after o book.lists book.torn (length (book_clusters book)) ≡ true) none due)

-- its clusters are the last ones
pub due-full : (book : BookData) (g : ℕ × ℕ) → is_due book ≡ true → book.group ≡ Some g
    → length (book_clusters book) ≡ clusters_listed g.0 book.lists + g.0
due-full book g due is =
    full book.lists book.torn (length (book_clusters book)) g
    (subst (λ (o : Option (ℕ × ℕ)). is_due_after o book.lists book.torn (length (book_clusters book)) ≡ true) is due)

-- so what is written of these is the list
pub due-written : (book : BookData) (g : ℕ × ℕ) (from to : ℕ) → is_due book ≡ true → book.group ≡ Some g
    → to ≡ length (book_clusters book) → from ≡ to - g.0
    → envelope 3 (page_list_text g.1 (listed_clusters book from (to - from))) ≡ due_object book
unfolding due_object list_object
due-written book g from to due is to-is from-is =
    let whole = due-full book g due is in
    let first : from ≡ clusters_listed g.0 book.lists = omega (arith, whole, to-is, from-is) in
    let count : to - from ≡ g.0 = omega (arith, whole, to-is, from-is) in
    ap (λ (f : ℕ). envelope 3 (page_list_text g.1 (listed_clusters book f (to - from)))) first
    ∙ (ap (λ (n : ℕ). envelope 3 (page_list_text g.1 (listed_clusters book (clusters_listed g.0 book.lists) n))) count
    ∙ ap (λ (o : Option (ℕ × ℕ)). list_object (group_sum o) book (record {
      from = clusters_listed (group_size o) book.lists;
      count = group_size o;
    })) (sym is))
