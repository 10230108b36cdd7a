-- The page lists between clusters, by what is kept of these, and by their book.
use Rattle.std.proofs.Common.{◌≡◌, ◌∙◌, ap, sym, subst, refl, ℕ, zero, suc, ◌+◌, ◌*◌, ◌<◌, ◌≤◌, ◌==◌, Bool, true, false, List, []}
use Rattle.std.proofs.Common.{◌∷◌, ◌++◌, length, map, take, drop, Option, Some, if◌then◌else◌, arith}
use Rattle.std.specs.Prelude.{slice_index_or}
use Rattle.std.specs.List.{AllByRecursion}
use Rattle.std.proofs.Math.Nat.{zero-mul}
use Rattle.std.proofs.lemmas.Bool.{eqb-true}
use Rattle.std.proofs.lemmas.List.{length-drop, drop-drop, drop-append-le, take-append-le}
use Rattle.nt_book.specs.declared.list.NotedList.{NotedList}
use Rattle.nt_book.specs.declared.list.Tear.{Tear}
use Rattle.nt_book.specs.declared.meta.ClusterMeta.{ClusterMeta}
use Rattle.nt_book.specs.declared.params.Params.{Params}
use Rattle.nt_book.specs.Books.{BookData, book_clusters, book_end, is_due}
use Rattle.nt_book.specs.Listing.{AtMostOneUnlisted, clusters_listed, is_due_after}
use Rattle.nt_grammar.specs.Table.{Table}
use Rattle.nt_layout.specs.Headers.{header_sum}
use Rattle.nt_commit.specs.Appending.{due_bytes}
use Rattle.nt_dealing.specs.Lengths.{page_list_len}
use Rattle.nt_append.proofs.Growing.{times}
use Rattle.nt_merge_limits.specs.Limits.{IsBookBeside}
use Rattle.nt_merge_limits.proofs.Lists.{total, total-snoc, AreFullLists, times-suc, lists-few, lists-more, lists-snoc}
use Rattle.nt_merge_limits.proofs.Fronts.{lens, counts, lens-count, lists-are, end-is, due-is, due-none}
use Rattle.nt_script.specs.Limits.{AreListsBetween, group_lists_len, next_list_len, clusters_end, due_list_len}
use Rattle.nt_script.specs.Taking.{metas_of}

-- ---- by what is kept

-- the lengths of the page lists of the first so many groups
abbrev pub lists_lens : ℕ → List ClusterMeta → ℕ → List ℕ
lists_lens most ms zero = []
lists_lens most ms (suc k) = page_list_len (take most ms) ∷ lists_lens most (drop most ms) k

pub lists_lens-total : (most : ℕ) (ms : List ClusterMeta) (k : ℕ) → total (lists_lens most ms k) ≡ group_lists_len most ms k
lists_lens-total most ms zero = refl
lists_lens-total most ms (suc k) = omega (arith, lists_lens-total most (drop most ms) k)

pub lists_lens-length : (most : ℕ) (ms : List ClusterMeta) (k : ℕ) → length (lists_lens most ms k) ≡ k
lists_lens-length most ms zero = refl
lists_lens-length most ms (suc k) = omega (arith, lists_lens-length most (drop most ms) k)

pub lists_lens-full : (most : ℕ) (ms : List ClusterMeta) (k : ℕ) → k * most ≤ length ms → AreFullLists most ms (lists_lens most ms k)
lists_lens-full most ms zero le = tt
lists_lens-full most ms (suc k) le =
    let next : suc k * most ≡ most + k * most = times-suc k most in
    (omega (arith, le, next), refl, lists_lens-full most (drop most ms) k (omega (arith, le, next, length-drop most ms)))

-- lists of full groups are these
total-are : (most : ℕ) (ms : List ClusterMeta) (ns : List ℕ) → AreFullLists most ms ns → total ns ≡ group_lists_len most ms (length ns)
total-are most ms [] are = refl
total-are most ms (n ∷ ns) are = omega (arith, are.1, total-are most (drop most ms) ns are.2)

-- each of them
full-at : (most : ℕ) (ms : List ClusterMeta) (ns : List ℕ) → AreFullLists most ms ns → (k : ℕ) → k < length ns
    → slice_index_or ns k 0 ≡ next_list_len most ms k
full-at most ms [] are k less = absurd (omega (arith, less))
full-at most ms (n ∷ ns) are zero less =
    are.1 ∙ sym (ap (λ (j : ℕ). page_list_len (take most (drop j ms))) (zero-mul most))
full-at most ms (n ∷ ns) are (suc k) less =
    full-at most (drop most ms) ns are.2 k (omega (arith, less))
    ∙ (ap (λ (l : List ClusterMeta). page_list_len (take most l)) (drop-drop (k * most) most ms)
    ∙ sym (ap (λ (j : ℕ). page_list_len (take most (drop j ms))) (times-suc k most)))

-- the next one stays where more clusters come behind its group
pub next-stays : (most : ℕ) (ms more : List ClusterMeta) (k : ℕ) → k * most + most ≤ length ms
    → next_list_len most (ms ++ more) k ≡ next_list_len most ms k
next-stays most ms more k le =
    ap (λ (l : List ClusterMeta). page_list_len (take most l)) (drop-append-le (k * most) ms more (omega (arith, le)))
    ∙ ap page_list_len (take-append-le most (drop (k * most) ms) more (omega (arith, le, length-drop (k * most) ms)))

-- a page list that is due is that of the last group, which is full
pub due-list : (most : ℕ) (ms : List ClusterMeta) (lists : ℕ) → 0 < due_list_len most ms lists
    → (length ms ≡ lists * most + most) × (due_list_len most ms lists ≡ next_list_len most ms lists)
due-list most ms lists some = at (length ms == lists * most + most) refl some
  where
    at : (b : Bool) → (length ms == lists * most + most) ≡ b → 0 < (if b then next_list_len most ms lists else 0)
        → (length ms ≡ lists * most + most)
        × ((if b then next_list_len most ms lists else 0) ≡ next_list_len most ms lists)
    at true is some = (eqb-true _ _ is, refl)
    at false is some = absurd (omega (arith, some))

-- with it, these are the lists of full groups, of more clusters too
pub with-due : (most : ℕ) (ms more : List ClusterMeta) (lists : ℕ) → lists * most ≤ length ms
    → (ns : List ℕ) × (total ns ≡ group_lists_len most ms lists + due_list_len most ms lists) × AreFullLists most (ms ++ more) ns
with-due most ms more lists le = at (length ms == lists * most + most) refl
  where
    full : AreFullLists most ms (lists_lens most ms lists)
    full = lists_lens-full most ms lists le

    at : (b : Bool) → (length ms == lists * most + most) ≡ b
        → (ns : List ℕ) × (total ns ≡ group_lists_len most ms lists + (if b then next_list_len most ms lists else 0))
        × AreFullLists most (ms ++ more) ns
    at true is =
        let ns = lists_lens most ms lists in
        let n = next_list_len most ms lists in
        let count = lists_lens-length most ms lists in
        let enough : length ns * most + most ≤ length ms =
        omega (arith, eqb-true _ _ is, ap (λ (k : ℕ). k * most) count) in (
          ns ++ n ∷ [],
          omega (arith, total-snoc ns n, lists_lens-total most ms lists),
          lists-more most ms more (ns ++ n ∷ [])
              (lists-snoc most ms ns n full enough (sym (ap (λ (k : ℕ). next_list_len most ms k) count))),
        )
    at false is =
        let ns = lists_lens most ms lists in
        (ns, omega (arith, lists_lens-total most ms lists), lists-more most ms more ns full)

short-at : (most : ℕ) (ls : List NotedList) (k : ℕ) → AllByRecursion (λ (l : NotedList). l.len ≤ most) ls → k < length ls
    → slice_index_or (map (λ (l : NotedList). l.len) ls) k 0 ≤ most
short-at most [] k all less = absurd (omega (arith, less))
short-at most (l ∷ ls) zero all less = all.0
short-at most (l ∷ ls) (suc k) all less = short-at most ls k all.1 (omega (arith, less))

-- ---- by a book

module _ (t : Table) (p : Params) (book : BookData) (is : IsBookBeside t p book) where
  abbrev lists : ℕ
  lists = length book.lists

  -- where the clusters end
  pub end-between : book_end book ≡ clusters_end t p.group (metas_of book) lists
  end-between =
      omega (
        arith,
        end-is t p book is,
        total-are p.group (metas_of book) (lens t p book is) (lists-are t p book is),
        ap (λ (n : ℕ). group_lists_len p.group (metas_of book) n) (lens-count t p book is),
      )

  pub between : AreListsBetween p.group lists (length (metas_of book))
  between =
      let few = lists-few p.group (metas_of book) (lens t p book is) (lists-are t p book is) in
      let enough : length (book_clusters book) ≤ clusters_listed p.group book.lists + p.group =
      subst (λ (g : Option (ℕ × ℕ)). AtMostOneUnlisted g book.lists (length (book_clusters book))) is.beside.group
      (is.kept.few_lists is.beside.untorn) in
      record {
        full = omega (arith, few, ap (λ (n : ℕ). n * p.group) (lens-count t p book is));
        enough = omega (arith, enough, times p.group book.lists, counts t p book is);
      }

  -- no list is longer than a range may get
  pub short-between : AllByRecursion (λ (l : NotedList). l.len ≤ p.limits.range) book.lists → (k : ℕ) → k < lists
      → next_list_len p.group (metas_of book) k ≤ p.limits.range
  short-between short k less =
      let inside : k < length (lens t p book is) = omega (arith, less, lens-count t p book is) in
      omega (
        arith,
        short-at p.limits.range book.lists k short less,
        full-at p.group (metas_of book) (lens t p book is) (lists-are t p book is) k inside,
      )

  -- ---- the list that is due

  due-test : is_due book ≡ (length (metas_of book) == lists * p.group + p.group)
  due-test =
      ap (λ (g : Option (ℕ × ℕ)). is_due_after g book.lists book.torn (length (book_clusters book))) is.beside.group
      ∙ (ap (λ (x : Option Tear). is_due_after (Some (p.group, header_sum t)) book.lists x (length (book_clusters book))) is.beside.untorn
      ∙ (ap (λ (n : ℕ). length (book_clusters book) == n + p.group) (times p.group book.lists)
      ∙ ap (λ (n : ℕ). n == lists * p.group + p.group) (sym (counts t p book is))))

  due-same : (b : Bool) → is_due book ≡ b → (if b then next_list_len p.group (metas_of book) lists else 0) ≡ length (due_bytes book)
  due-same true due =
      sym ((due-is t p book is due).1 ∙ ap (λ (n : ℕ). next_list_len p.group (metas_of book) n)
      (lens-count t p book is))
  due-same false due = sym (due-none t p book is due)

  pub due-between : due_list_len p.group (metas_of book) lists ≡ length (due_bytes book)
  due-between =
      ap (λ (b : Bool). if b then next_list_len p.group (metas_of book) lists else 0) (sym due-test) ∙ due-same (is_due book) refl
