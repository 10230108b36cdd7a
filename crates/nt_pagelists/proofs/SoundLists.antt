-- Pages of a book's clusters, and what they sum up to.
use Rattle.std.proofs.Common.{◌≡◌, ℕ, zero, suc, ◌+◌, ◌*◌, ◌<◌, ◌≤◌, ◌^◌, Bool, true, false, not, ◌&&◌, ◌||◌, cond, eqb, ltb}
use Rattle.std.proofs.Common.{List, [], ◌∷◌, length, take, drop, map, refl, sym, ap, ◌∙◌, arith, ◌⊎◌, inl, inr}
use Rattle.std.specs.Prelude.{slice_index_or}
use Rattle.std.specs.List.{AllByRecursion, sum_by, list_all}
use Rattle.std.proofs.lemmas.Bool.Decides.{nat_tests}
use Rattle.std.proofs.lemmas.List.Sums.{sum_by-cons, sum_by_push}
use Rattle.std.proofs.Math.Seq.{take-suc}
use Rattle.nt_machine.specs.History.{Cluster}
use Rattle.nt_machine.proofs.ClusterSums.{clusters-sum-le}
use Rattle.nt_book.specs.declared.meta.PageMeta.{PageMeta}
use Rattle.nt_book.specs.declared.meta.ClusterMeta.{ClusterMeta}
use Rattle.nt_book.specs.Pages.{element_count, listed_elements, stored_size, IsPageOf, IsPaged}
use Rattle.nt_book.specs.Books.{BookData, book_clusters, cluster_at, no_cluster, first_entry, entry_count, elements_before}
use Rattle.nt_book.specs.Kept.{IsKeptCluster, IsBookKept}
use Rattle.nt_book.proofs.Fitting.{listed_elements-le}
use Rattle.nt_pagelists.specs.declared.page.PageItem.{PageItem}
use Rattle.nt_pagelists.specs.declared.column.KnownColumn.{KnownColumn}
use Rattle.nt_pagelists.specs.declared.cluster.ClusterSummary.{ClusterSummary}
use Rattle.nt_pagelists.specs.Columns.{paged_elements, no_pages, is_sound_column}
use Rattle.nt_pagelists.specs.ReadingBack.{ArePageItems}
use Rattle.nt_pagelists.specs.Books.{page_item}
use Rattle.nt_pagelists.specs.SoundBooks.{IsSoundList, IsSoundUnlisted}

-- pages of a book can be told
pub items-told : (meta : ClusterMeta) (payload : ℕ) (pages : List PageMeta) → payload + meta.len < 2 ^ 64 → meta.len ≤ 2 ^ 30
    → AllByRecursion (IsPageOf meta) pages → AllByRecursion (λ (p : PageMeta). 0 < p.count) pages
    → ArePageItems (map (page_item payload) pages)
items-told meta payload [] low short h some = tt
items-told meta payload (p ∷ ps) low short h some =
    let place = h.0.place in (
      record {
        count = h.0.count;
        some = λ checked. some.0;
        size = omega (arith, place, short);
        place = omega (arith, place, low);
      },
      items-told meta payload ps low short h.1 some.1,
    )

pub items-counted : (payload : ℕ) (pages : List PageMeta) → paged_elements (map (page_item payload) pages) ≡ element_count pages
items-counted payload [] = refl
items-counted payload (p ∷ ps) = omega (arith, items-counted payload ps, sum_by-cons (λ (q : PageMeta). q.count) p ps)

-- pages with elements are none where there are no elements
pub none-left : (payload : ℕ) (pages : List PageMeta) → AllByRecursion (λ (p : PageMeta). 0 < p.count) pages
    → element_count pages ≡ 0 → no_pages (map (page_item payload) pages) ≡ true
none-left payload [] some e = refl
none-left payload (p ∷ ps) some e = absurd (omega (arith, some.0, e, sum_by-cons (λ (q : PageMeta). q.count) p ps))

-- the tests of a column with its pages, on plain numbers
principal-plain : (o none : Bool) (from n f els before : ℕ) → f ≤ from → els ≡ n → (n ≡ 0 → none ≡ true)
    → (not (o && true && ltb from f && ltb f (from + n)) && ((not (o && true) || cond (eqb n 0 || ltb from f) none (eqb els n))
    && (not o || eqb els 0 || eqb (f + before) (f + before)))) ≡ true
principal-plain true none from n f els before le is empty = grind (arith, nat_tests, le, is, empty)
principal-plain false none from n f els before le is empty = refl

other-plain : (o none : Bool) (from n f els before : ℕ)
    → (not (o && false && ltb from f && ltb f (from + n)) && ((not (o && false) || cond (eqb n 0 || ltb from f) none (eqb els n))
    && (not o || eqb els 0 || eqb (f + before) (f + before)))) ≡ true
other-plain true none from n f els before = grind (arith, nat_tests)
other-plain false none from n f els before = refl

plain-sound : (o p none : Bool) (from n f els before : ℕ) → (p ≡ true → f ≤ from) → (p ≡ true → els ≡ n) → (p ≡ true → n ≡ 0 → none ≡ true)
    → (not (o && p && ltb from f && ltb f (from + n)) && ((not (o && p) || cond (eqb n 0 || ltb from f) none (eqb els n))
    && (not o || eqb els 0 || eqb (f + before) (f + before)))) ≡ true
plain-sound o true none from n f els before a b c = principal-plain o none from n f els before (a refl) (b refl) (c refl)
plain-sound o false none from n f els before a b c = other-plain o none from n f els before

pub column-sound : (k : ClusterSummary) (c : KnownColumn) (before : ℕ) (pages : List PageItem) → (c.is_principal ≡ true → c.first ≤ k.first)
    → (c.is_principal ≡ true → paged_elements pages ≡ k.entries) → (c.is_principal ≡ true → k.entries ≡ 0 → no_pages pages ≡ true)
    → is_sound_column k c before pages (c.first + before) ≡ true
column-sound k c before pages a b e = plain-sound c.is_open c.is_principal (no_pages pages) k.first k.entries c.first
    (paged_elements pages) before a b e

-- the same of a column without a page
unlisted-plain : (o p : Bool) (from n f : ℕ) → (p ≡ true → (n ≡ 0) ⊎ (from + n ≤ f))
    → (not (o && p && ltb from f && ltb f (from + n)) && ((not (o && p) || cond (eqb n 0 || ltb from f) true (eqb 0 n))
    && (not o || eqb 0 0 || eqb 0 (f + 0)))) ≡ true
unlisted-plain true true from n f h = late (h refl)
  where
    late : (n ≡ 0) ⊎ (from + n ≤ f)
        → (not (true && true && ltb from f && ltb f (from + n)) && ((not (true && true) || cond (eqb n 0 || ltb from f) true (eqb 0 n))
        && (not true || eqb 0 0 || eqb 0 (f + 0)))) ≡ true
    late (inl none) = grind (arith, nat_tests, none)
    late (inr behind) = grind (arith, nat_tests, behind)
unlisted-plain true false from n f h = refl
unlisted-plain false p from n f h = refl

pub unlisted-sound : (k : ClusterSummary) (c : KnownColumn) → IsSoundUnlisted k.entries k.first c → is_sound_column k c 0 [] 0 ≡ true
unlisted-sound k c h = unlisted-plain c.is_open c.is_principal k.first k.entries c.first h

pub list_all-drop : {X : Type 0} (f : X → Bool) (xs : List X) (n : ℕ) (d : X)
    → ((j : ℕ) → n ≤ j → j < length xs → f (slice_index_or xs j d) ≡ true) → list_all f (drop n xs) ≡ true
list_all-drop f [] zero d h = refl
list_all-drop f [] (suc n) d h = refl
list_all-drop f (x ∷ xs) zero d h =
    ap (λ (b : Bool). b && list_all f xs) (h 0 (omega arith) (omega arith))
    ∙ list_all-drop f xs 0 d (λ j from less. h (suc j) (omega arith) (omega (arith, less)))
list_all-drop f (x ∷ xs) (suc n) d h = list_all-drop f xs n d (λ j from less. h (suc j) (omega (arith, from)) (omega (arith, less)))

-- a list that isn't there is empty, so where each column would be sound with it none need be listed
past-lists : (lists : List (List PageMeta)) (column : ℕ) → length lists ≤ column → slice_index_or lists column [] ≡ []
past-lists [] column past = refl
past-lists (l ∷ lists) zero past = absurd (omega (arith, past))
past-lists (l ∷ lists) (suc column) past = past-lists lists column (omega (arith, past))

pub unlisted-whole : (entries first column : ℕ) (c : KnownColumn) (lists : List (List PageMeta)) → length lists ≤ column
    → IsSoundList entries first c (slice_index_or lists column []) → IsSoundUnlisted entries first c
unlisted-whole entries first column c lists past h p = inl (sym (h.each p) ∙ ap element_count (past-lists lists column past))

-- sums over the clusters of a kept book

all-of : {X : Type 0} (P : X → Type 0) (xs : List X) (d : X) → ((k : ℕ) → k < length xs → P (slice_index_or xs k d)) → AllByRecursion P xs
all-of P [] d h = tt
all-of P (x ∷ xs) d h = (h 0 (omega arith), all-of P xs d (λ k less. h (suc k) (omega (arith, less))))

elements-le : (columns column k : ℕ) (cs : List (Cluster ClusterMeta)) → AllByRecursion (IsKeptCluster columns) cs
    → elements_before (take k cs) column ≤ 8 * sum_by (λ (c : Cluster ClusterMeta). c.len) cs
elements-le columns column zero cs h = omega arith
elements-le columns column (suc k) [] h = omega arith
elements-le columns column (suc k) (c ∷ cs) h =
    omega (
      arith,
      listed_elements-le c.meta column h.0.paged,
      h.0.len,
      elements-le columns column k cs h.1,
      sum_by-cons (λ (x : Cluster ClusterMeta). listed_elements x.meta column) c (take k cs),
      sum_by-cons (λ (x : Cluster ClusterMeta). x.len) c cs,
    )

entries-le : (columns k : ℕ) (cs : List (Cluster ClusterMeta)) → AllByRecursion (IsKeptCluster columns) cs
    → entry_count (take k cs) ≤ 8 * sum_by (λ (c : Cluster ClusterMeta). c.len) cs
entries-le columns zero cs h = omega arith
entries-le columns (suc k) [] h = omega arith
entries-le columns (suc k) (c ∷ cs) h =
    let few = h.0.paged.entries in
    omega (
      arith,
      few,
      h.0.len,
      entries-le columns k cs h.1,
      sum_by-cons (λ (x : Cluster ClusterMeta). x.meta.entries) c (take k cs),
      sum_by-cons (λ (x : Cluster ClusterMeta). x.len) c cs,
    )

pub elements-fit : (book : BookData) (k column : ℕ) → IsBookKept book → elements_before (take k (book_clusters book)) column ≤ 2 ^ 59
elements-fit book k column h =
    omega (
      arith,
      h.end,
      clusters-sum-le (λ (c : Cluster ClusterMeta). c.len) book.staged book.history h.staging,
      elements-le (length book.firsts) column k (book_clusters book)
          (all-of (IsKeptCluster (length book.firsts)) (book_clusters book) no_cluster h.clusters),
    )

pub entries-fit : (book : BookData) (k : ℕ) → IsBookKept book → first_entry book k ≤ 2 ^ 59
entries-fit book k h =
    omega (
      arith,
      h.end,
      clusters-sum-le (λ (c : Cluster ClusterMeta). c.len) book.staged book.history h.staging,
      entries-le (length book.firsts) k (book_clusters book)
          (all-of (IsKeptCluster (length book.firsts)) (book_clusters book) no_cluster h.clusters),
    )

-- one cluster more

pub elements-more : (book : BookData) (k column : ℕ) → k < length (book_clusters book)
    → elements_before (take (k + 1) (book_clusters book)) column ≡ elements_before (take k (book_clusters book)) column
    + listed_elements (cluster_at book k).meta column
elements-more book k column less =
    let same : suc k ≡ k + 1 = omega arith in
    ap (λ (l : List (Cluster ClusterMeta)). elements_before l column) (ap (λ (j : ℕ). take j (book_clusters book)) (sym same)
    ∙ take-suc (book_clusters book) k no_cluster less)
    ∙ sum_by_push (λ (c : Cluster ClusterMeta). listed_elements c.meta column) (take k (book_clusters book)) (cluster_at book k)

pub entries-more : (book : BookData) (k : ℕ) → k < length (book_clusters book) → first_entry book (k + 1) ≡ first_entry book k
    + (cluster_at book k).meta.entries
entries-more book k less =
    let same : suc k ≡ k + 1 = omega arith in
    ap (λ (l : List (Cluster ClusterMeta)). entry_count l) (ap (λ (j : ℕ). take j (book_clusters book)) (sym same)
    ∙ take-suc (book_clusters book) k no_cluster less)
    ∙ sum_by_push (λ (c : Cluster ClusterMeta). c.meta.entries) (take k (book_clusters book)) (cluster_at book k)

-- few enough pages for a list frame

pages-le : (pages : List PageMeta) → 8 * length pages ≤ stored_size pages
pages-le [] = omega arith
pages-le (p ∷ ps) = omega (arith, pages-le ps, sum_by-cons (λ (q : PageMeta). q.size + 8) p ps)

stored-le : (lists : List (List PageMeta)) (i : ℕ) → stored_size (slice_index_or lists i []) ≤ sum_by stored_size lists
stored-le [] i = omega arith
stored-le (pages ∷ lists) zero = omega (arith, sum_by-cons stored_size pages lists)
stored-le (pages ∷ lists) (suc i) = omega (arith, stored-le lists i, sum_by-cons stored_size pages lists)

pub few-pages : (meta : ClusterMeta) (column : ℕ) → IsPaged meta → meta.len ≤ 2 ^ 30 → length (slice_index_or meta.pages column []) < 2 ^ 32
few-pages meta column h short =
    let sizes = h.sizes in
    omega (arith, pages-le (slice_index_or meta.pages column []), stored-le meta.pages column, sizes, short)
