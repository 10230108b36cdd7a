-- The rows of a context become clusters, one after the other.
use Rattle.std.proofs.Common.{◌≡◌, ℕ, zero, suc, ◌+◌, ◌-◌, ◌*◌, ◌<◌, ◌≤◌, ◌^◌, ◌==◌, Bool, true, false, cond, List, [], ◌∷◌, ◌++◌, length}
use Rattle.std.proofs.Common.{map, refl, sym, ap, subst}
use Rattle.std.proofs.Common.{◌∙◌, append_assoc, arith}
use Rattle.std.specs.Prelude.{slice_index, slice_index_or, take, drop}
use Rattle.std.specs.List.{AllByRecursion, sum_by}
use Rattle.std.proofs.lemmas.List.Sums.{sum_by-append, sum_by_push}
use Rattle.std.proofs.lemmas.List.{map-append}
use Rattle.nt_book.specs.declared.meta.PageMeta.{PageMeta}
use Rattle.nt_book.specs.declared.meta.ClusterMeta.{ClusterMeta}
use Rattle.nt_book.specs.declared.row.ClusterRow.{ClusterRow}
use Rattle.nt_book.specs.declared.row.PublishedRow.{PublishedRow}
use Rattle.nt_book.specs.Appending.{ArePushed}
use Rattle.nt_book.specs.Books.{elements_before}
use Rattle.nt_book.specs.Entries.{no_row, row_clusters}
use Rattle.nt_book.specs.Keeping.{AreOffsets, IsRowOf, IsPublishable, order_numbers, own_numbers, placed_row, row_at}
use Rattle.nt_book.specs.Pages.{element_count, listed_elements, IsPaged}
use Rattle.nt_book.proofs.Counted.{each-at}
use Rattle.nt_book.proofs.Fitting.{low-at, listed_elements-le}
use Rattle.nt_book.proofs.OffsetRows.{AreOffsets-pushed}
use Rattle.nt_book.proofs.Clusters.{sum-placed}

own-suc : (m k : ℕ) (rows : List ClusterRow) (i : ℕ) → k < length rows → own_numbers m (take (suc k) rows) i
    ≡ own_numbers m (take k rows) i ++ cond ((row_at rows k).meta.context == i) ((m + k) ∷ []) []
own-suc m k [] i less = absurd (omega (arith, less))
own-suc m zero (row ∷ rows) i less = ap (λ (n : ℕ). cond (row.meta.context == i) (n ∷ []) []) (omega arith)
own-suc m (suc k) (row ∷ rows) i less = at (row.meta.context == i) (own-suc (m + 1) k rows i (omega (arith, less)))
  where
    last : ℕ → List ℕ
    last n = cond ((row_at rows k).meta.context == i) (n ∷ []) []

    at : (b : Bool) → own_numbers (m + 1) (take (suc k) rows) i ≡ own_numbers (m + 1) (take k rows) i ++ last (m + 1 + k)
        → cond b (m ∷ own_numbers (m + 1) (take (suc k) rows) i) (own_numbers (m + 1) (take (suc k) rows) i)
        ≡ cond b (m ∷ own_numbers (m + 1) (take k rows) i) (own_numbers (m + 1) (take k rows) i) ++ last (m + suc k)
    at true rest =
        ap (λ (l : List ℕ). m ∷ l) rest
        ∙ ap (λ (n : ℕ). m ∷ own_numbers (m + 1) (take k rows) i ++ last n) (omega arith)
    at false rest = rest ∙ ap (λ (n : ℕ). own_numbers (m + 1) (take k rows) i ++ last n) (omega arith)

-- the next row's number, where it is the context's
pub own-take : (k : ℕ) (rows : List ClusterRow) (i : ℕ) → k < length rows → own_numbers 0 (take (k + 1) rows) i
    ≡ own_numbers 0 (take k rows) i ++ cond ((row_at rows k).meta.context == i) (k ∷ []) []
own-take k rows i less =
    let more : k + 1 ≡ suc k = omega arith in
    let same : 0 + k ≡ k = omega arith in
    ap (λ (n : ℕ). own_numbers 0 (take n rows) i) more
    ∙ (own-suc 0 k rows i less ∙ ap (λ (n : ℕ). own_numbers 0 (take k rows) i ++ cond ((row_at rows k).meta.context == i) (n ∷ []) []) same)

-- those of the first rows stand first
own-split : (m k : ℕ) (rows : List ClusterRow) (i : ℕ)
    → own_numbers m rows i ≡ own_numbers m (take k rows) i ++ own_numbers (m + k) (drop k rows) i
own-split m zero rows i = ap (λ (n : ℕ). own_numbers n rows i) (omega arith)
own-split m (suc k) [] i = refl
own-split m (suc k) (row ∷ rows) i = at (row.meta.context == i) (own-split (m + 1) k rows i)
  where
    rest : ℕ → List ℕ
    rest n = own_numbers n (drop k rows) i

    at : (b : Bool) → own_numbers (m + 1) rows i ≡ own_numbers (m + 1) (take k rows) i ++ rest (m + 1 + k)
        → cond b (m ∷ own_numbers (m + 1) rows i) (own_numbers (m + 1) rows i)
        ≡ cond b (m ∷ own_numbers (m + 1) (take k rows) i) (own_numbers (m + 1) (take k rows) i) ++ rest (m + suc k)
    at true same =
        ap (λ (l : List ℕ). m ∷ l) same
        ∙ ap (λ (n : ℕ). m ∷ own_numbers (m + 1) (take k rows) i ++ rest n) (omega arith)
    at false same = same ∙ ap (λ (n : ℕ). own_numbers (m + 1) (take k rows) i ++ rest n) (omega arith)

row_of-at : (columns : ℕ) (rows : List ClusterRow) (n : ℕ) → AllByRecursion (IsRowOf columns) rows → IsRowOf columns (row_at rows n)
row_of-at columns [] n h = record {
  short = omega arith;
  low = omega arith;
  lists = omega arith;
  paged = record { each = tt; sizes = omega arith; entries = omega arith };
}
row_of-at columns (row ∷ rows) zero h = h.0
row_of-at columns (row ∷ rows) (suc n) h = row_of-at columns rows n h.1

each-placed : (columns : ℕ) (rows : List ClusterRow) (order : List PublishedRow) → AllByRecursion (IsRowOf columns) rows
    → AllByRecursion (IsRowOf columns) (map (placed_row rows) order)
each-placed columns rows [] h = tt
each-placed columns rows (p ∷ order) h =
    let is = row_of-at columns rows p.range h in
    (record { short = is.short; low = omega (arith, is.short); lists = is.lists; paged = is.paged }, each-placed columns rows order h)

module _ (entries : ℕ) (firsts : List ℕ) (rows : List ClusterRow) (context : ℕ) (order : List PublishedRow) (room_order : ℕ)
    (offsets : List ℕ) (room_offsets : ℕ) (h : IsPublishable entries firsts rows context order room_order offsets room_offsets)
    (k : ℕ) (now : List PublishedRow) (less : k < length rows) (own : (row_at rows k).meta.context == context ≡ true)
    (so_far : order_numbers now ≡ order_numbers order ++ own_numbers 0 (take k rows) context) where
  -- the numbers with the next one
  pub numbers-next : (p : PublishedRow) → p.range ≡ k
      → order_numbers (now ++ p ∷ []) ≡ order_numbers order ++ own_numbers 0 (take (k + 1) rows) context
  numbers-next p is =
      map-append (λ (q : PublishedRow). q.range) now (p ∷ [])
      ∙ (ap (λ (l : List ℕ). l ++ p.range ∷ []) so_far
      ∙ (append_assoc (order_numbers order) (own_numbers 0 (take k rows) context) (p.range ∷ [])
      ∙ ap (λ (l : List ℕ). order_numbers order ++ l)
      (ap (λ (n : ℕ). own_numbers 0 (take k rows) context ++ n ∷ []) is
      ∙ (ap (λ (b : Bool). own_numbers 0 (take k rows) context ++ cond b (k ∷ []) []) (sym own)
      ∙ sym (own-take k rows context less)))))

  -- what counts the metadata of clusters stays low with the next one
  pub fits-next : (g : ClusterMeta → ℕ) → ((meta : ClusterMeta) → IsPaged meta → g meta ≤ 8 * meta.len)
      → sum_by (λ (n : ℕ). g (row_at rows n).meta) (order_numbers now) + g (row_at rows k).meta ≤ 2 ^ 59
  fits-next g low =
      let w : ℕ → ℕ = λ n. g (row_at rows n).meta in
      let taken = own_numbers 0 (take (k + 1) rows) context in
      let p : PublishedRow = record { range = k; first = 0; offsets = 0 } in
      omega (
        arith,
        h.fits g low,
        sum_by_push w (order_numbers now) k,
        ap (sum_by w) (sym (map-append (λ (q : PublishedRow). q.range) now (p ∷ [])) ∙ numbers-next p refl),
        sum_by-append w (order_numbers order) taken,
        sum_by-append w (order_numbers order) (own_numbers 0 rows context),
        ap (sum_by w) (own-split 0 (k + 1) rows context),
        sum_by-append w taken (own_numbers (0 + (k + 1)) (drop (k + 1) rows) context),
      )

  -- the entries and elements with those of the next row are numbers of 64 bits
  module _ (sum : ℕ) (more : List ℕ) (are : AreOffsets sum firsts (map (placed_row rows) now) more) where
    pub entries-next : sum + (row_at rows k).meta.entries < 2 ^ 64
    entries-next =
        omega (
          arith,
          are.summed,
          sum-placed (λ (m : ClusterMeta). m.entries) now rows,
          fits-next (λ (m : ClusterMeta). m.entries) (λ meta paged. paged.entries),
        )

    pub lists-next : length (row_at rows k).meta.pages ≡ length firsts
    lists-next = each-at (λ (row : ClusterRow). length row.meta.pages ≡ length firsts) rows k no_row h.lists_all less

    pub offsets-next : (pages : List (List PageMeta)) (size : ℕ) → pages ≡ (row_at rows k).meta.pages → size ≡ length more → (column : ℕ)
        → column < length pages
        → slice_index more (size - length pages + column) + element_count (slice_index_or pages column []) < 2 ^ 64
    offsets-next pages size is sizes column low =
        let as_many : length pages ≡ length firsts = ap length is ∙ lists-next in
        let place : size - length pages + column ≡ length more - length firsts + column = omega (arith, sizes, as_many) in
        let was : slice_index more (size - length pages + column)
        ≡ slice_index firsts column + elements_before (row_clusters 0 (map (placed_row rows) now)) column =
        ap (λ (n : ℕ). slice_index more n) place ∙ are.last column (omega (arith, low, as_many)) in
        let here : element_count (slice_index_or pages column []) ≡ listed_elements (row_at rows k).meta column =
        ap (λ (ps : List (List PageMeta)). element_count (slice_index_or ps column [])) is in
        omega (
          arith,
          was,
          here,
          low-at firsts column h.low,
          sum-placed (λ (m : ClusterMeta). listed_elements m column) now rows,
          fits-next (λ (m : ClusterMeta). listed_elements m column) (λ meta paged. listed_elements-le meta column paged),
        )

    pub AreOffsets-next : (pages : List (List PageMeta)) (next : List ℕ) (p : PublishedRow) → p.range ≡ k → p.first ≡ sum
        → p.offsets ≡ length more - length firsts → pages ≡ (row_at rows k).meta.pages → ArePushed pages more next
        → AreOffsets (sum + (row_at rows k).meta.entries) firsts (map (placed_row rows) (now ++ p ∷ [])) next
    AreOffsets-next pages next p is first at same pushed =
        let row : placed_row rows p ≡ record (placed_row rows p) { meta = (row_at rows k).meta } =
        ap (λ (n : ℕ). record (placed_row rows p) { meta = (row_at rows n).meta }) is in
        subst (λ (l : List ClusterRow). AreOffsets (sum + (row_at rows k).meta.entries) firsts l next)
        (sym (map-append (placed_row rows) now (p ∷ [])
        ∙ ap (λ (r : ClusterRow). map (placed_row rows) now ++ r ∷ []) row))
        (AreOffsets-pushed sum firsts more next (map (placed_row rows) now) (record (placed_row rows p) { meta = (row_at rows k).meta })
        pages same lists-next first at (each-placed (length firsts) rows now h.each) are pushed)
