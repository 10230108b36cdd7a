-- What a book of a history that is kept has.
use Rattle.std.proofs.Common.{◌≡◌, ℕ, zero, suc, ◌+◌, ◌<◌, ◌≤◌, Bool, true, false, cond, List, [], ◌∷◌, length, map, Some, refl, sym, ap}
use Rattle.std.proofs.Common.{◌∙◌, subst, arith}
use Rattle.std.specs.Prelude.{slice_index, slice_index_or, take, Option, None, slice_get}
use Rattle.std.specs.List.{sum_by, flat_map}
use Rattle.std.proofs.lemmas.List.{take_all, length-map, get_or-map}
use Rattle.std.proofs.lemmas.List.Sums.{sum_by-cons}
use Rattle.nt_machine.specs.declared.entry.Entry.{Entry}
use Rattle.nt_machine.specs.History.{Cluster, ranges_of, clusters_of, own_of, publishers_of}
use Rattle.nt_machine.specs.Staging.{KeepsStaging}
use Rattle.nt_machine.specs.Legal.{spans_of, ranges_end, end_after}
use Rattle.nt_book.specs.declared.limits.Limits.{Limits}
use Rattle.nt_book.specs.declared.meta.ClusterMeta.{ClusterMeta}
use Rattle.nt_book.specs.declared.event.Event.{Event}
use Rattle.nt_book.specs.declared.row.ClusterRow.{ClusterRow}
use Rattle.nt_book.specs.declared.row.PublishedRow.{PublishedRow}
use Rattle.nt_book.specs.declared.list.NotedList.{NotedList}
use Rattle.nt_book.specs.declared.list.Tear.{Tear}
use Rattle.nt_book.specs.Entries.{row_cluster, row_clusters, history_of, no_row}
use Rattle.nt_book.specs.Books.{BookData, book_ranges, book_clusters, book_end, range_at, cluster_at, no_cluster, entry_count}
use Rattle.nt_book.specs.Books.{elements_before}
use Rattle.nt_book.specs.Books.{column_offset, first_entry, is_due}
use Rattle.nt_book.specs.Limiting.{limit_error, limit_error_with}
use Rattle.nt_book.specs.Listing.{AreBeside, is_due_after, lists_bytes, torn_bytes}
use Rattle.nt_book.specs.Pages.{listed_elements}
use Rattle.nt_book.specs.Kept.{AreNamed}
use Rattle.nt_book.specs.Keeping.{IsHistory, KeepsStagedOrder, listed_rows, order_numbers, own_numbers, placed_row, row_at}
use Rattle.nt_book.proofs.Rows.{length-row_clusters, row_clusters-at, named-row_clusters}
use Rattle.nt_machine.proofs.ClusterSums.{clusters-sum-le}
use Rattle.nt_book.proofs.Clusters.{cluster_list, numbered, published-rows, all-published, length-listed, length-clusters}
use Rattle.nt_book.proofs.Clusters.{sum-take-clusters}
use Rattle.nt_book.proofs.Clusters.{named-row, inside-named}

sum-ones : {X : Type 0} (xs : List X) → sum_by (λ (x : X). 1) xs ≡ length xs
sum-ones [] = refl
sum-ones (x ∷ xs) = omega (arith, sum_by-cons (λ y. 1) x xs, sum-ones xs)

module _ (begin : ℕ) (rows : List ClusterRow) (events : List Event) (h : IsHistory begin rows events) (book : BookData)
    (told : history_of rows events ≡ book.history) where
  pub same_ranges : row_clusters 0 rows ≡ book_ranges book
  same_ranges = h.clusters ∙ ap (λ (l : List (Entry ClusterMeta)). ranges_of l) told

  -- there are as many ranges as rows
  pub length-book : length (book_ranges book) ≡ length rows
  length-book = sym (ap length same_ranges) ∙ length-row_clusters 0 rows

  pub last-book : book.begin ≡ begin → ranges_end book.begin (book_ranges book) ≡ ranges_end begin (row_clusters 0 rows)
  last-book same =
      ap (λ (b : ℕ). ranges_end b (book_ranges book)) same ∙ ap (λ (l : List (Cluster ClusterMeta)). ranges_end begin l) (sym same_ranges)

  pub placed-book : (most : ℕ) (lists : List NotedList) → book.begin ≡ begin → book.lists ≡ lists
      → AreBeside begin most lists (spans_of (row_clusters 0 rows))
      → AreBeside book.begin most book.lists (spans_of (book_ranges book))
  placed-book most lists same same_lists placed =
      subst (λ (b : ℕ). AreBeside b most book.lists (spans_of (book_ranges book))) (sym same)
      (subst (λ (ls : List NotedList). AreBeside begin most ls (spans_of (book_ranges book))) (sym same_lists)
      (subst (λ (l : List (Cluster ClusterMeta)). AreBeside begin most lists (spans_of l)) same_ranges placed))

  pub end-book : (lists : List NotedList) (torn : Option Tear) → book.begin ≡ begin → book.lists ≡ lists → book.torn ≡ torn
      → book_end book ≡ end_after begin (row_clusters 0 rows) + (lists_bytes lists + torn_bytes torn)
  end-book lists torn same same_lists same_torn =
      let ranges : end_after book.begin (book_ranges book) ≡ end_after begin (row_clusters 0 rows) =
      ap (λ (b : ℕ). end_after b (book_ranges book)) same ∙ ap (λ (l : List (Cluster ClusterMeta)). end_after begin l) (sym same_ranges) in
      omega (arith, ranges, ap lists_bytes same_lists, ap torn_bytes same_torn)

  -- the same, of a book that is told and whose page lists are kept
  pub ends-book : (view : BookData) (end : ℕ) → view ≡ book → view.begin ≡ begin
      → end ≡ end_after begin (row_clusters 0 rows) + (lists_bytes view.lists + torn_bytes view.torn) → book_end book ≡ end
  ends-book view end same begins ends =
      end-book view.lists view.torn (sym (ap (λ (b : BookData). b.begin) same) ∙ begins) (sym (ap (λ (b : BookData). b.lists) same))
      (sym (ap (λ (b : BookData). b.torn) same))
      ∙ sym ends

  pub range_at-book : (k : ℕ) (d : ClusterRow) → k < length rows → range_at book k ≡ row_cluster k (slice_index_or rows k d)
  range_at-book k d less = ap (λ (l : List (Cluster ClusterMeta)). slice_index_or l k no_cluster) (sym same_ranges)
      ∙ (row_clusters-at 0 rows k no_cluster d less ∙ ap (λ (m : ℕ). row_cluster m (slice_index_or rows k d)) (omega arith))

  pub limit_with-book : (limits : Limits) (end len list : ℕ) → limits ≡ book.limits → book_end book ≡ end
      → limit_error_with book.limits (book_end book) (length (book_ranges book)) len list
      ≡ limit_error_with limits end (length rows) len list
  limit_with-book limits end len list same ends =
      ap (λ (l : Limits). limit_error_with l (book_end book) (length (book_ranges book)) len list) (sym same)
      ∙ (ap (λ (e : ℕ). limit_error_with limits e (length (book_ranges book)) len list) ends
      ∙ ap (λ (count : ℕ). limit_error_with limits end count len list) length-book)

  pub limit-book : (limits : Limits) (end len : ℕ) → limits ≡ book.limits → book_end book ≡ end
      → limit_error book.limits (book_end book) (length (book_ranges book)) len ≡ limit_error limits end (length rows) len
  limit-book limits end len same ends =
      ap (λ (l : Limits). limit_error l (book_end book) (length (book_ranges book)) len) (sym same)
      ∙ (ap (λ (e : ℕ). limit_error limits e (length (book_ranges book)) len) ends
      ∙ ap (λ (count : ℕ). limit_error limits end count len) length-book)

  -- what passes no limit of the book passes none of what it keeps
  pub passes-none : (limits : Limits) (end : ℕ) (taken meta : ClusterMeta) → taken ≡ meta → limits ≡ book.limits → book_end book ≡ end
      → limit_error book.limits (book_end book) (length (book_ranges book)) meta.len ≡ None
      → limit_error limits end (length rows) taken.len ≡ None
  passes-none limits end taken meta same same_limits ends passes =
      ap (λ (m : ClusterMeta). limit_error limits end (length rows) m.len) same
      ∙ (sym (limit-book limits end meta.len same_limits ends) ∙ passes)

  -- and of its clusters
  module _ (staged : Bool) (group : Option (ℕ × ℕ)) (columns : ℕ) (order : List PublishedRow)
      (k : KeepsStagedOrder staged group columns order rows events) (same_staged : staged ≡ book.staged) where
    clusters-are : (b : Bool) → clusters_of b book.history ≡ cluster_list b order rows
    clusters-are false = sym same_ranges
    clusters-are true =
        ap (λ (l : List (Cluster ClusterMeta)). flat_map (own_of l) (publishers_of book.history)) (sym same_ranges)
        ∙ (published-rows rows (publishers_of book.history)
        ∙ ap (λ (ns : List ℕ). map (numbered rows) ns) (sym (k.numbers
        ∙ ap (λ (l : List (Entry ClusterMeta)). flat_map (own_numbers 0 rows) (publishers_of l)) told)))

    same_clusters : book_clusters book ≡ cluster_list staged order rows
    same_clusters = clusters-are book.staged ∙ ap (λ (b : Bool). cluster_list b order rows) (sym same_staged)

    pub length-clusters-book : length (book_clusters book) ≡ length (listed_rows staged order rows)
    length-clusters-book = ap length same_clusters ∙ length-clusters staged order rows

    named-ranges : AreNamed (book_ranges book) (book_ranges book)
    named-ranges = subst (λ (l : List (Cluster ClusterMeta)). AreNamed l l) same_ranges (named-row_clusters [] 0 rows refl)

    named-of : (b : Bool) → AreNamed (book_ranges book) (clusters_of b book.history)
    named-of false = named-ranges
    named-of true =
        all-published (λ (c : Cluster ClusterMeta). slice_get (book_ranges book) c.number ≡ Some c) (book_ranges book)
        (publishers_of book.history) named-ranges

    -- each cluster is the range of its number
    pub named-book : AreNamed (book_ranges book) (book_clusters book)
    named-book = named-of book.staged

    named-at : (n : ℕ) → n < length (book_clusters book) → slice_get (row_clusters 0 rows) (cluster_at book n).number ≡ Some
        (cluster_at book n)
    named-at n less =
        ap (λ (l : List (Cluster ClusterMeta)). slice_get l (cluster_at book n).number) same_ranges
        ∙ named-in (book_clusters book) n less named-book
      where
        named-in : (cs : List (Cluster ClusterMeta)) (m : ℕ) → m < length cs → AreNamed (book_ranges book) cs
            → slice_get (book_ranges book) (slice_index_or cs m no_cluster).number ≡ Some (slice_index_or cs m no_cluster)
        named-in [] m low all = absurd (omega (arith, low))
        named-in (c ∷ cs) zero low all = all.0
        named-in (c ∷ cs) (suc m) low all = named-in cs m (omega (arith, low)) all.1

    -- and so that of its row
    pub row-book : (n : ℕ) → n < length (book_clusters book) → cluster_at book n ≡ numbered rows (cluster_at book n).number
    row-book n less = named-row rows (cluster_at book n) (named-at n less)

    pub number-book : (n : ℕ) → n < length (book_clusters book) → (cluster_at book n).number < length rows
    number-book n less = inside-named rows (cluster_at book n) (named-at n less)

    -- there are no more clusters than ranges
    pub fewer-book : length (book_clusters book) ≤ length (book_ranges book)
    fewer-book =
        let keeps : KeepsStaging book.staged book.history = subst (λ (b : Bool). KeepsStaging b book.history) same_staged
        (subst (λ (l : List (Entry ClusterMeta)). KeepsStaging staged l) told k.staging) in
        omega (
          arith,
          clusters-sum-le (λ c. 1) book.staged book.history keeps,
          sum-ones (book_clusters book),
          sum-ones (book_ranges book),
        )

    number-in : (b : Bool) (n : ℕ) (p : PublishedRow) → n < length (listed_rows b order rows)
        → (slice_index_or (cluster_list b order rows) n no_cluster).number ≡ cond b (slice_index_or order n p).range n
    number-in false n p less = ap (λ (c : Cluster ClusterMeta). c.number) (row_clusters-at 0 rows n no_cluster no_row less) ∙ omega arith
    number-in true n p less =
        let inside : n < length order = omega (arith, less, length-listed true order rows) in
        ap (λ (c : Cluster ClusterMeta). c.number)
        (get_or-map (numbered rows) (order_numbers order) n 0 no_cluster
        (omega (arith, inside, length-map {B = ℕ} order (λ (q : PublishedRow). q.range))))
        ∙ get_or-map (λ (q : PublishedRow). q.range) order n p 0 inside

    -- its number was published, or is its own
    pub range_of-book : (n : ℕ) (p : PublishedRow) → n < length (book_clusters book)
        → (cluster_at book n).number ≡ cond staged (slice_index_or order n p).range n
    range_of-book n p less =
        ap (λ (l : List (Cluster ClusterMeta)). (slice_index_or l n no_cluster).number) same_clusters
        ∙ number-in staged n p (omega (arith, less, length-clusters-book))

    meta-in : (b : Bool) (n : ℕ) → n < length (listed_rows b order rows)
        → (slice_index_or (cluster_list b order rows) n no_cluster).meta ≡ (row_at (listed_rows b order rows) n).meta
    meta-in false n less = ap (λ (c : Cluster ClusterMeta). c.meta) (row_clusters-at 0 rows n no_cluster no_row less)
    meta-in true n less =
        let p : PublishedRow = record { range = 0; first = 0; offsets = 0 } in
        let inside : n < length order = omega (arith, less, length-listed true order rows) in
        ap (λ (c : Cluster ClusterMeta). c.meta)
        (get_or-map (numbered rows) (order_numbers order) n 0 no_cluster
        (omega (arith, inside, length-map {B = ℕ} order (λ (q : PublishedRow). q.range))))
        ∙ (ap (λ (m : ℕ). (row_at rows m).meta) (get_or-map (λ (q : PublishedRow). q.range) order n p 0 inside)
        ∙ ap (λ (r : ClusterRow). r.meta) (sym (get_or-map (placed_row rows) order n p no_row inside)))

    -- the row of a cluster has its metadata
    pub meta-book : (n : ℕ) → n < length (book_clusters book)
        → (cluster_at book n).meta ≡ (row_at (listed_rows staged order rows) n).meta
    meta-book n less =
        ap (λ (l : List (Cluster ClusterMeta)). (slice_index_or l n no_cluster).meta) same_clusters
        ∙ meta-in staged n (omega (arith, less, length-clusters-book))

    pub sum-book : (g : ClusterMeta → ℕ) (n : ℕ) → sum_by (λ (c : Cluster ClusterMeta). g c.meta) (take n (book_clusters book))
        ≡ sum_by (λ (c : Cluster ClusterMeta). g c.meta) (take n (row_clusters 0 (listed_rows staged order rows)))
    sum-book g n =
        ap (λ (l : List (Cluster ClusterMeta)). sum_by (λ (c : Cluster ClusterMeta). g c.meta) (take n l)) same_clusters
        ∙ sum-take-clusters g n staged order rows

    pub first-book : (n : ℕ) → first_entry book n ≡ entry_count (take n (row_clusters 0 (listed_rows staged order rows)))
    first-book n = sum-book (λ (m : ClusterMeta). m.entries) n

    pub entries-book : entry_count (book_clusters book) ≡ entry_count (row_clusters 0 (listed_rows staged order rows))
    entries-book =
        let all = length (book_clusters book) in
        ap (λ (l : List (Cluster ClusterMeta)). entry_count l) (sym (take_all all (book_clusters book) (omega arith)))
        ∙ (sum-book (λ (m : ClusterMeta). m.entries) all
        ∙ ap (λ (l : List (Cluster ClusterMeta)). entry_count l) (take_all all (row_clusters 0 (listed_rows staged order rows))
        (omega (arith, length-clusters-book, length-row_clusters 0 (listed_rows staged order rows)))))

    pub offset-book : (firsts : List ℕ) → book.firsts ≡ firsts → (n column : ℕ) → column_offset book n column
        ≡ slice_index firsts column + elements_before (take n (row_clusters 0 (listed_rows staged order rows))) column
    offset-book firsts same n column =
        ap (λ (fs : List ℕ). slice_index fs column + elements_before (take n (book_clusters book)) column) same
        ∙ ap (λ (s : ℕ). slice_index firsts column + s) (sum-book (λ (m : ClusterMeta). listed_elements m column) n)

    -- no page list is due in a staged book
    due-of : (b : Bool) (lists : List NotedList) (torn : Option Tear) → (b ≡ true → group ≡ None)
        → is_due_after group lists torn (length (clusters_of b book.history)) ≡ is_due_after group lists torn (length rows)
    due-of false lists torn none = ap (λ (n : ℕ). is_due_after group lists torn n) length-book
    due-of true lists torn none =
        ap (λ (g : Option (ℕ × ℕ)). is_due_after g lists torn (length (clusters_of true book.history))) (none refl)
        ∙ ap (λ (g : Option (ℕ × ℕ)). is_due_after g lists torn (length rows)) (sym (none refl))

    pub due-book : (lists : List NotedList) (torn : Option Tear) → book.group ≡ group → book.lists ≡ lists
        → book.torn ≡ torn → is_due book ≡ is_due_after group lists torn (length rows)
    due-book lists torn same_group same_lists same_torn =
        ap (λ (g : Option (ℕ × ℕ)). is_due_after g book.lists book.torn (length (book_clusters book))) same_group
        ∙ (ap (λ (ls : List NotedList). is_due_after group ls book.torn (length (book_clusters book))) same_lists
        ∙ (ap (λ (t : Option Tear). is_due_after group lists t (length (book_clusters book))) same_torn
        ∙ due-of book.staged lists torn (λ yes. k.no_groups (same_staged ∙ yes))))
