-- How long the parts are that are written behind the ranges of clusters.
use Rattle.std.proofs.Common.{◌≡◌, ℕ, ◌+◌, ◌-◌, ◌*◌, ◌≤◌, ◌^◌, List, [], ◌++◌, length, map, take, drop, sym, ap, ◌∙◌, sum_by, arith}
use Rattle.std.specs.Prelude.{slice_index_or}
use Rattle.std.specs.Int.{w32, w64, to_le_bytes}
use Rattle.std.specs.List.{range_with_len}
use Rattle.std.proofs.lemmas.List.{length-append, length-map, take_all}
use Rattle.std.proofs.lemmas.List.Concat.{length-flat_map}
use Rattle.nt_xxh3.specs.Sum.{xxh3}
use Rattle.nt_format.specs.Frames.{record_frame, list_frame}
use Rattle.nt_format.specs.Envelopes.{unsealed, envelope}
use Rattle.nt_container.specs.Spelling.{blob_key}
use Rattle.nt_container.proofs.Lengths.{blob_key-len}
use Rattle.nt_machine.specs.History.{Cluster}
use Rattle.nt_book.specs.declared.meta.PageMeta.{PageMeta}
use Rattle.nt_book.specs.declared.meta.ClusterMeta.{ClusterMeta}
use Rattle.nt_book.specs.Books.{BookData, book_clusters, no_cluster, cluster_at}
use Rattle.nt_pagelists.specs.Objects.{page_list_kind}
use Rattle.nt_pagelists.specs.declared.page.PageItem.{PageItem}
use Rattle.nt_pagelists.specs.Writing.{ListedColumn, ListedCluster, page_item_text, page_item_texts, column_list_text, column_list_texts}
use Rattle.nt_pagelists.specs.Writing.{cluster_list_text, cluster_list_texts, summary_text, summary_texts, page_list_text}
use Rattle.nt_pagelists.specs.Books.{payload_place, page_item, listed_column, listed_cluster, listed_clusters}
use Rattle.nt_pagelists.specs.Blobs.{blob, blob_len}
use Rattle.nt_pagelists.specs.Objects.{ClusterSpan, list_object, list_len}
use Rattle.nt_dealing.specs.Lengths.{record_len, frame_len, envelope_len, listed_column_len, listed_cluster_len, page_list_len}
use Rattle.nt_dealing.proofs.Lists.{map-places, sum_by-same, sum_by-each, sum_by-both, sum_by-mapped}

pub length-record : (inside : List ℕ) → length (record_frame inside) ≡ record_len (length inside)
length-record inside = omega (arith, length-append (to_le_bytes w64 (8 + length inside)) inside)

pub length-list : (count : ℕ) (inside : List ℕ) → length (list_frame count inside) ≡ frame_len (length inside)
length-list count inside =
    omega (
      arith,
      length-append (to_le_bytes w64 (2 ^ 64 - (12 + length inside))) (to_le_bytes w32 count ++ inside),
      length-append (to_le_bytes w32 count) inside,
    )

pub length-envelope : (kind : ℕ) (payload : List ℕ) → length (envelope kind payload) ≡ envelope_len (length payload)
length-envelope kind payload =
    omega (
      arith,
      length-append (unsealed kind payload) (to_le_bytes w64 (xxh3 (unsealed kind payload))),
      length-append (to_le_bytes w64 ((length payload + 16) * 2 ^ 16 + kind)) payload,
    )

pub length-blob : (place : ℕ) (object : List ℕ) → length (blob place object) ≡ blob_len (length object)
length-blob place object = omega (arith, length-append (blob_key (length object) place) object, blob_key-len (length object) place)

length-pages : (ps : List PageItem) → length (page_item_texts ps) ≡ 16 * length ps
length-pages ps = length-flat_map page_item_text ps ∙ sum_by-same 16 ps

length-column : (c : ListedColumn) → length (column_list_text c) ≡ frame_len (16 * length c.pages + 12)
length-column c =
    length-list (length c.pages) (page_item_texts c.pages ++ (to_le_bytes w64 c.offset ++ to_le_bytes w32 0))
    ∙ omega (arith, length-append (page_item_texts c.pages) (to_le_bytes w64 c.offset ++ to_le_bytes w32 0), length-pages c.pages)

module _ (book : BookData) where
  -- a column of a cluster is as long as its pages say
  length-listed_column : (k column : ℕ) → length (column_list_text (listed_column book k column))
      ≡ listed_column_len (slice_index_or (cluster_at book k).meta.pages column [])
  length-listed_column k column =
      let pages : List PageMeta = slice_index_or (cluster_at book k).meta.pages column [] in
      length-column (listed_column book k column)
      ∙ ap (λ (n : ℕ). frame_len (16 * n + 12)) (length-map pages (page_item (payload_place (cluster_at book k))))

  length-listed_cluster : (k : ℕ) → length (summary_text (listed_cluster book k).summary)
      + length (cluster_list_text (listed_cluster book k)) ≡ listed_cluster_len (cluster_at book k).meta
  length-listed_cluster k =
      let meta : ClusterMeta = (cluster_at book k).meta in
      let places = range_with_len 0 (length meta.pages) in
      let columns : List ListedColumn = map (listed_column book k) places in
      let sum : length (column_list_texts columns) ≡ sum_by listed_column_len meta.pages =
      length-flat_map column_list_text columns
      ∙ (sum_by-mapped (λ (c : ListedColumn). length (column_list_text c)) (listed_column book k) places
      ∙ (sum_by-each (λ (column : ℕ). length (column_list_text (listed_column book k column)))
      (λ (column : ℕ). listed_column_len (slice_index_or meta.pages column [])) places (length-listed_column k)
      ∙ (sym (sum_by-mapped listed_column_len (λ (column : ℕ). slice_index_or meta.pages column []) places)
      ∙ ap (λ (l : List (List PageMeta)). sum_by listed_column_len l) (map-places meta.pages [] 0 (length meta.pages) (omega arith)
      ∙ take-all-pages meta.pages)))) in
      omega (arith, length-list (length columns) (column_list_texts columns), sum)
    where
      take-all-pages : (xs : List (List PageMeta)) → take (length xs) xs ≡ xs
      take-all-pages xs = take_all (length xs) xs (omega arith)

  -- what is kept of the clusters of a span
  abbrev pub metas_of : ClusterSpan → List ClusterMeta
  metas_of s = map (λ (c : Cluster ClusterMeta). c.meta) (take s.count (drop s.from (book_clusters book)))

  length-listed_clusters : (s : ClusterSpan) → s.from + s.count ≤ length (book_clusters book)
      → length (summary_texts (listed_clusters book s.from s.count))
      + length (cluster_list_texts (listed_clusters book s.from s.count)) ≡ sum_by listed_cluster_len (metas_of s)
  length-listed_clusters s fits =
      let places = range_with_len s.from s.count in
      let ws : List ListedCluster = listed_clusters book s.from s.count in
      let here : List (Cluster ClusterMeta) = map (λ (k : ℕ). cluster_at book k) places in
      let both : sum_by (λ (w : ListedCluster). length (summary_text w.summary) + length (cluster_list_text w)) ws
      ≡ sum_by listed_cluster_len (metas_of s) =
      sum_by-mapped (λ (w : ListedCluster). length (summary_text w.summary) + length (cluster_list_text w)) (listed_cluster book) places
      ∙ (sum_by-each (λ (k : ℕ). length (summary_text (listed_cluster book k).summary)
      + length (cluster_list_text (listed_cluster book k))) (λ (k : ℕ). listed_cluster_len (cluster_at book k).meta) places
      length-listed_cluster
      ∙ (sym (sum_by-mapped (λ (c : Cluster ClusterMeta). listed_cluster_len c.meta) (λ (k : ℕ). cluster_at book k) places)
      ∙ (sym (sum_by-mapped listed_cluster_len (λ (c : Cluster ClusterMeta). c.meta) here)
      ∙ ap (λ (l : List (Cluster ClusterMeta)). sum_by listed_cluster_len (map (λ (c : Cluster ClusterMeta). c.meta) l))
      (map-places (book_clusters book) no_cluster s.from s.count fits)))) in
      omega (
        arith,
        length-flat_map (λ (w : ListedCluster). summary_text w.summary) ws,
        length-flat_map cluster_list_text ws,
        sum_by-both (λ (w : ListedCluster). length (summary_text w.summary)) (λ (w : ListedCluster). length (cluster_list_text w)) ws,
        both,
      )

  pub length-list_object : (sum : ℕ) (s : ClusterSpan) → s.from + s.count ≤ length (book_clusters book)
      → list_len sum book s ≡ page_list_len (metas_of s)
  unfolding list_object page_list_text
  length-list_object sum s fits =
      let ws : List ListedCluster = listed_clusters book s.from s.count in
      omega (
        arith,
        length-envelope page_list_kind (page_list_text sum ws),
        length-append (to_le_bytes w64 sum) (list_frame (length ws) (summary_texts ws) ++ list_frame (length ws) (cluster_list_texts ws)),
        length-append (list_frame (length ws) (summary_texts ws)) (list_frame (length ws) (cluster_list_texts ws)),
        length-list (length ws) (summary_texts ws),
        length-list (length ws) (cluster_list_texts ws),
        length-listed_clusters s fits,
      )

  -- a page list of no clusters
  pub length-no_list : (sum from : ℕ) → list_len sum book (record { from = from; count = 0 }) ≡ page_list_len []
  unfolding list_object page_list_text
  length-no_list sum from =
      omega (
        arith,
        length-envelope page_list_kind (page_list_text sum []),
        length-append (to_le_bytes w64 sum) (list_frame 0 [] ++ list_frame 0 []),
        length-append (list_frame 0 []) (list_frame 0 []),
        length-list 0 [],
      )
