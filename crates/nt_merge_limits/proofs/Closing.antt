-- What closes a file are blobs of the whole, and the end of the whole; so a file that is closed fits.
use Rattle.std.proofs.Common.{◌≡◌, ◌∙◌, ap, sym, subst, refl, ℕ, zero, suc, ◌*◌, ◌-◌, ◌<◌, ◌≤◌, min, Bool, List, [], ◌∷◌, ◌++◌}
use Rattle.std.proofs.Common.{length, map, take, drop, Some, arith}
use Rattle.std.specs.Prelude.{Contains, slice_index_or}
use Rattle.std.specs.Int.{div_ceil}
use Rattle.std.specs.List.{AllByRecursion, range_with_len}
use Rattle.std.proofs.Math.Nat.{mul-le-mul_right}
use Rattle.std.proofs.lemmas.Grind.{div_ceil_times}
use Rattle.std.proofs.lemmas.List.{length-map, length-drop, take-map, drop-map, take_min}
use Rattle.std.proofs.lemmas.List.FromFn.{length-range_with_len, get_or-map-range_with_len}
use Rattle.nt_grammar.specs.Table.{Table}
use Rattle.nt_machine.specs.History.{Cluster}
use Rattle.nt_book.specs.declared.limits.LimitError.{LimitError}
use Rattle.nt_book.specs.declared.meta.ClusterMeta.{ClusterMeta}
use Rattle.nt_book.specs.declared.params.Params.{Params}
use Rattle.nt_book.specs.Books.{BookData, book_clusters}
use Rattle.nt_pagelists.specs.Blobs.{blob_len}
use Rattle.nt_pagelists.specs.Objects.{ClusterSpan, cluster_span, list_len}
use Rattle.nt_layout.specs.Headers.{header_sum}
use Rattle.nt_layout.specs.Finished.{spans, list_places, footer_object, file_len}
use Rattle.nt_layout.specs.Laid.{IsWithin}
use Rattle.nt_finished.proofs.Arranged.{all_among}
use Rattle.nt_close.specs.Passing.{first_passed, measures_of}
use Rattle.nt_dealing.specs.Lengths.{page_list_len, group_count, footer_len}
use Rattle.nt_dealing.proofs.Lengths.{length-list_object}
use Rattle.nt_dealing.proofs.Files.{length-footer_object, length-file_of}
use Rattle.nt_merge_limits.specs.Limits.{kept_metas, group_metas, IsMergeBlob, of_header, of_cluster, of_list, of_footer, MergeFits}
use Rattle.nt_merge_limits.specs.Limits.{MergeOverBy, IsBookBeside}
use Rattle.nt_merge_limits.proofs.Lists.{times-suc}
use Rattle.nt_merge_limits.proofs.Fronts.{counts, flat, some-group}
use Rattle.nt_merge_limits.proofs.Passed.{passed-over}

contains-next : {A : Type 0} (xs : List A) (y x : A) → Contains xs x → Contains (y ∷ xs) x
contains-next xs y x (k, less, at) = (suc k, omega (arith, less), at)

module _ (t : Table) (p : Params) (book : BookData) (is : IsBookBeside t p book) where
  abbrev most : ℕ
  most = p.group

  abbrev n : ℕ
  n = length (book_clusters book)

  abbrev metas : List ClusterMeta
  metas = kept_metas book

  -- how long the page list of a group is
  group-len : (i : ℕ) → i < div_ceil n most
      → list_len (header_sum t) book (cluster_span most n i) ≡ page_list_len (group_metas most metas i)
  group-len i less =
      let some : 0 < most = some-group t p book is in
      let next : suc i * most ≤ div_ceil n most * most = mul-le-mul_right most (omega (arith, less)) in
      let low : i * most < n = omega (arith, next, (div_ceil_times n most some).1, times-suc i most) in
      let meta : Cluster ClusterMeta → ClusterMeta = λ c. c.meta in
      let count : ℕ = min most (n - i * most) in
      let rest : length (drop (i * most) metas) ≡ n - i * most =
      length-drop (i * most) metas ∙ ap (λ (k : ℕ). k - i * most) (counts t p book is) in
      length-list_object book (header_sum t) (cluster_span most n i) (omega (arith, low))
      ∙ ap page_list_len
      (sym (ap (λ (l : List ClusterMeta). take count l) (drop-map meta (i * most) (book_clusters book))
      ∙ take-map meta count (drop (i * most) (book_clusters book)))
      ∙ (ap (λ (k : ℕ). take (min most k) (drop (i * most) metas)) (sym rest) ∙ take_min most (drop (i * most) metas)))

  -- it is a blob
  group-blob : (i : ℕ) → i < div_ceil n most → IsMergeBlob t p metas (list_len (header_sum t) book (cluster_span most n i))
  group-blob i less =
      of_list i (subst (λ (k : ℕ). i < group_count most k) (sym (counts t p book is)) less) (group-len i less)

  span-blob : (s : ClusterSpan) → Contains (spans book most) s → IsMergeBlob t p metas (list_len (header_sum t) book s)
  span-blob s (k, less, at) =
      let places : List ℕ = range_with_len 0 (div_ceil n most) in
      let low : k < div_ceil n most =
      omega (arith, less, length-map places (cluster_span most n), length-range_with_len 0 (div_ceil n most)) in
      let same : cluster_span most n k ≡ s =
      sym (get_or-map-range_with_len (cluster_span most n) 0 (div_ceil n most) k k s low (omega arith)) ∙ at in
      subst (λ (x : ClusterSpan). IsMergeBlob t p metas (list_len (header_sum t) book x)) same (group-blob k low)

  -- page lists of some groups, and the footer
  row-blobs : (foot : ℕ) → IsMergeBlob t p metas foot → (ss : List ClusterSpan)
      → ((s : ClusterSpan) → Contains ss s → Contains (spans book most) s) → (len : ℕ)
      → Contains (map (list_len (header_sum t) book) ss ++ foot ∷ []) len → IsMergeBlob t p metas len
  row-blobs foot blob [] among len (zero, less, at) = subst (IsMergeBlob t p metas) at blob
  row-blobs foot blob [] among len (suc k, less, at) = absurd (omega (arith, less))
  row-blobs foot blob (s ∷ ss) among len (zero, less, at) =
      subst (IsMergeBlob t p metas) at (span-blob s (among s (zero, omega arith, refl)))
  row-blobs foot blob (s ∷ ss) among len (suc k, less, at) =
      row-blobs foot blob ss (λ x h. among x (contains-next ss s x h)) len (k, omega (arith, less), at)

  footer-len : (staged : Bool) → blob_len (length (footer_object t book (list_places staged t book most)))
      ≡ footer_len t (group_count most (length metas))
  footer-len staged =
      length-footer_object staged t book most ∙ ap (λ (k : ℕ). footer_len t (group_count most k)) (sym (counts t p book is))

  pub closed-over : (staged : Bool) (ss : List ClusterSpan) (error : LimitError)
      → ((s : ClusterSpan) → Contains ss s → Contains (spans book most) s)
      → first_passed p.limits
      (map (list_len (header_sum t) book) ss ++ blob_len (length (footer_object t book (list_places staged t book most))) ∷ [])
      (file_len t book (list_places staged t book most)) ≡ Some error
      → MergeOverBy t p metas error
  closed-over staged ss error among e =
      let foot = blob_len (length (footer_object t book (list_places staged t book most))) in
      passed-over t p metas (map (list_len (header_sum t) book) ss ++ foot ∷ []) (file_len t book (list_places staged t book most)) error
      (row-blobs foot (of_footer (footer-len staged)) ss among)
      (omega (arith, length-file_of staged t book most (flat t p book is) is.kept is.begin (some-group t p book is))) e

  -- ---- where nothing is passed

  module _ (within : IsWithin t (measures_of p) book) (short : AllByRecursion (λ (m : ClusterMeta). m.len ≤ p.limits.range) metas) where
    group-within : (k : ℕ) → k < group_count most (length metas) → page_list_len (group_metas most metas k) ≤ p.limits.range
    group-within k less =
        let low : k < div_ceil n most = subst (λ (c : ℕ). k < group_count most c) (counts t p book is) less in
        let places : List ℕ = range_with_len 0 (div_ceil n most) in
        let there : k < length (spans book most) =
        omega (arith, low, length-map places (cluster_span most n), length-range_with_len 0 (div_ceil n most)) in
        let span : slice_index_or (spans book most) k (cluster_span most n k) ≡ cluster_span most n k =
        get_or-map-range_with_len (cluster_span most n) 0 (div_ceil n most) k k (cluster_span most n k) low (omega arith) in
        let fits : list_len (header_sum t) book (cluster_span most n k) ≤ p.limits.range =
        all_among (λ (s : ClusterSpan). list_len (header_sum t) book s ≤ p.limits.range) (spans book most) (cluster_span most n k)
        within.lists (k, there, span) in
        omega (arith, fits, group-len k low)

    blob-within : (len : ℕ) → IsMergeBlob t p metas len → len ≤ p.limits.range
    blob-within len (of_header same) = omega (arith, same, within.header)
    blob-within len (of_cluster m among same) =
        let fits : m.len ≤ p.limits.range = all_among (λ (x : ClusterMeta). x.len ≤ p.limits.range) metas m short among in
        omega (arith, same, fits)
    blob-within len (of_list k less same) = omega (arith, same, group-within k less)
    blob-within len (of_footer same) = omega (arith, same, footer-len p.staged, within.footer)

    pub closed-fits : n ≤ p.limits.clusters → MergeFits t p metas
    closed-fits few = record {
      blobs = blob-within;
      file = omega (arith, length-file_of p.staged t book most (flat t p book is) is.kept is.begin (some-group t p book is), within.file);
      few = omega (arith, few, counts t p book is);
    }
