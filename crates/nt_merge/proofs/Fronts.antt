-- The limits that are passed behind a book are those behind the clusters of its front.
use Rattle.std.proofs.Common.{◌≡◌, ◌∙◌, ap, sym, subst, refl, inl, inr, ℕ, zero, suc, ◌+◌, ◌*◌, ◌-◌, ◌<◌, ◌≤◌, ◌==◌, min, Bool, true, false}
use Rattle.std.proofs.Common.{cond, List, [], ◌∷◌, ◌++◌, length, map, take, drop, sum_by, Option, Some, arith}
use Rattle.std.specs.Int.{div_ceil}
use Rattle.std.specs.List.{range_with_len}
use Rattle.std.proofs.Math.Nat.{mul-le-mul_right, zero-mul, zero-div}
use Rattle.std.proofs.Math.Seq.{take-add}
use Rattle.std.proofs.lemmas.Bool.{cases_lt, eqb-true, eq-eqb, false≢true}
use Rattle.std.proofs.lemmas.Grind.{div_ceil_times}
use Rattle.std.proofs.lemmas.List.{length-append, length-drop, take-map, drop-map, take_min}
use Rattle.std.proofs.lemmas.List.Sums.{sum_by-append}
use Rattle.nt_grammar.specs.Table.{Table}
use Rattle.nt_machine.specs.History.{Cluster}
use Rattle.nt_book.specs.declared.limits.Limits.{Limits}
use Rattle.nt_book.specs.declared.list.NotedList.{NotedList}
use Rattle.nt_book.specs.declared.list.Tear.{Tear}
use Rattle.nt_book.specs.declared.meta.ClusterMeta.{ClusterMeta}
use Rattle.nt_book.specs.declared.params.Params.{Params}
use Rattle.nt_book.specs.Books.{BookData, book_ranges, book_clusters, book_end, is_due}
use Rattle.nt_book.specs.Limiting.{limit_error_with}
use Rattle.nt_book.specs.Listing.{AtMostOneUnlisted, clusters_listed, group_size, is_due_after}
use Rattle.nt_commit.specs.Appending.{due_bytes}
use Rattle.nt_commit.specs.Lists.{noted_list}
use Rattle.nt_pagelists.specs.Blobs.{blob_len}
use Rattle.nt_pagelists.specs.Due.{due_object}
use Rattle.nt_pagelists.specs.Objects.{cluster_span, list_len}
use Rattle.nt_layout.specs.Headers.{header_sum, clusters_place}
use Rattle.nt_layout.specs.Finished.{spans, list_places, footer_object, file_len}
use Rattle.nt_append.specs.Appending.{lists_with_due}
use Rattle.nt_append.proofs.Growing.{times}
use Rattle.nt_close.specs.Passing.{first_passed}
use Rattle.nt_close.proofs.ListsLeft.{begins-below}
use Rattle.nt_dealing.specs.Lengths.{listed_cluster_len, page_list_len, group_count, footer_len, whole_len}
use Rattle.nt_dealing.proofs.Lengths.{length-list_object}
use Rattle.nt_dealing.proofs.Files.{length-footer_object, length-file_of}
use Rattle.nt_merge_limits.specs.Limits.{kept_metas, group_metas, IsBookBeside}
use Rattle.nt_merge_limits.proofs.Lists.{total, AreFullLists, times-suc}
use Rattle.nt_merge_limits.proofs.Fronts.{lens, counts, flat, all-flat, lens-count, some-group, lists-are, end-is, due-is, due-none}
use Rattle.nt_merge.specs.Fronts.{lists_in_front, front_end, front_due_len, passed_by_copy, list_lens_behind, passed_by_end}

-- ---- lists alone

-- the page lists of full groups together
lists-total : (most : ℕ) (ms : List ClusterMeta) (ns : List ℕ) → AreFullLists most ms ns
    → total ns ≡ page_list_len [] * length ns + sum_by listed_cluster_len (take (length ns * most) ms)
lists-total most ms [] are = omega (arith, ap (λ (k : ℕ). sum_by listed_cluster_len (take k ms)) (zero-mul most))
lists-total most ms (n ∷ ns) are =
    let first : page_list_len (take most ms) ≡ page_list_len [] + sum_by listed_cluster_len (take most ms) = omega arith in
    let both : sum_by listed_cluster_len (take (length (n ∷ ns) * most) ms)
    ≡ sum_by listed_cluster_len (take most ms) + sum_by listed_cluster_len (take (length ns * most) (drop most ms)) =
    ap (λ (k : ℕ). sum_by listed_cluster_len (take k ms)) (times-suc (length ns) most)
    ∙ (ap (λ (l : List ClusterMeta). sum_by listed_cluster_len l) (take-add most (length ns * most) ms)
    ∙ sum_by-append listed_cluster_len (take most ms) (take (length ns * most) (drop most ms))) in
    omega (arith, are.1, first, lists-total most (drop most ms) ns are.2, both)

-- one cluster more: there are so many groups, where so many of them were full
groups-are : (most g n : ℕ) → 0 < most → g * most ≤ n → n < g * most + most → group_count most (n + 1) ≡ g + 1
groups-are most g n some low high =
    let q = div_ceil (n + 1) most in
    let bounds = div_ceil_times (n + 1) most some in
    elim (cases_lt q (g + 1)) [
      | inl less ↦
          let few : q * most ≤ g * most = mul-le-mul_right most (omega (arith, less)) in
          absurd (omega (arith, few, bounds.0, low))
      | inr enough ↦ elim (cases_lt (g + 1) q) [
        | inl less ↦
            let many : suc (suc g) * most ≤ q * most = mul-le-mul_right most (omega (arith, less)) in
            absurd (omega (arith, many, times-suc (suc g) most, times-suc g most, bounds.1, high))
        | inr few ↦ omega (arith, enough, few)
      ]
    ]

-- what is said of each of some places, behind the first of them
rows-are : {A : Type 0} (f : A → ℕ) (g : ℕ → A) (h : ℕ → ℕ) (k from n : ℕ) → ((i : ℕ) → i < from + n → f (g i) ≡ h i)
    → map f (drop k (map g (range_with_len from n))) ≡ map h (drop k (range_with_len from n))
rows-are f g h zero from zero each = refl
rows-are f g h zero from (suc n) each =
    ap (λ (x : ℕ). x ∷ map f (map g (range_with_len (from + 1) n))) (each from (omega arith))
    ∙ ap (λ (l : List ℕ). h from ∷ l) (rows-are f g h zero (from + 1) n (λ i less. each i (omega (arith, less))))
rows-are f g h (suc k) from zero each = refl
rows-are f g h (suc k) from (suc n) each = rows-are f g h k (from + 1) n (λ i less. each i (omega (arith, less)))

-- the page list that is due is one more
with-due-long : (b : Bool) (ls : List NotedList) (l : NotedList)
    → length (cond b (ls ++ l ∷ []) ls) ≡ cond b (suc (length ls)) (length ls)
with-due-long true ls l = omega (arith, length-append ls (l ∷ []))
with-due-long false ls l = refl

-- no page list stands in a file without clusters
pub none-listed : (most : ℕ) → lists_in_front most 0 ≡ 0
none-listed most = omega (arith, zero-div most)

-- ---- a book

module _ (t : Table) (p : Params) (book : BookData) (is : IsBookBeside t p book) where
  abbrev metas : List ClusterMeta
  metas = kept_metas book

  abbrev n : ℕ
  n = length (book_clusters book)

  -- how long the page list of a group is
  group-len : (i : ℕ) → i < div_ceil n p.group
      → list_len (header_sum t) book (cluster_span p.group n i) ≡ page_list_len (group_metas p.group metas i)
  group-len i less =
      let low = begins-below p.group n i (some-group t p book is) less in
      let meta : Cluster ClusterMeta → ClusterMeta = λ c. c.meta in
      let count : ℕ = min p.group (n - i * p.group) in
      let rest : length (drop (i * p.group) metas) ≡ n - i * p.group =
      length-drop (i * p.group) metas ∙ ap (λ (k : ℕ). k - i * p.group) (counts t p book is) in
      length-list_object book (header_sum t) (cluster_span p.group n i) (omega (arith, low))
      ∙ ap page_list_len
      (sym (ap (λ (l : List ClusterMeta). take count l) (drop-map meta (i * p.group) (book_clusters book))
      ∙ take-map meta count (drop (i * p.group) (book_clusters book)))
      ∙ (ap (λ (k : ℕ). take (min p.group k) (drop (i * p.group) metas)) (sym rest) ∙ take_min p.group (drop (i * p.group) metas)))

  -- a page list is due where the last group is full
  due-test : is_due book ≡ (length metas == length book.lists * p.group + p.group)
  due-test =
      ap (λ (g : Option (ℕ × ℕ)). is_due_after g book.lists book.torn n) is.beside.group
      ∙ (ap (λ (x : Option Tear). is_due_after (Some (p.group, header_sum t)) book.lists x n) is.beside.untorn
      ∙ (ap (λ (k : ℕ). n == k + p.group) (times p.group book.lists)
      ∙ ap (λ (k : ℕ). k == length book.lists * p.group + p.group) (sym (counts t p book is))))

  -- as many clusters are listed as the full groups have, but for the last one
  listed-low : length book.lists * p.group ≤ length metas
  listed-low =
      let few : clusters_listed p.group book.lists ≤ n =
      subst (λ (g : Option (ℕ × ℕ)). clusters_listed (group_size g) book.lists ≤ n) is.beside.group is.kept.listed in
      omega (arith, few, times p.group book.lists, counts t p book is)

  listed-high : length metas ≤ length book.lists * p.group + p.group
  listed-high =
      let few : n ≤ clusters_listed p.group book.lists + p.group =
      subst (λ (g : Option (ℕ × ℕ)). AtMostOneUnlisted g book.lists n) is.beside.group (is.kept.few_lists is.beside.untorn) in
      omega (arith, few, times p.group book.lists, counts t p book is)

  -- with the page list that is due, and a cluster more
  pub listed-next : (next : BookData) (meta : ClusterMeta) → next.lists ≡ lists_with_due book → kept_metas next ≡ metas ++ meta ∷ []
      → length next.lists ≡ lists_in_front p.group (length (kept_metas next))
  listed-next next meta lists-is metas-is = by (is_due book) refl
    where
      longer : length (kept_metas next) ≡ length metas + 1
      longer = ap length metas-is ∙ length-append metas (meta ∷ [])

      after : (m : ℕ) → length next.lists ≡ m → group_count p.group (length metas + 1) ≡ m + 1
          → length next.lists ≡ lists_in_front p.group (length (kept_metas next))
      after m same groups =
          let count : group_count p.group (length (kept_metas next)) ≡ m + 1 =
          ap (λ (k : ℕ). group_count p.group k) longer ∙ groups in
          omega (arith, same, count)

      long : (b : Bool) → is_due book ≡ b → length next.lists ≡ cond b (suc (length book.lists)) (length book.lists)
      long b due =
          ap length lists-is
          ∙ (with-due-long (is_due book) book.lists (noted_list (book_end book) (due_object book))
          ∙ ap (λ (c : Bool). cond c (suc (length book.lists)) (length book.lists)) due)

      not-full : is_due book ≡ false → length metas < length book.lists * p.group + p.group
      not-full due = elim (cases_lt (length metas) (length book.lists * p.group + p.group)) [
        | inl less ↦ less
        | inr more ↦
            let same : length metas ≡ length book.lists * p.group + p.group = omega (arith, more, listed-high) in
            absurd (false≢true (sym due ∙ (due-test ∙ eq-eqb (length metas) (length book.lists * p.group + p.group) same)))
      ]

      by : (b : Bool) → is_due book ≡ b → length next.lists ≡ lists_in_front p.group (length (kept_metas next))
      by true due =
          let full : length metas ≡ length book.lists * p.group + p.group = eqb-true _ _ (sym due-test ∙ due) in
          let all : suc (length book.lists) * p.group ≡ p.group + length book.lists * p.group = times-suc (length book.lists) p.group in
          after (suc (length book.lists)) (long true due)
          (groups-are p.group (suc (length book.lists)) (length metas) (some-group t p book is) (omega (arith, full, all))
          (omega (arith, full, all, some-group t p book is)))
      by false due =
          after (length book.lists) (long false due)
          (groups-are p.group (length book.lists) (length metas) (some-group t p book is) listed-low (not-full due))

  module _ (listed : length book.lists ≡ lists_in_front p.group (length (kept_metas book))) where
    abbrev many : ℕ
    many = lists_in_front p.group (length (kept_metas book))

    lens-many : length (lens t p book is) ≡ many
    lens-many = lens-count t p book is ∙ listed

    -- where it ends
    end-front : book_end book ≡ front_end t p.group metas
    end-front =
        end-is t p book is
        ∙ ap (λ (k : ℕ). clusters_place t + sum_by (λ (m : ClusterMeta). m.len) metas + k)
        (lists-total p.group metas (lens t p book is) (lists-are t p book is)
        ∙ ap (λ (k : ℕ). page_list_len [] * k + sum_by listed_cluster_len (take (k * p.group) metas)) lens-many)

    -- how long the page list is that is due
    due-front : length (due_bytes book) ≡ front_due_len p.group metas
    due-front = by (is_due book) refl
      where
        test : is_due book ≡ (length metas == many * p.group + p.group)
        test = due-test ∙ ap (λ (k : ℕ). length metas == k * p.group + p.group) listed

        long : (b : Bool) → is_due book ≡ b → cond b (page_list_len (group_metas p.group metas many)) 0 ≡ front_due_len p.group metas
        long b due =
            ap (λ (c : Bool). cond c (page_list_len (group_metas p.group metas many)) 0) (sym due ∙ test)

        by : (b : Bool) → is_due book ≡ b → length (due_bytes book) ≡ front_due_len p.group metas
        by true due =
            (due-is t p book is due).1
            ∙ (ap (λ (k : ℕ). page_list_len (group_metas p.group metas k)) lens-many ∙ long true due)
        by false due = due-none t p book is due ∙ long false due

    as-many : length (book_ranges book) ≡ length metas
    as-many = sym (counts t p book is ∙ ap length (all-flat t p book is))

    -- where a cluster is put behind the others
    pub copy-front : (len : ℕ)
        → limit_error_with book.limits (book_end book) (length (book_ranges book)) len (length (due_bytes book))
        ≡ passed_by_copy t p (kept_metas book) len
    copy-front len =
        ap (λ (l : Limits). limit_error_with l (book_end book) (length (book_ranges book)) len (length (due_bytes book))) is.limits
        ∙ (ap (λ (k : ℕ). limit_error_with p.limits k (length (book_ranges book)) len (length (due_bytes book))) end-front
        ∙ (ap (λ (k : ℕ). limit_error_with p.limits (front_end t p.group metas) k len (length (due_bytes book))) as-many
        ∙ ap (λ (k : ℕ). limit_error_with p.limits (front_end t p.group metas) (length metas) len k) due-front))

    -- where the file is closed
    pub close-front : first_passed p.limits
        (map (list_len (header_sum t) book) (drop (length book.lists) (spans book p.group))
        ++ blob_len (length (footer_object t book (list_places false t book p.group))) ∷ [])
        (file_len t book (list_places false t book p.group))
        ≡ passed_by_end t p (kept_metas book)
    close-front =
        let long : ℕ → ℕ = λ k. page_list_len (group_metas p.group metas k) in
        let foot = blob_len (length (footer_object t book (list_places false t book p.group))) in
        let end = file_len t book (list_places false t book p.group) in
        let lists : map (list_len (header_sum t) book) (drop (length book.lists) (spans book p.group)) ≡ list_lens_behind p.group metas =
        rows-are (list_len (header_sum t) book) (cluster_span p.group n) long (length book.lists) 0 (div_ceil n p.group)
        (λ i less. group-len i (omega (arith, less)))
        ∙ (ap (λ (k : ℕ). map long (drop k (range_with_len 0 (group_count p.group n)))) listed
        ∙ ap (λ (k : ℕ). map long (drop many (range_with_len 0 (group_count p.group k)))) (sym (counts t p book is))) in
        let footer : foot ≡ footer_len t (group_count p.group (length metas)) =
        length-footer_object false t book p.group
        ∙ ap (λ (k : ℕ). footer_len t (group_count p.group k)) (sym (counts t p book is)) in
        let whole : end ≡ whole_len t p.group metas =
        length-file_of false t book p.group (flat t p book is) is.kept is.begin (some-group t p book is) in
        ap (λ (l : List ℕ). first_passed p.limits (l ++ foot ∷ []) end) lists
        ∙ (ap (λ (k : ℕ). first_passed p.limits (list_lens_behind p.group metas ++ k ∷ []) end) footer
        ∙ ap (λ (k : ℕ). first_passed p.limits (list_lens_behind p.group metas ++ footer_len t (group_count p.group (length metas)) ∷ []) k)
        whole)
