-- How far a front of a file reaches, with the page lists of its full groups: no further than the whole.
use Rattle.std.proofs.Common.{◌≡◌, ◌∙◌, ap, sym, subst, refl, ℕ, suc, ◌+◌, ◌*◌, ◌<◌, ◌≤◌, Bool, true, false, cond, List, []}
use Rattle.std.proofs.Common.{◌∷◌, ◌++◌, length, map, take, drop, sum_by, Option, None, Some, replicate, arith}
use Rattle.std.specs.Prelude.{IfSome, slice_index_or}
use Rattle.std.proofs.Math.Nat.{mul-le-mul_left, mul-le-mul_right, zero-mul}
use Rattle.std.proofs.lemmas.Bool.{eqb-true}
use Rattle.std.proofs.lemmas.List.{length-append, length-map, length-drop, length-replicate, take-map, drop-map, drop-drop}
use Rattle.std.proofs.lemmas.List.Sums.{sum_by-append, sum_by-cons}
use Rattle.nt_container.specs.Lengths.{blob_key_len, anchor_part_len, key_list_part_len, free_list_part_len}
use Rattle.nt_grammar.specs.Table.{Table}
use Rattle.nt_machine.specs.History.{Cluster}
use Rattle.nt_book.specs.declared.list.NotedList.{NotedList}
use Rattle.nt_book.specs.declared.list.Tear.{Tear}
use Rattle.nt_book.specs.declared.meta.ClusterMeta.{ClusterMeta}
use Rattle.nt_book.specs.declared.params.Params.{Params}
use Rattle.nt_book.specs.Books.{BookData, book_ranges, book_clusters, book_end, is_due}
use Rattle.nt_book.specs.Listing.{clusters_listed, group_size, is_due_after, lists_bytes, torn_bytes, no_noted}
use Rattle.nt_pagelists.specs.Due.{due_object, due_len, group_sum}
use Rattle.nt_pagelists.specs.Objects.{list_len}
use Rattle.nt_pagelists.proofs.Named.{clusters-unstaged, grouped-unstaged}
use Rattle.nt_commit.specs.Appending.{due_bytes}
use Rattle.nt_layout.specs.Headers.{header_sum, clusters_place}
use Rattle.nt_layout.specs.Beside.{full_span}
use Rattle.nt_dealing.specs.Lengths.{page_list_len, listed_cluster_len, group_count, footer_len, whole_len}
use Rattle.nt_dealing.proofs.Lengths.{length-list_object}
use Rattle.nt_dealing.proofs.Files.{ranges-told}
use Rattle.nt_merge_limits.specs.Limits.{kept_metas, IsBookBeside}
use Rattle.nt_merge_limits.proofs.Lists.{total, total-snoc, AreFullLists, times-suc, lists-short, lists-few, lists-more, lists-snoc}
use Rattle.nt_merge_limits.proofs.Lists.{groups-enough}

-- a front and its page lists reach no further than their whole file
pub front-within : (t : Table) (most : ℕ) (ms : List ClusterMeta) (ns : List ℕ) → 0 < most → AreFullLists most ms ns
    → clusters_place t + sum_by (λ (m : ClusterMeta). m.len) ms + total ns ≤ whole_len t most ms
front-within t most ms ns some are =
    let g = group_count most (length ms) in
    let few : length ns ≤ g = groups-enough most (length ns) (length ms) some (lists-few most ms ns are) in
    let heads : page_list_len [] * length ns ≤ page_list_len [] * g = mul-le-mul_left (page_list_len []) few in
    by (clusters_place t) (sum_by (λ (m : ClusterMeta). m.len) ms) (total ns) (page_list_len [] * length ns) (page_list_len [] * g)
    (sum_by listed_cluster_len ms) (footer_len t g) (anchor_part_len + key_list_part_len + free_list_part_len) (lists-short most ms ns are)
    heads
  where
    by : (a b n c c' d e f : ℕ) → n ≤ c + d → c ≤ c' → a + b + n ≤ a + b + (c' + d) + e + f
    by a b n c c' d e f short heads = omega (arith, short, heads)

times : (most : ℕ) (ls : List NotedList) → clusters_listed most ls ≡ length ls * most
times most [] = sym (zero-mul most)
times most (l ∷ ls) = ap (λ (n : ℕ). most + n) (times most ls) ∙ sym (times-suc (length ls) most)

-- how long the list is that is due, of a group of so many clusters
due-long : (book : BookData) → is_due book ≡ true → length (due_bytes book) ≡ due_len book
due-long book due =
    ap (λ (b : Bool). length (cond b (replicate blob_key_len 0 ++ due_object book) [])) due
    ∙ (length-append (replicate blob_key_len 0) (due_object book)
    ∙ ap (λ (n : ℕ). n + length (due_object book)) (length-replicate {A = ℕ} blob_key_len 0))

due-next : (book : BookData) (most sum : ℕ) → book.group ≡ Some (most, sum)
    → due_len book ≡ list_len sum book (record { from = clusters_listed most book.lists; count = most })
unfolding due_object
due-next book most sum is =
    ap (λ (o : Option (ℕ × ℕ)). list_len (group_sum o) book (record {
      from = clusters_listed (group_size o) book.lists;
      count = group_size o;
    })) is

-- lists whose lengths are those of full groups, one by one
lists-of : (most : ℕ) (ms : List ClusterMeta) (ls : List NotedList) → length ls * most ≤ length ms
    → ((j : ℕ) → j < length ls → (slice_index_or ls j no_noted).len ≡ page_list_len (take most (drop (j * most) ms)))
    → AreFullLists most ms (map (λ (l : NotedList). l.len) ls)
lists-of most ms [] enough each = tt
lists-of most ms (l ∷ ls) enough each =
    let next : length (l ∷ ls) * most ≡ most + length ls * most = times-suc (length ls) most in (
      omega (arith, enough, next),
      each 0 (omega arith) ∙ ap (λ (k : ℕ). page_list_len (take most (drop k ms))) (zero-mul most),
      lists-of most (drop most ms) ls (omega (arith, enough, next, length-drop most ms))
          (λ j less. each (suc j) (omega (arith, less))
          ∙ (ap (λ (k : ℕ). page_list_len (take most (drop k ms))) (times-suc j most)
          ∙ sym (ap (λ (l : List ClusterMeta). page_list_len (take most l)) (drop-drop (j * most) most ms)))),
    )

total-lens : (ls : List NotedList) → lists_bytes ls ≡ total (map (λ (l : NotedList). l.len) ls)
total-lens [] = refl
total-lens (l ∷ ls) = omega (arith, sum_by-cons (λ (k : NotedList). k.len) l ls, total-lens ls)

-- ---- a book

module _ (t : Table) (p : Params) (book : BookData) (is : IsBookBeside t p book) where
  abbrev pub metas : List ClusterMeta
  metas = kept_metas book

  abbrev pub lens : List ℕ
  lens = map (λ (l : NotedList). l.len) book.lists

  pub counts : length metas ≡ length (book_clusters book)
  counts = length-map (book_clusters book) (λ (c : Cluster ClusterMeta). c.meta)

  -- page lists stand beside them, so none is staged
  pub flat : book.staged ≡ false
  flat = grouped-unstaged book (p.group, header_sum t) is.kept is.beside.group

  pub all-flat : book_clusters book ≡ book_ranges book
  all-flat = clusters-unstaged book flat

  pub lens-count : length lens ≡ length book.lists
  lens-count = length-map book.lists (λ (l : NotedList). l.len)

  pub some-group : 0 < p.group
  some-group = subst (λ (g : Option (ℕ × ℕ)). IfSome g (λ (x : ℕ × ℕ). 0 < x.0)) is.beside.group is.kept.sized

  listed-all : length book.lists * p.group ≤ length metas
  listed-all =
      let few : clusters_listed p.group book.lists ≤ length (book_clusters book) =
      subst (λ (g : Option (ℕ × ℕ)). clusters_listed (group_size g) book.lists ≤ length (book_clusters book)) is.beside.group
      is.kept.listed in
      omega (arith, few, times p.group book.lists, counts)

  -- the page list of a full group is as long as what is kept of its clusters says
  full-list : (k : ℕ) → k * p.group + p.group ≤ length metas
      → list_len (header_sum t) book (full_span p.group k) ≡ page_list_len (take p.group (drop (k * p.group) metas))
  full-list k within =
      let meta : Cluster ClusterMeta → ClusterMeta = λ c. c.meta in
      let cs = book_clusters book in
      length-list_object book (header_sum t) (full_span p.group k) (omega (arith, within, counts))
      ∙ ap page_list_len (sym (ap (λ (l : List ClusterMeta). take p.group l) (drop-map meta (k * p.group) cs)
      ∙ take-map meta p.group (drop (k * p.group) cs)))

  pub lists-are : AreFullLists p.group metas lens
  lists-are =
      lists-of p.group metas book.lists listed-all
      (λ j less. let next : suc j * p.group ≤ length book.lists * p.group = mul-le-mul_right p.group (omega (arith, less)) in
      is.beside.noted j less ∙ full-list j (omega (arith, next, times-suc j p.group, listed-all)))

  -- where the book ends
  pub end-is : book_end book ≡ clusters_place t + sum_by (λ (m : ClusterMeta). m.len) metas + total lens
  end-is =
      omega (
        arith,
        is.begin,
        ap (λ (cs : List (Cluster ClusterMeta)). sum_by (λ (c : Cluster ClusterMeta). c.len) cs) all-flat,
        ranges-told (book_clusters book) (λ k less. (is.kept.clusters k less).len),
        total-lens book.lists,
        ap torn_bytes is.beside.untorn,
      )

  -- the page list that is due is that of the next group, which is full
  pub due-is : is_due book ≡ true
      → (length lens * p.group + p.group ≡ length metas)
      × (length (due_bytes book) ≡ page_list_len (take p.group (drop (length lens * p.group) metas)))
  due-is due =
      let here : is_due_after (Some (p.group, header_sum t)) book.lists None (length (book_clusters book)) ≡ true =
      sym (ap (λ (g : Option (ℕ × ℕ)). is_due_after g book.lists book.torn (length (book_clusters book))) is.beside.group
      ∙ ap (λ (x : Option Tear). is_due_after (Some (p.group, header_sum t)) book.lists x (length (book_clusters book))) is.beside.untorn)
      ∙ due in
      let full : length (book_clusters book) ≡ clusters_listed p.group book.lists + p.group = eqb-true _ _ here in
      let all : length lens * p.group + p.group ≡ length metas =
      omega (arith, full, times p.group book.lists, counts, ap (λ (n : ℕ). n * p.group) lens-count) in (
        all,
        due-long book due
            ∙ (due-next book p.group (header_sum t) is.beside.group
            ∙ (ap (λ (n : ℕ). list_len (header_sum t) book (record { from = n; count = p.group }))
            (times p.group book.lists ∙ ap (λ (n : ℕ). n * p.group) (sym lens-count))
            ∙ full-list (length lens) (omega (arith, all)))),
      )

  pub due-none : is_due book ≡ false → length (due_bytes book) ≡ 0
  due-none due = ap (λ (b : Bool). length (cond b (replicate blob_key_len 0 ++ due_object book) [])) due

  -- the lists that are noted, and the one that is due, are those of full groups
  pub with-due : (more : List ClusterMeta) → is_due book ≡ true
      → AreFullLists p.group (metas ++ more) (lens ++ length (due_bytes book) ∷ [])
  with-due more due =
      let d = due-is due in
      lists-more p.group metas more (lens ++ length (due_bytes book) ∷ [])
      (lists-snoc p.group metas lens (length (due_bytes book)) lists-are (omega (arith, d.0)) d.1)

  -- where the next cluster ends, behind the page list that is due
  pub next-within : (meta : ClusterMeta) → book_end book + length (due_bytes book) + meta.len
      ≤ whole_len t p.group (metas ++ meta ∷ [])
  next-within meta = at (is_due book) refl
    where
      lens-more : sum_by (λ (m : ClusterMeta). m.len) (metas ++ meta ∷ []) ≡ sum_by (λ (m : ClusterMeta). m.len) metas + meta.len
      lens-more = sum_by-append (λ (m : ClusterMeta). m.len) metas (meta ∷ []) ∙ omega arith

      at : (b : Bool) → is_due book ≡ b
          → book_end book + length (due_bytes book) + meta.len ≤ whole_len t p.group (metas ++ meta ∷ [])
      at true due =
          omega (
            arith,
            end-is,
            lens-more,
            total-snoc lens (length (due_bytes book)),
            front-within t p.group (metas ++ meta ∷ []) (lens ++ length (due_bytes book) ∷ []) some-group (with-due (meta ∷ []) due),
          )
      at false due =
          omega (
            arith,
            end-is,
            lens-more,
            due-none due,
            front-within t p.group (metas ++ meta ∷ []) lens some-group (lists-more p.group metas (meta ∷ []) lens lists-are),
          )
