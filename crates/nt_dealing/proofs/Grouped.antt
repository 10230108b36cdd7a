-- How long the page lists of full groups are, and the chunks of the last of them.
use Rattle.std.proofs.Common.{◌≡◌, ◌∙◌, ap, sym, subst, ℕ, zero, suc, ◌+◌, ◌*◌, ◌/◌, ◌<◌, ◌≤◌, List, [], ◌∷◌, ◌++◌, length, map, take}
use Rattle.std.proofs.Common.{drop, Option, Some, append_assoc, sum_by, arith, suc-mul}
use Rattle.std.specs.Prelude.{IsPermutation}
use Rattle.std.specs.Int.{div_ceil}
use Rattle.std.specs.List.{AllZip}
use Rattle.std.proofs.Math.Nat.{div-mul-le_self, le_of_mul-le-mul_right, mul-le-mul_left, mul-suc}
use Rattle.std.proofs.lemmas.Grind.{div_ceil_times}
use Rattle.std.proofs.lemmas.List.{drop-drop, drop-map, length-drop, length-map, take-append-drop, take_all}
use Rattle.std.proofs.lemmas.List.Sums.{sum_by-take-drop}
use Rattle.std.proofs.lemmas.List.Sorted.{IsPermutation-append_comm, IsPermutation-append_left, IsPermutation-trans}
use Rattle.nt_machine.specs.History.{Cluster, ranges_of}
use Rattle.nt_machine.specs.Legal.{end_after}
use Rattle.nt_book.specs.declared.meta.ClusterMeta.{ClusterMeta}
use Rattle.nt_book.specs.Books.{BookData, book_clusters}
use Rattle.nt_pagelists.specs.Objects.{list_len}
use Rattle.nt_commit.specs.Lists.{groups_len, full_lists_len, listed_end, IsLastList}
use Rattle.nt_dealing.specs.Lengths.{listed_cluster_len, page_list_len, group_count, page_lists_len}
use Rattle.nt_dealing.proofs.Lengths.{length-list_object}
use Rattle.nt_dealing.proofs.Lists.{sum_by-mapped}

abbrev metas : List (Cluster ClusterMeta) → List ClusterMeta
metas cs = map (λ (c : Cluster ClusterMeta). c.meta) cs

-- what page lists have of clusters
abbrev listed : List (Cluster ClusterMeta) → ℕ
listed cs = sum_by (λ (c : Cluster ClusterMeta). listed_cluster_len c.meta) cs

module _ (sum most : ℕ) (book : BookData) where
  abbrev cs : List (Cluster ClusterMeta)
  cs = book_clusters book

  -- those of some groups
  groups-long : (from n : ℕ) → from + n * most ≤ length cs
      → groups_len sum book most from n ≤ page_list_len [] * n + listed (drop from cs)
  groups-long from zero le = omega arith
  groups-long from (suc n) le =
      let times : suc n * most ≡ n * most + most = suc-mul n most in
      let one : list_len sum book (record { from = from; count = most }) ≡ page_list_len [] + listed (take most (drop from cs)) =
      omega (
        arith,
        length-list_object book sum (record { from = from; count = most }) (omega (arith, le, times)),
        sum_by-mapped listed_cluster_len (λ (c : Cluster ClusterMeta). c.meta) (take most (drop from cs)),
      ) in
      let rest : groups_len sum book most (from + most) n ≤ page_list_len [] * n + listed (drop (from + most) cs) =
      groups-long (from + most) n (omega (arith, le, times)) in
      let parts : listed (take most (drop from cs)) + listed (drop most (drop from cs)) ≡ listed (drop from cs) =
      sum_by-take-drop (λ (c : Cluster ClusterMeta). listed_cluster_len c.meta) (drop from cs) most in
      let behind : listed (drop most (drop from cs)) ≡ listed (drop (from + most) cs) =
      ap (λ (l : List (Cluster ClusterMeta)). listed l) (drop-drop most from cs) in
      more-lists (page_list_len []) n (list_len sum book (record { from = from; count = most }))
      (groups_len sum book most (from + most) n) (listed (take most (drop from cs))) (listed (drop (from + most) cs))
      (listed (drop from cs)) one rest (omega (arith, parts, behind))
    where
      more-lists : (a n one rest front back all : ℕ) → one ≡ a + front → rest ≤ a * n + back → front + back ≡ all
          → one + rest ≤ a * suc n + all
      more-lists a n one rest front back all is le whole = omega (arith, is, le, whole, mul-suc a n)

  -- all full groups have no more than all groups
  pub full-long : 0 < most → groups_len sum book most 0 (length cs / most) ≤ page_lists_len most (metas cs)
  full-long some =
      let n = length cs / most in
      let inside : n * most ≤ length cs = div-mul-le_self (length cs) most in
      let enough : length cs ≤ div_ceil (length cs) most * most = (div_ceil_times (length cs) most some).0 in
      let fewer : n ≤ div_ceil (length cs) most =
      le_of_mul-le-mul_right {m = n} {n = div_ceil (length cs) most} {k = most} (omega (arith, inside, enough)) some in
      let counts : div_ceil (length cs) most ≡ group_count most (length (metas cs)) =
      ap (λ (k : ℕ). div_ceil k most) (sym (length-map cs (λ (c : Cluster ClusterMeta). c.meta))) in
      within (page_list_len [] * n) (page_list_len [] * group_count most (length (metas cs))) (listed cs)
      (sum_by listed_cluster_len (metas cs)) (groups_len sum book most 0 n) (groups-long 0 n (omega (arith, inside)))
      (mul-le-mul_left (page_list_len []) (subst (λ (k : ℕ). n ≤ k) counts fewer))
      (sum_by-mapped listed_cluster_len (λ (c : Cluster ClusterMeta). c.meta) cs)
    where
      within : (a b c d len : ℕ) → len ≤ a + c → a ≤ b → d ≡ c → len ≤ b + d
      within a b c d len le more is = omega (arith, le, more, is)

  -- the page list of the last group lists the last clusters
  pub last-long : (len : ℕ) → (last : IsLastList sum most book len) → len ≡ page_list_len (drop (last.groups * most) (metas cs))
  last-long len last =
      let k = last.groups * most in
      let count : length (drop k cs) ≤ most = omega (arith, length-drop k cs, last.full) in
      last.len_is
      ∙ (length-list_object book sum (record { from = k; count = most }) (omega (arith, last.full))
      ∙ ap (λ (ms : List ClusterMeta). page_list_len ms)
      (ap (λ (l : List (Cluster ClusterMeta)). metas l) (take_all most (drop k cs) count)
      ∙ sym (drop-map (λ (c : Cluster ClusterMeta). c.meta) k cs)))

-- where a file ends whose full groups all have their page lists
pub listed-within : (sum most : ℕ) (book : BookData) → 0 < most → book.group ≡ Some (most, sum)
    → listed_end book ≤ end_after book.begin (ranges_of book.history) + page_lists_len most (metas (book_clusters book))
listed-within sum most book some group =
    let lists : full_lists_len book.group book ≡ groups_len sum book most 0 (length (book_clusters book) / most) =
    ap (λ (g : Option (ℕ × ℕ)). full_lists_len g book) group in
    omega (arith, lists, full-long sum most book some)

module _ {A B : Type 0} (R : A → B → Type 0) where
  -- those behind the first ones
  pub zip-drop : (k : ℕ) (xs : List A) (ys : List B) → AllZip R xs ys → AllZip R (drop k xs) (drop k ys)
  zip-drop zero xs ys h = h
  zip-drop (suc k) [] [] h = tt
  zip-drop (suc k) [] (y ∷ ys) h = absurd h
  zip-drop (suc k) (x ∷ xs) [] h = absurd h
  zip-drop (suc k) (x ∷ xs) (y ∷ ys) h = zip-drop k xs ys h.1

-- the last ones before the others
pub last-first : {A : Type 0} (k : ℕ) (xs ys all : List A) → IsPermutation (xs ++ ys) all
    → IsPermutation (drop k xs ++ (take k xs ++ ys)) all
last-first k xs ys all whole =
    IsPermutation-trans (drop k xs ++ (take k xs ++ ys)) (xs ++ ys) all
    (subst (λ (l : List _). IsPermutation l (xs ++ ys)) (append_assoc (drop k xs) (take k xs) ys)
    (IsPermutation-append_left ys (drop k xs ++ take k xs) xs
    (subst (λ (l : List _). IsPermutation (drop k xs ++ take k xs) l) (take-append-drop k xs)
    (IsPermutation-append_comm (drop k xs) (take k xs))))) whole
