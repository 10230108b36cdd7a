-- The page lists of full groups, by what is kept of their clusters.
use Rattle.std.proofs.Common.{◌≡◌, ◌∙◌, ap, sym, subst, refl, ℕ, suc, ◌+◌, ◌*◌, ◌<◌, ◌≤◌, Bool, true, false, List, [], ◌∷◌, ◌++◌}
use Rattle.std.proofs.Common.{length, take, drop, sum_by, arith}
use Rattle.std.specs.Prelude.{nat_lt}
use Rattle.std.specs.Int.{div_ceil}
use Rattle.std.proofs.Math.Nat.{mul-le-mul_right, add-mul, suc-mul, zero-mul}
use Rattle.std.proofs.lemmas.Bool.{ltb-true, ltb-false}
use Rattle.std.proofs.lemmas.Grind.{div_ceil_times}
use Rattle.std.proofs.lemmas.List.{length-append, length-drop, drop-drop, take-append-drop, take-append-le, drop-append-le}
use Rattle.std.proofs.lemmas.List.Sums.{sum_by-append}
use Rattle.nt_book.specs.declared.meta.ClusterMeta.{ClusterMeta}
use Rattle.nt_dealing.specs.Lengths.{page_list_len, listed_cluster_len}

-- lengths together
abbrev pub total : List ℕ → ℕ
total [] = 0
total (n ∷ ns) = n + total ns

pub total-snoc : (ns : List ℕ) (n : ℕ) → total (ns ++ n ∷ []) ≡ total ns + n
total-snoc [] n = omega arith
total-snoc (m ∷ ns) n = omega (arith, total-snoc ns n)

-- each of these lengths is that of the page list of a full group of so many clusters, the first groups of them
abbrev pub AreFullLists : ℕ → List ClusterMeta → List ℕ → Type 0
AreFullLists most ms [] = Unit {0}
AreFullLists most ms (n ∷ ns) = (most ≤ length ms) × (n ≡ page_list_len (take most ms)) × AreFullLists most (drop most ms) ns

pub times-suc : (k most : ℕ) → suc k * most ≡ most + k * most
times-suc k most = omega (arith, suc-mul k most)

list-len : (ms : List ClusterMeta) → page_list_len ms ≡ page_list_len [] + sum_by listed_cluster_len ms
list-len ms = omega arith

parts-sum : (n : ℕ) (ms : List ClusterMeta)
    → sum_by listed_cluster_len ms ≡ sum_by listed_cluster_len (take n ms) + sum_by listed_cluster_len (drop n ms)
parts-sum n ms =
    ap (λ (l : List ClusterMeta). sum_by listed_cluster_len l) (sym (take-append-drop n ms))
    ∙ sum_by-append listed_cluster_len (take n ms) (drop n ms)

pub lists-short : (most : ℕ) (ms : List ClusterMeta) (ns : List ℕ) → AreFullLists most ms ns
    → total ns ≤ page_list_len [] * length ns + sum_by listed_cluster_len ms
lists-short most ms [] are = omega arith
lists-short most ms (n ∷ ns) are =
    omega (arith, are.1, list-len (take most ms), lists-short most (drop most ms) ns are.2, parts-sum most ms)

pub lists-few : (most : ℕ) (ms : List ClusterMeta) (ns : List ℕ) → AreFullLists most ms ns → length ns * most ≤ length ms
lists-few most ms [] are = omega (arith, zero-mul most)
lists-few most ms (n ∷ ns) are =
    omega (arith, are.0, lists-few most (drop most ms) ns are.2, length-drop most ms, times-suc (length ns) most)

-- they are so of more clusters
pub lists-more : (most : ℕ) (ms xs : List ClusterMeta) (ns : List ℕ) → AreFullLists most ms ns → AreFullLists most (ms ++ xs) ns
lists-more most ms xs [] are = tt
lists-more most ms xs (n ∷ ns) are = (
  omega (arith, are.0, length-append ms xs),
  are.1 ∙ sym (ap page_list_len (take-append-le most ms xs are.0)),
  subst (λ (l : List ClusterMeta). AreFullLists most l ns) (sym (drop-append-le most ms xs are.0))
      (lists-more most (drop most ms) xs ns are.2),
)

-- behind them that of the next group
pub lists-snoc : (most : ℕ) (ms : List ClusterMeta) (ns : List ℕ) (n : ℕ) → AreFullLists most ms ns
    → length ns * most + most ≤ length ms → n ≡ page_list_len (take most (drop (length ns * most) ms)) → AreFullLists most ms (ns ++ n ∷ [])
lists-snoc most ms [] n are enough is =
    let none : 0 * most ≡ 0 = zero-mul most in (
      omega (arith, enough, none),
      is ∙ ap (λ (k : ℕ). page_list_len (take most (drop k ms))) none,
      tt,
    )
lists-snoc most ms (m ∷ ns) n are enough is =
    let next : length (m ∷ ns) * most ≡ most + length ns * most = times-suc (length ns) most in (
      are.0,
      are.1,
      lists-snoc most (drop most ms) ns n are.2 (omega (arith, enough, next, length-drop most ms))
          (is
          ∙ (ap (λ (k : ℕ). page_list_len (take most (drop k ms))) next
          ∙ sym (ap (λ (l : List ClusterMeta). page_list_len (take most l)) (drop-drop (length ns * most) most ms)))),
    )

-- full groups are no more than all groups
pub groups-enough : (most g n : ℕ) → 0 < most → g * most ≤ n → g ≤ div_ceil n most
groups-enough most g n some le = at (nat_lt (div_ceil n most) g) refl
  where
    at : (c : Bool) → nat_lt (div_ceil n most) g ≡ c → g ≤ div_ceil n most
    at true e =
        let q = div_ceil n most in
        let less : q + 1 ≤ g = omega (arith, ltb-true q g e) in
        let more : (q + 1) * most ≤ g * most = mul-le-mul_right most less in
        let parts : (q + 1) * most ≡ q * most + 1 * most = add-mul q 1 most in
        let enough = (div_ceil_times n most some).0 in
        absurd (omega (arith, more, parts, enough, le, some))
    at false e = ltb-false (div_ceil n most) g e
