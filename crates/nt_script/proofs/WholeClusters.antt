-- The whole clusters of entries.
use Rattle.std.proofs.Common.{◌≡◌, ◌∙◌, ◌⊎◌, inl, inr, ap, refl, ℕ, ◌<◌, ◌==◌, Bool, true, false, List, [], ◌∷◌, ◌++◌, length, arith}
use Rattle.std.proofs.Common.{append-nil}
use Rattle.std.specs.Prelude.{if◌then◌else◌}
use Rattle.std.specs.List.{flat_map, AllByRecursion}
use Rattle.std.proofs.lemmas.Bool.Decides.{nat_tests}
use Rattle.nt_lists.specs.Chunks.{chunks}
use Rattle.nt_types.specs.TreeData.{TreesData}
use Rattle.nt_contexts.proofs.Chunking.{chunks-full, chunks-none, chunks-last}
use Rattle.nt_script.specs.Passing.{whole_clusters}

-- in front of others
whole_front : (n : ℕ) (full rest : List (List TreesData)) → AllByRecursion (λ (c : List TreesData). length c ≡ n) full
    → whole_clusters n (full ++ rest) ≡ full ++ whole_clusters n rest
whole_front n [] rest sizes = refl
whole_front n (c ∷ full) rest sizes =
    let same : (length c == n) ≡ true = grind (arith, nat_tests, sizes.0) in
    ap (λ (b : Bool). if b then c ∷ whole_clusters n (full ++ rest) else []) same
    ∙ ap (λ (l : List (List TreesData)). c ∷ l) (whole_front n full rest sizes.1)

-- a cluster that isn't whole
whole_none : (n : ℕ) (g : List TreesData) → length g < n → whole_clusters n (g ∷ []) ≡ []
whole_none n g few =
    let apart : (length g == n) ≡ false = grind (arith, nat_tests, few) in
    ap (λ (b : Bool). if b then g ∷ [] else []) apart

some_or_none : (es : List TreesData) → (length es ≡ 0) ⊎ (0 < length es)
some_or_none [] = inl refl
some_or_none (e ∷ es) = inr (omega arith)

-- of whole clusters and fewer entries behind them
pub whole_are : (n : ℕ) (full : List (List TreesData)) (g es : List TreesData)
    → es ≡ flat_map (λ (c : List TreesData). c) full ++ g → AllByRecursion (λ (c : List TreesData). length c ≡ n) full → length g < n
    → whole_clusters n (chunks n es) ≡ full
whole_are n full g es is sizes few =
    ap (λ (l : List TreesData). whole_clusters n (chunks n l)) is
    ∙ (ap (whole_clusters n) (chunks-full n (omega (arith, few)) full g sizes)
    ∙ (whole_front n full (chunks n g) sizes
    ∙ (ap (λ (l : List (List TreesData)). full ++ l) none ∙ append-nil full)))
  where
    none : whole_clusters n (chunks n g) ≡ []
    none = elim (some_or_none g) [
      | inl empty ↦ ap (whole_clusters n) (chunks-none n (omega (arith, few)) g empty)
      | inr some ↦ ap (whole_clusters n) (chunks-last n (omega (arith, few)) g some (omega (arith, few))) ∙ whole_none n g few
    ]
