-- The elements of clusters, added to those of each column.
use Rattle.std.proofs.Common.{◌≡◌, ℕ, zero, suc, ◌+◌, ◌-◌, ◌<◌, ◌≤◌, ◌^◌, min, List, [], ◌∷◌, ◌++◌, length, take, refl, sym, ap, ◌∙◌, arith}
use Rattle.std.specs.Prelude.{slice_index_or, slice_set}
use Rattle.nt_pagelists.specs.declared.cluster.ColumnList.{ColumnList}
use Rattle.nt_pagelists.specs.declared.page.PageItem.{PageItem}
use Rattle.nt_pagelists.specs.Columns.{paged_elements}
use Rattle.nt_pagelists.specs.Clusters.{with_elements}
use Rattle.std.proofs.lemmas.List.{take_all}
use Rattle.std.proofs.Math.Seq.{take-suc}
use Rattle.nt_meta.proofs.PageSteps.{elements-push}

abbrev most : ℕ
most = 2 ^ 64 - 1

pub counting-next : (xs : List PageItem) (i s count next : ℕ) (d : PageItem) → s ≡ min (paged_elements (take i xs)) most
    → i < length xs → count ≡ (slice_index_or xs i d).count → next ≡ min (s + count) most
    → next ≡ min (paged_elements (take (i + 1) xs)) most
counting-next xs i s count next d e lt is sum =
    let same : suc i ≡ i + 1 = omega arith in
    let longer : take (i + 1) xs ≡ take i xs ++ slice_index_or xs i d ∷ [] = ap (λ (j : ℕ). take j xs) (sym same) ∙ take-suc xs i d lt in
    let more : paged_elements (take (i + 1) xs) ≡ paged_elements (take i xs) + (slice_index_or xs i d).count =
    ap paged_elements longer ∙ elements-push (take i xs) (slice_index_or xs i d) in
    omega (arith, e, is, sum, more)

pub counting-done : (xs : List PageItem) (i s : ℕ) → length xs ≤ i → s ≡ min (paged_elements (take i xs)) most
    → s ≡ min (paged_elements xs) most
counting-done xs i s le e = e ∙ ap (λ (l : List PageItem). min (paged_elements l) most) (take_all i xs le)

pub ruleset counting_steps = (counting-next, counting-done)

-- one more column
added-set : (es : List ℕ) (ls : List ColumnList) (i : ℕ) (d : ColumnList) → i < length es → i < length ls
    → with_elements es (take (suc i) ls) ≡ slice_set (with_elements es (take i ls)) i
    (min (slice_index_or (with_elements es (take i ls)) i 0 + paged_elements (slice_index_or ls i d).pages) most)
added-set [] ls i d some more = absurd (omega arith)
added-set (e ∷ es) [] i d some more = absurd (omega arith)
added-set (e ∷ es) (l ∷ ls) zero d some more = refl
added-set (e ∷ es) (l ∷ ls) (suc i) d some more =
    ap (λ (x : List ℕ). min (e + paged_elements l.pages) most ∷ x) (added-set es ls i d (omega arith) (omega arith))

pub adding-next : (es now : List ℕ) (ls : List ColumnList) (i more sum : ℕ) (d : ColumnList) → now ≡ with_elements es (take i ls)
    → i < length es → i < length ls
    → more ≡ min (paged_elements (slice_index_or ls i d).pages) most → sum ≡ min (slice_index_or now i 0 + more) most
    → slice_set now i sum ≡ with_elements es (take (i + 1) ls)
adding-next es now ls i more sum d e some few is sums =
    let same : suc i ≡ i + 1 = omega arith in
    let one : sum ≡ min (slice_index_or now i 0 + paged_elements (slice_index_or ls i d).pages) most = omega (arith, is, sums) in
    let there : with_elements es (take (suc i) ls) ≡ slice_set now i
    (min (slice_index_or now i 0 + paged_elements (slice_index_or ls i d).pages) most) =
    added-set es ls i d some few ∙ ap (λ (x : List ℕ). slice_set x i
    (min (slice_index_or x i 0 + paged_elements (slice_index_or ls i d).pages) most)) (sym e) in
    ap (slice_set now i) one ∙ (sym there ∙ ap (λ (j : ℕ). with_elements es (take j ls)) same)

pub adding-done : (es now : List ℕ) (ls : List ColumnList) (i : ℕ) → length ls ≤ i → now ≡ with_elements es (take i ls)
    → now ≡ with_elements es ls
adding-done es now ls i le e = e ∙ ap (with_elements es) (take_all i ls le)

pub ruleset adding_steps = (adding-next, adding-done)
