-- What a kept cluster's pages leave room for.
use Rattle.std.proofs.Common.{◌≡◌, ℕ, zero, suc, ◌+◌, ◌*◌, ◌<◌, ◌≤◌, ◌^◌, List, [], ◌∷◌, length, ap, sym, subst, arith}
use Rattle.std.specs.Prelude.{slice_index_or}
use Rattle.std.specs.List.{AllByRecursion, sum_by}
use Rattle.std.proofs.lemmas.List.Sums.{sum_by-cons}
use Rattle.nt_machine.specs.History.{Cluster}
use Rattle.nt_book.specs.declared.meta.PageMeta.{PageMeta}
use Rattle.nt_book.specs.declared.meta.ClusterMeta.{ClusterMeta}
use Rattle.nt_book.specs.Pages.{stored_size, IsPageOf}
use Rattle.nt_book.specs.Kept.{IsKeptCluster}

-- each page has the 8 bytes of its checksum at least
pages-le : (pages : List PageMeta) → 8 * length pages ≤ stored_size pages
pages-le [] = omega arith
pages-le (p ∷ ps) = omega (arith, pages-le ps, sum_by-cons (λ (q : PageMeta). q.size + 8) p ps)

stored-le : (lists : List (List PageMeta)) (i : ℕ) → stored_size (slice_index_or lists i []) ≤ sum_by stored_size lists
stored-le [] i = omega arith
stored-le (pages ∷ lists) zero = omega (arith, sum_by-cons stored_size pages lists)
stored-le (pages ∷ lists) (suc i) = omega (arith, stored-le lists i, sum_by-cons stored_size pages lists)

-- so a list frame can count them
pub few_pages : (columns i : ℕ) (c : Cluster ClusterMeta) (pages : List PageMeta) → IsKeptCluster columns c
    → pages ≡ slice_index_or c.meta.pages i [] → length pages < 2 ^ 32
few_pages columns i c pages h is =
    let few = pages-le (slice_index_or c.meta.pages i []) in
    omega (arith, ap length is, few, stored-le c.meta.pages i, h.paged.sizes, h.short)

each-low : (meta : ClusterMeta) (payload : ℕ) (pages : List PageMeta) → payload + meta.len < 2 ^ 64
    → AllByRecursion (IsPageOf meta) pages → AllByRecursion (λ p. payload + p.place < 2 ^ 64) pages
each-low meta payload [] low h = tt
each-low meta payload (p ∷ ps) low h = let place = h.0.place in (omega (arith, low, place), each-low meta payload ps low h.1)

lists-low : (meta : ClusterMeta) (payload i : ℕ) (lists : List (List PageMeta)) → payload + meta.len < 2 ^ 64
    → AllByRecursion (λ pages. AllByRecursion (IsPageOf meta) pages) lists
    → AllByRecursion (λ p. payload + p.place < 2 ^ 64) (slice_index_or lists i [])
lists-low meta payload i [] low h = tt
lists-low meta payload zero (pages ∷ lists) low h = each-low meta payload pages low h.0
lists-low meta payload (suc i) (pages ∷ lists) low h = lists-low meta payload i lists low h.1

-- and their places are numbers of 64 bits
pub low_pages : (columns i payload : ℕ) (c : Cluster ClusterMeta) (pages : List PageMeta) → IsKeptCluster columns c
    → payload ≡ c.start + 42 → pages ≡ slice_index_or c.meta.pages i []
    → AllByRecursion (λ p. payload + p.place < 2 ^ 64) pages
low_pages columns i payload c pages h begins is =
    subst (λ (l : List PageMeta). AllByRecursion (λ p. payload + p.place < 2 ^ 64) l) (sym is)
    (lists-low c.meta payload i c.meta.pages (omega (arith, begins, h.short, h.low)) h.paged.each)
