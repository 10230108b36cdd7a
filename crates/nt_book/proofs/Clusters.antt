-- The clusters of a book as those of its rows: each is the range of its number.
use Rattle.std.proofs.Common.{◌≡◌, ℕ, zero, suc, ◌+◌, ◌<◌, ◌==◌, Bool, true, false, cond, List, [], ◌∷◌, ◌++◌, length, map, Some, refl, sym}
use Rattle.std.proofs.Common.{ap, subst}
use Rattle.std.proofs.Common.{◌∙◌, arith}
use Rattle.std.specs.Prelude.{slice_get, take}
use Rattle.std.specs.List.{AllByRecursion, sum_by, flat_map}
use Rattle.std.proofs.lemmas.List.{map-append, length-map}
use Rattle.std.proofs.lemmas.List.Sums.{sum_by-cons}
use Rattle.nt_machine.specs.History.{Cluster, own_of, numbers_of}
use Rattle.nt_machine.proofs.Histories.{AllByRecursion-append}
use Rattle.nt_book.specs.declared.meta.ClusterMeta.{ClusterMeta}
use Rattle.nt_book.specs.declared.state.RangeState.{RangeState}
use Rattle.nt_book.specs.declared.row.ClusterRow.{ClusterRow}
use Rattle.nt_book.specs.declared.row.PublishedRow.{PublishedRow}
use Rattle.nt_book.specs.Entries.{row_cluster, row_clusters, no_row}
use Rattle.nt_book.specs.Kept.{AreNamed}
use Rattle.nt_book.specs.Keeping.{order_numbers, own_numbers, listed_rows, placed_row, row_at, with_state}
use Rattle.nt_book.proofs.Own.{numbers-own}
use Rattle.nt_book.proofs.Rows.{length-row_clusters, slice_get-row_clusters, inside-slice_get, Some-same, at-with_state, row-append}
use Rattle.nt_book.proofs.Rows.{named-row_clusters}

-- clusters of this number, by rows
abbrev pub numbered : List ClusterRow → ℕ → Cluster ClusterMeta
numbered rows n = row_cluster n (row_at rows n)

-- the clusters, by rows and by the ranges that were published
abbrev pub cluster_list : Bool → List PublishedRow → List ClusterRow → List (Cluster ClusterMeta)
cluster_list false order rows = row_clusters 0 rows
cluster_list true order rows = map (numbered rows) (order_numbers order)

pub inside-named : (rows : List ClusterRow) (c : Cluster ClusterMeta) → slice_get (row_clusters 0 rows) c.number ≡ Some c
    → c.number < length rows
inside-named rows c at = omega (arith, length-row_clusters 0 rows, inside-slice_get (row_clusters 0 rows) c.number c at)

-- a cluster that is the range of its number is that of its row
pub named-row : (rows : List ClusterRow) (c : Cluster ClusterMeta) → slice_get (row_clusters 0 rows) c.number ≡ Some c
    → c ≡ numbered rows c.number
named-row rows c at =
    Some-same (sym at ∙ slice_get-row_clusters 0 rows c.number no_row (inside-named rows c at))
    ∙ ap (λ (m : ℕ). row_cluster m (row_at rows c.number)) (omega arith)

numbered-all : (rows : List ClusterRow) (cs : List (Cluster ClusterMeta)) → AreNamed (row_clusters 0 rows) cs
    → cs ≡ map (numbered rows) (numbers_of cs)
numbered-all rows [] h = refl
numbered-all rows (c ∷ cs) h =
    ap (λ (d : Cluster ClusterMeta). d ∷ cs) (named-row rows c h.0)
    ∙ ap (λ (l : List (Cluster ClusterMeta)). numbered rows c.number ∷ l) (numbered-all rows cs h.1)

all-own : (P : Cluster ClusterMeta → Type 0) (rs : List (Cluster ClusterMeta)) (i : ℕ) → AllByRecursion P rs → AllByRecursion P
    (own_of rs i)
all-own P [] i h = tt
all-own P (c ∷ cs) i h = at (c.context == i) (all-own P cs i h.1)
  where
    at : (b : Bool) → AllByRecursion P (own_of cs i) → AllByRecursion P (cond b (c ∷ own_of cs i) (own_of cs i))
    at true rest = (h.0, rest)
    at false rest = rest

pub all-published : (P : Cluster ClusterMeta → Type 0) (rs : List (Cluster ClusterMeta)) (ps : List ℕ) → AllByRecursion P rs
    → AllByRecursion P (flat_map (own_of rs) ps)
all-published P rs [] h = tt
all-published P rs (p ∷ ps) h =
    AllByRecursion-append P (own_of rs p) (flat_map (own_of rs) ps) (all-own P rs p h) (all-published P rs ps h)

numbers-published : (rows : List ClusterRow) (ps : List ℕ) → numbers_of (flat_map (own_of (row_clusters 0 rows)) ps)
    ≡ flat_map (own_numbers 0 rows) ps
numbers-published rows [] = refl
numbers-published rows (p ∷ ps) =
    map-append (λ (c : Cluster ClusterMeta). c.number) (own_of (row_clusters 0 rows) p) (flat_map (own_of (row_clusters 0 rows)) ps)
    ∙ (ap (λ (l : List ℕ). l ++ numbers_of (flat_map (own_of (row_clusters 0 rows)) ps)) (numbers-own 0 rows p)
    ∙ ap (λ (l : List ℕ). own_numbers 0 rows p ++ l) (numbers-published rows ps))

-- what contexts published, by rows
pub published-rows : (rows : List ClusterRow) (ps : List ℕ)
    → flat_map (own_of (row_clusters 0 rows)) ps ≡ map (numbered rows) (flat_map (own_numbers 0 rows) ps)
published-rows rows ps =
    numbered-all rows (flat_map (own_of (row_clusters 0 rows)) ps)
    (all-published (λ (c : Cluster ClusterMeta). slice_get (row_clusters 0 rows) c.number ≡ Some c) (row_clusters 0 rows) ps
    (named-row_clusters [] 0 rows refl))
    ∙ ap (λ (l : List ℕ). map (numbered rows) l) (numbers-published rows ps)

-- as many rows of clusters as were published, or as there are
pub length-listed : (staged : Bool) (order : List PublishedRow) (rows : List ClusterRow)
    → length (listed_rows staged order rows) ≡ cond staged (length order) (length rows)
length-listed false order rows = refl
length-listed true order rows = length-map {B = ClusterRow} order (placed_row rows)

pub length-clusters : (staged : Bool) (order : List PublishedRow) (rows : List ClusterRow)
    → length (cluster_list staged order rows) ≡ length (listed_rows staged order rows)
length-clusters false order rows = length-row_clusters 0 rows
length-clusters true order rows =
    length-map {B = Cluster ClusterMeta} (order_numbers order) (numbered rows)
    ∙ (length-map {B = ℕ} order (λ (p : PublishedRow). p.range) ∙ sym (length-map {B = ClusterRow} order (placed_row rows)))

-- a sum that sees the metadata alone
module _ (g : ClusterMeta → ℕ) where
  sum-listed : (m : ℕ) (order : List PublishedRow) (rows : List ClusterRow)
      → sum_by (λ (c : Cluster ClusterMeta). g c.meta) (row_clusters m (map (placed_row rows) order))
      ≡ sum_by (λ (n : ℕ). g (row_at rows n).meta) (order_numbers order)
  sum-listed m [] rows = refl
  sum-listed m (p ∷ order) rows =
      omega (
        arith,
        sum_by-cons (λ (c : Cluster ClusterMeta). g c.meta) (row_cluster m (placed_row rows p))
            (row_clusters (m + 1) (map (placed_row rows) order)),
        sum_by-cons (λ (n : ℕ). g (row_at rows n).meta) p.range (order_numbers order),
        sum-listed (m + 1) order rows,
      )

  pub sum-placed : (order : List PublishedRow) (rows : List ClusterRow)
      → sum_by (λ (c : Cluster ClusterMeta). g c.meta) (row_clusters 0 (map (placed_row rows) order))
      ≡ sum_by (λ (n : ℕ). g (row_at rows n).meta) (order_numbers order)
  sum-placed order rows = sum-listed 0 order rows

  sum-take : (k m : ℕ) (order : List PublishedRow) (rows : List ClusterRow)
      → sum_by (λ (c : Cluster ClusterMeta). g c.meta) (take k (map (numbered rows) (order_numbers order)))
      ≡ sum_by (λ (c : Cluster ClusterMeta). g c.meta) (take k (row_clusters m (map (placed_row rows) order)))
  sum-take zero m order rows = refl
  sum-take (suc k) m [] rows = refl
  sum-take (suc k) m (p ∷ order) rows =
      omega (
        arith,
        sum_by-cons (λ (c : Cluster ClusterMeta). g c.meta) (numbered rows p.range) (take k (map (numbered rows) (order_numbers order))),
        sum_by-cons (λ (c : Cluster ClusterMeta). g c.meta) (row_cluster m (placed_row rows p))
            (take k (row_clusters (m + 1) (map (placed_row rows) order))),
        sum-take k (m + 1) order rows,
      )

  pub sum-take-clusters : (k : ℕ) (staged : Bool) (order : List PublishedRow) (rows : List ClusterRow)
      → sum_by (λ (c : Cluster ClusterMeta). g c.meta) (take k (cluster_list staged order rows))
      ≡ sum_by (λ (c : Cluster ClusterMeta). g c.meta) (take k (row_clusters 0 (listed_rows staged order rows)))
  sum-take-clusters k false order rows = refl
  sum-take-clusters k true order rows = sum-take k 0 order rows

  pub sum-numbered : (rows : List ClusterRow) (ns : List ℕ) → sum_by (λ (c : Cluster ClusterMeta). g c.meta) (map (numbered rows) ns)
      ≡ sum_by (λ (n : ℕ). g (row_at rows n).meta) ns
  sum-numbered rows [] = refl
  sum-numbered rows (n ∷ ns) =
      omega (
        arith,
        sum_by-cons (λ (c : Cluster ClusterMeta). g c.meta) (numbered rows n) (map (numbered rows) ns),
        sum_by-cons (λ (m : ℕ). g (row_at rows m).meta) n ns,
        sum-numbered rows ns,
      )

-- the rows of published clusters don't see the states of rows
pub placed-with_state : (rows : List ClusterRow) (n : ℕ) (s : RangeState) (order : List PublishedRow)
    → map (placed_row (with_state rows n s)) order ≡ map (placed_row rows) order
placed-with_state rows n s [] = refl
placed-with_state rows n s (p ∷ order) =
    ap (λ (m : ClusterMeta). record (placed_row rows p) { meta = m } ∷ map (placed_row (with_state rows n s)) order)
    (at-with_state (λ r. r.meta) (λ r t. refl) rows n s p.range)
    ∙ ap (λ (l : List ClusterRow). placed_row rows p ∷ l) (placed-with_state rows n s order)

-- nor more rows
pub placed-append : (rows : List ClusterRow) (row : ClusterRow) (order : List PublishedRow)
    → AllByRecursion (λ (n : ℕ). n < length rows) (order_numbers order)
    → map (placed_row (rows ++ row ∷ [])) order ≡ map (placed_row rows) order
placed-append rows row [] h = refl
placed-append rows row (p ∷ order) h =
    ap (λ (r : ClusterRow). record (placed_row rows p) { meta = r.meta } ∷ map (placed_row (rows ++ row ∷ [])) order)
    (row-append rows row p.range h.0)
    ∙ ap (λ (l : List ClusterRow). placed_row rows p ∷ l) (placed-append rows row order h.1)

inside-all : (rows : List ClusterRow) (cs : List (Cluster ClusterMeta)) → AreNamed (row_clusters 0 rows) cs
    → AllByRecursion (λ (n : ℕ). n < length rows) (numbers_of cs)
inside-all rows [] h = tt
inside-all rows (c ∷ cs) h = (inside-named rows c h.0, inside-all rows cs h.1)

-- published ranges are among the rows
pub published-inside : (rows : List ClusterRow) (ps : List ℕ)
    → AllByRecursion (λ (n : ℕ). n < length rows) (flat_map (own_numbers 0 rows) ps)
published-inside rows ps =
    subst (AllByRecursion (λ (n : ℕ). n < length rows)) (numbers-published rows ps)
    (inside-all rows (flat_map (own_of (row_clusters 0 rows)) ps)
    (all-published (λ (c : Cluster ClusterMeta). slice_get (row_clusters 0 rows) c.number ≡ Some c) (row_clusters 0 rows) ps
    (named-row_clusters [] 0 rows refl)))
