-- The entries that columns give.
use Rattle.std.proofs.Common.{◌≡◌, ℕ, ◌<◌, List, length, get_or, slice_get, Some, option_map, sym, ap, subst, ◌∙◌, arith}
use Rattle.std.proofs.Math.Path.{fun_ext}
use Rattle.std.specs.List.{range_with_len}
use Rattle.std.proofs.lemmas.Option.{slice_get-map, slice_get-get_or}
use Rattle.std.proofs.lemmas.List.{length-map}
use Rattle.std.proofs.lemmas.List.FromFn.{length-range_with_len, get_or-range_with_len}
use Rattle.nt_types.specs.TreeData.{TreesData, no_trees}
use Rattle.nt_encode.specs.Elements.{Element}
use Rattle.nt_grammar.specs.Table.{Table}
use Rattle.nt_plans.specs.Place.{open_plans}
use Rattle.nt_trees.specs.TreeAt.{each_at}
use Rattle.nt_file_meaning.specs.Clusters.{columns_by_id, entries_of_columns}
use Rattle.nt_trees.specs.Columns.{Cols}
use Rattle.nt_view.specs.Loaded.{Loaded, loaded_elements}
use Rattle.nt_listing.specs.Listings.{columns_of_loaded, AreColumnsOf}
use Rattle.nt_reader.specs.Columns.{ClusterData, given_entries}

given-at : (t : Table) (cs : List (List Element)) (n i : ℕ) → i < n
    → slice_get (entries_of_columns t cs n) i ≡ Some (each_at (open_plans t) (columns_by_id cs) i)
given-at t cs n i lt =
    let f : ℕ → TreesData = λ k. each_at (open_plans t) (columns_by_id cs) k in
    slice_get-map f (range_with_len 0 n) i
    ∙ ap (λ o. option_map f o) (slice_get-get_or (range_with_len 0 n) i 0 (omega (arith, length-range_with_len 0 n, lt))
    ∙ ap (λ (k : ℕ). Some k) (get_or-range_with_len 0 n i 0 lt ∙ omega arith))

-- an entry by its number
pub entry-at : (c seen : ClusterData) (i : ℕ) (entry : TreesData) → c ≡ seen → i < seen.entries
    → entry ≡ each_at (open_plans c.table) (columns_by_id c.columns) i → slice_get (given_entries seen) i ≡ Some entry
entry-at c seen i entry is lt e =
    subst (λ (d : ClusterData). slice_get (given_entries d) i ≡ Some entry) is
    (given-at c.table c.columns c.entries i (omega (arith, ap (λ (d : ClusterData). d.entries) is, lt))
    ∙ ap (λ (x : TreesData). Some x) (sym e))

-- a cluster gives as many entries as it has
pub length-given : (c : ClusterData) → length (given_entries c) ≡ c.entries
length-given c = length-map _ _ ∙ length-range_with_len 0 c.entries

-- the entry at a place
pub entry-is : (c seen : ClusterData) (i : ℕ) → c ≡ seen → i < seen.entries
    → get_or (given_entries seen) i no_trees ≡ each_at (open_plans c.table) (columns_by_id c.columns) i
entry-is c seen i is lt =
    let x = each_at (open_plans c.table) (columns_by_id c.columns) i in
    let below : i < c.entries = omega (arith, ap (λ (d : ClusterData). d.entries) is, lt) in
    let here = slice_get-get_or (given_entries c) i no_trees (omega (arith, length-given c, below)) in
    let there = given-at c.table c.columns c.entries i below in
    let same : get_or (given_entries c) i no_trees ≡ x = cc (here, there) in
    subst (λ (d : ClusterData). get_or (given_entries d) i no_trees ≡ x) is same

-- an entry of loaded columns is that of the columns by their ids
pub over-loaded : (t : Table) (l : Loaded) (i : ℕ) → AreColumnsOf (length t.columns) l
    → each_at (open_plans t) (loaded_elements l) i ≡ each_at (open_plans t) (columns_by_id (columns_of_loaded 0 (length t.columns) l)) i
over-loaded t l i all = ap (λ (cols : Cols). each_at (open_plans t) cols i) (sym (fun_ext all))
