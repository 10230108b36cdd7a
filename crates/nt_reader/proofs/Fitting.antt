-- The entries of a cluster fit its schema.
use Rattle.std.proofs.Common.{◌≡◌, ℕ, ◌<◌, List, true, sym, ap, subst, ◌∙◌}
use Rattle.std.proofs.Math.Path.{fun_ext}
use Rattle.std.specs.Prelude.{length, slice_index_or, Option}
use Rattle.nt_types.specs.ShapeData.{ShapeData}
use Rattle.nt_types.specs.TreeData.{TreesData, no_trees}
use Rattle.nt_types.specs.Fits.{fit_kinds}
use Rattle.nt_grammar.specs.declared.rows.ColumnRow.{ColumnRow}
use Rattle.nt_grammar.specs.declared.rows.FieldRow.{FieldRow}
use Rattle.nt_grammar.specs.Open.{open_shapes}
use Rattle.nt_grammar.specs.Table.{Table}
use Rattle.nt_plans.specs.Place.{place_from, open_plans}
use Rattle.nt_plans.specs.Plan.{PlansData}
use Rattle.nt_plans.specs.Types.{AllHaveTypes}
use Rattle.nt_trees.specs.Columns.{Cols}
use Rattle.nt_trees.specs.Fits.{fits_entry, fit_plans, some_shapes}
use Rattle.nt_trees.specs.Sound.{AllSound}
use Rattle.nt_trees.specs.TreeAt.{each_at}
use Rattle.nt_fitting.specs.Fitting.{AreOfRows}
use Rattle.nt_file_meaning.specs.Clusters.{columns_by_id}
use Rattle.nt_view.specs.Loaded.{Loaded}
use Rattle.nt_listing.specs.Listings.{columns_of_loaded}
use Rattle.nt_reader.specs.Columns.{ClusterData, given_entries, AreClusterColumns, IsSoundOver}
use Rattle.nt_reader.proofs.Entries.{entry-is}

-- what the laws that are called say
pub record HasFittingLaws : Type 0 where
  pub typed : (t : Table) → AllHaveTypes t.columns (open_plans t)
  pub taken : (fields : List FieldRow) (columns : List ColumnRow) (id : ℕ) (shapes : List (Option ShapeData)) (ts : TreesData)
      → fit_plans (place_from fields columns id shapes) ts ≡ fit_kinds (some_shapes shapes) ts
  pub fit : (cs : List ColumnRow) (ps : PlansData) (cols : Cols) (n i : ℕ) → AllHaveTypes cs ps → AreOfRows cs cols → AllSound ps cols n
      → fit_plans ps (each_at ps cols i) ≡ true

pub entry-fits : HasFittingLaws → (c seen : ClusterData) (i : ℕ) → c ≡ seen
    → AreClusterColumns c.table (columns_by_id c.columns) c.entries → i < seen.entries
    → fits_entry seen.table (slice_index_or (given_entries seen) i no_trees) ≡ true
entry-fits laws c seen i is are less =
    let t : Table = c.table in
    let ts : TreesData = each_at (open_plans t) (columns_by_id c.columns) i in
    let own : fits_entry t ts ≡ true =
    sym (laws.taken t.fields t.columns 0 (open_shapes t.fields t.columns 0 t.fields) ts)
    ∙ laws.fit t.columns (open_plans t) (columns_by_id c.columns) c.entries i (laws.typed t) are.typed are.sound in
    ap (λ (e : TreesData). fits_entry seen.table e) (entry-is c seen i is less)
    ∙ ap (λ (d : ClusterData). fits_entry d.table ts) (sym is) ∙ own

-- loaded columns are those of a cluster by their ids too
pub sound-by_ids : (t : Table) (l : Loaded) (entries : ℕ) → IsSoundOver t l entries
    → AreClusterColumns t (columns_by_id (columns_of_loaded 0 (length t.columns) l)) entries
sound-by_ids t l entries sound =
    subst (λ (cols : Cols). AreClusterColumns t cols entries) (sym (fun_ext sound.all)) sound.are
