-- What is chosen of an entry of a cluster, as its columns have it.
use Rattle.std.proofs.Common.{◌≡◌, ◌∙◌, ap, sym, subst, ℕ, List}
use Rattle.std.proofs.Math.Path.{fun_ext}
use Rattle.std.specs.Prelude.{slice_index_or}
use Rattle.nt_types.specs.TreeData.{TreesData, no_trees}
use Rattle.nt_plans.specs.Plan.{PlansData}
use Rattle.nt_plans.specs.Place.{open_plans}
use Rattle.nt_trees.specs.Columns.{Cols}
use Rattle.nt_trees.specs.TreeAt.{each_at}
use Rattle.nt_join.specs.Chosen.{chosen}
use Rattle.nt_join.specs.Readable.{ReadableEach}
use Rattle.nt_moving.specs.Moved.{chosen_at}
use Rattle.nt_file_meaning.specs.Clusters.{columns_by_id}
use Rattle.nt_reader.specs.Columns.{ClusterData, given_entries}

-- plans and columns that are those of a cluster
module _ (c : ClusterData) (ps : PlansData) (cols : Cols) (i : ℕ) (plans : ps ≡ open_plans c.table)
    (same : (id : ℕ) → cols id ≡ columns_by_id c.columns id) where
  pub cluster-readable : ReadableEach (open_plans c.table) (columns_by_id c.columns) i → ReadableEach ps cols i
  cluster-readable is =
      subst (λ (qs : PlansData). ReadableEach qs cols i) (sym plans)
      (subst (λ (ds : Cols). ReadableEach (open_plans c.table) ds i) (sym (fun_ext same)) is)

  pub chosen-given : (places : List ℕ)
      → slice_index_or (given_entries c) i no_trees ≡ each_at (open_plans c.table) (columns_by_id c.columns) i
      → chosen places (slice_index_or (given_entries c) i no_trees) ≡ chosen_at ps cols places i
  chosen-given places given =
      ap (λ (e : TreesData). chosen places e) (given
      ∙ (ap (λ (ds : Cols). each_at (open_plans c.table) ds i) (sym (fun_ext same))
      ∙ ap (λ (qs : PlansData). each_at qs cols i) (sym plans)))
