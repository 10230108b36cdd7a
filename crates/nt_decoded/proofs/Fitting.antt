-- The entries of a cluster can be read by its plans.
use Rattle.std.proofs.Common.{◌≡◌, ℕ, ◌<◌, ap, subst, ◌∙◌, arith}
use Rattle.std.specs.Prelude.{slice_index_or}
use Rattle.nt_types.specs.TreeData.{no_trees}
use Rattle.nt_plans.specs.Place.{open_plans}
use Rattle.nt_trees.specs.TreeAt.{each_at}
use Rattle.nt_join.specs.Readable.{ReadableEach}
use Rattle.nt_file_meaning.specs.Clusters.{columns_by_id}
use Rattle.nt_reader.specs.Columns.{ClusterData, given_entries, AreClusterColumns}
use Rattle.nt_reader.proofs.Entries.{entry-is}

-- sound columns can be read at each entry
pub entry-readable : (c seen : ClusterData) (i : ℕ) → c ≡ seen → AreClusterColumns c.table (columns_by_id c.columns) c.entries
    → i < seen.entries → ReadableEach (open_plans seen.table) (columns_by_id seen.columns) i
entry-readable c seen i is are less =
    subst (λ (d : ClusterData). ReadableEach (open_plans d.table) (columns_by_id d.columns) i) is
    (record { size = c.entries; sound = are.sound; within = omega (arith, ap (λ (d : ClusterData). d.entries) is, less) })

-- an entry is read by the plans, told by what is seen alone
pub entry-given : (c seen : ClusterData) (i : ℕ) → c ≡ seen → i < seen.entries
    → slice_index_or (given_entries seen) i no_trees ≡ each_at (open_plans seen.table) (columns_by_id seen.columns) i
entry-given c seen i is lt =
    entry-is c seen i is lt ∙ ap (λ (d : ClusterData). each_at (open_plans d.table) (columns_by_id d.columns) i) is
