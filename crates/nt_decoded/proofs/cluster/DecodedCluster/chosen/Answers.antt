use Rattle.std.proofs.Common.{◌≡◌, ◌∙◌, ap, sym, subst, arith}
use Rattle.std.specs.Prelude.{IfOk}
use Rattle.nt_types.specs.TreeData.{TreesData, trees_of}
use Rattle.nt_types.specs.TreeViews.{trees_view}
use Rattle.nt_plans.specs.Plan.{PlansData}
use Rattle.nt_trees.specs.TreeAt.{each_at}
use Rattle.nt_join.specs.Chosen.{chosen}
use Rattle.nt_join.specs.Readable.{ReadableEach}
use Rattle.nt_file_meaning.specs.Clusters.{columns_by_id}
use Rattle.nt_reader.specs.Columns.{ClusterData}
use Rattle.nt_decoded.specs.Columns.{held_elements}
use Rattle.nt_reader.proofs.Entries.{entry-is}
use Rattle.nt_decoded.proofs.cluster.DecodedCluster.chosen.Goals as goal

pub chosen_by-requires-after_bounds : goal.chosen_by-requires-after_bounds
chosen_by-requires-after_bounds c κs =
    subst (λ (ps : PlansData). ReadableEach ps (columns_by_id (held_elements c.self.inside.columns)) c.args.i) (sym c.plans.ensures)
    (record {
      size = c.self.inside.entries;
      sound = c.self.invariant.sound;
      within = omega (arith, ap (λ (d : ClusterData). d.entries) c.self.view_is, c.requires);
    })

pub returns : goal.returns
returns c =
    let own = ap (λ (ps : PlansData). each_at ps (columns_by_id (held_elements c.self.inside.columns)) c.args.i) c.plans.ensures
    ∙ sym (entry-is _ _ c.args.i c.self.view_is c.requires) in
    subst (λ (e : TreesData). IfOk c.chosen_by.result (λ ts. trees_of (trees_view ts) ≡ chosen c.args.places.now e)) own c.chosen_by.ensures
