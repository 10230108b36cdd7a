use Rattle.std.proofs.Common.{◌∙◌, ap, sym, subst, arith}
use Rattle.nt_types.specs.TreeData.{TreesData}
use Rattle.nt_plans.specs.Plan.{PlansData}
use Rattle.nt_trees.specs.TreeAt.{each_at}
use Rattle.nt_join.specs.Chosen.{tree_in, number_in}
use Rattle.nt_join.specs.Readable.{ReadableEach}
use Rattle.nt_file_meaning.specs.Clusters.{columns_by_id}
use Rattle.nt_reader.specs.Columns.{ClusterData}
use Rattle.nt_decoded.specs.Columns.{held_elements}
use Rattle.nt_reader.proofs.Entries.{entry-is}
use Rattle.nt_decoded.proofs.cluster.DecodedCluster.number.Goals as goal

pub number_by-requires-after_bounds : goal.number_by-requires-after_bounds
number_by-requires-after_bounds c κs =
    subst (λ (ps : PlansData). ReadableEach ps (columns_by_id (held_elements c.self.inside.columns)) c.args.i) (sym c.plans.ensures)
    (record {
      size = c.self.inside.entries;
      sound = c.self.invariant.sound;
      within = omega (arith, ap (λ (d : ClusterData). d.entries) c.self.view_is, c.requires);
    })

pub returns : goal.returns
returns c =
    let own = ap (λ (ps : PlansData). each_at ps (columns_by_id (held_elements c.self.inside.columns)) c.args.i) c.plans.ensures
    ∙ sym (entry-is _ _ c.args.i c.self.view_is c.requires) in
    c.number_by.ensures ∙ ap (λ (e : TreesData). number_in (tree_in e c.args.place)) own
