use Rattle.std.proofs.Common.{ap, ◌∙◌, arith}
use Rattle.std.proofs.lemmas.Result.{IfOk-weaker}
use Rattle.nt_reader.specs.Columns.{ClusterData}
use Rattle.nt_reader.proofs.Entries.{entry-at, over-loaded}
use Rattle.nt_reader.proofs.cluster.ClusterRead.entry.Goals as goal

pub entry-requires-after_bounds : goal.entry-requires-after_bounds
entry-requires-after_bounds c κs = record {
  size = c.self.inside.entries;
  sound = c.self.invariant.are.sound;
  within = omega (arith, ap (λ (d : ClusterData). d.entries) c.self.view_is, c.requires);
}

pub returns : goal.returns
returns c = IfOk-weaker c.entry.result _ _ (λ ts e. entry-at _ _ c.args.i _ c.self.view_is c.requires
    (e ∙ over-loaded c.self.inside.schema.now c.self.inside.columns c.args.i c.self.invariant.all)) c.entry.ensures
