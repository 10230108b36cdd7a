use Rattle.std.proofs.Common.{◌++◌, ap, ◌∙◌, arith}
use Rattle.nt_reader.specs.Columns.{ClusterData}
use Rattle.nt_decoded.proofs.Printed.{lines-given, ok-both}
use Rattle.nt_decoded.proofs.cluster.DecodedCluster.write_entries.Goals as goal

pub write_entries-requires-clause-readable : goal.write_entries-requires-clause-readable
write_entries-requires-clause-readable c κs = λ i less. record {
  size = c.self.inside.entries;
  sound = c.self.invariant.sound;
  within = omega (arith, ap (λ (d : ClusterData). d.entries) c.self.view_is, c.requires.1, less);
}

pub returns-clause-ok : goal.returns-clause-ok
returns-clause-ok c =
    ok-both c.write_entries.result _ _ _ c.write_entries.ensures.next c.write_entries.ensures.ok
    (λ next order is. is ∙ ap (λ l. c.args.out.now.items ++ l) (lines-given _ _ c.args.part.0 next c.self.view_is (omega (arith, order.0))
    (omega (arith, order.1, c.requires.1))))
