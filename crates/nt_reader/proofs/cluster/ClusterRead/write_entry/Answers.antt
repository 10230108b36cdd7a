use Rattle.std.proofs.Common.{◌≡◌, ◌++◌, ◌∷◌, [], ap, sym, subst, ◌∙◌, arith}
use Rattle.std.specs.Prelude.{OnOk}
use Rattle.nt_types.specs.TreeData.{TreesData}
use Rattle.nt_event.specs.Json.{line_of}
use Rattle.nt_reader.specs.Columns.{ClusterData}
use Rattle.nt_reader.proofs.Entries.{entry-is, over-loaded}
use Rattle.nt_reader.proofs.cluster.ClusterRead.write_entry.Goals as goal

pub write_entry-requires-after_bounds : goal.write_entry-requires-after_bounds
write_entry-requires-after_bounds c κs = record {
  size = c.self.inside.entries;
  sound = c.self.invariant.are.sound;
  within = omega (arith, ap (λ (d : ClusterData). d.entries) c.self.view_is, c.requires);
}

pub returns-clause-ok : goal.returns-clause-ok
returns-clause-ok c =
    subst (λ (x : TreesData). OnOk c.write_entry.result
    (c.write_entry.new.out.items ≡ c.args.out.now.items ++ (line_of x ++ 10 ∷ [])))
    (over-loaded c.self.inside.schema.now c.self.inside.columns c.args.i c.self.invariant.all
    ∙ sym (entry-is _ _ c.args.i c.self.view_is c.requires)) c.write_entry.ensures.ok
