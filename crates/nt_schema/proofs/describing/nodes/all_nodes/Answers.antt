use Rattle.std.proofs.Common.{map, add-zero}
use Rattle.nt_types.specs.Views.{member_view}
use Rattle.nt_grammar.proofs.Marks.{AreListed-first}
use Rattle.nt_schema.proofs.describing.nodes.all_nodes.Goals as goal

pub loop-next-init : goal.loop-next-init
loop-next-init c = AreListed-first c.args.first (map member_view c.args.fields.now) _
    (rw (c.new-nodes.ensures.items, c.new-nodes.ensures.len, add-zero) at c.in_ok-push_top.ensures)
