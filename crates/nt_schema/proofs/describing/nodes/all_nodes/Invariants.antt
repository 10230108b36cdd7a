use Rattle.std.proofs.Common.{◌-◌, map}
use Rattle.nt_types.specs.Views.{member_view}
use Rattle.nt_schema.specs.Describing.{mark_view}
use Rattle.nt_grammar.specs.Listing.{AreListed}
use Rattle.nt_schema.proofs.describing.nodes.all_nodes.Given as goal

abbrev pub invariant-loop-next : goal.invariant-loop-next
invariant-loop-next l = AreListed l.first (map member_view l.fields) l.next (map mark_view l.nodes.items)

abbrev pub decreases-loop-next : goal.decreases-loop-next
decreases-loop-next l = 4096 - l.next
