use Rattle.std.proofs.Common.{◌∙◌, ap, sym}
use Rattle.std.proofs.Math.ListN.{get_or-map}
use Rattle.std.proofs.lemmas.List.{length-map}
use Rattle.nt_schema.specs.Describing.{mark_view}
use Rattle.nt_grammar.proofs.Marks.{AreListed-next}
use Rattle.nt_schema.proofs.describing.nodes.expand.Goals as goal

pub returns : goal.returns
returns c = λ ps l. AreListed-next _ ps _ _ _ (mark_view c.index-node.result.now) (rw length-map c.requires.here)
    (ap mark_view c.index-node.ensures
    ∙ sym (get_or-map mark_view c.args.nodes.now.items c.args.next c.index-node.result.now)) c.in_ok-push_inside.ensures l
