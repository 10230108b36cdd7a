use Rattle.nt_moving.proofs.Complements.{width-some, itself-element, itself-fits}
use Rattle.nt_moving.proofs.integers.element_of.Goals as goal

pub returns-then-is_itself-clause-element : goal.returns-then-is_itself-clause-element
returns-then-is_itself-clause-element c =
    let n = c.args.of in
    itself-element n.bits c.args.bits n.signed n.element (width-some c.args.bits c.requires.bits) (c.is_itself.ensures c.if-is_itself.true)

pub returns-then-is_itself-clause-fits : goal.returns-then-is_itself-clause-fits
returns-then-is_itself-clause-fits c =
    let n = c.args.of in
    itself-fits n.bits c.args.bits n.signed n.element (width-some c.args.bits c.requires.bits) (c.is_itself.ensures c.if-is_itself.true)
    c.requires.range.0 c.requires.range.1
