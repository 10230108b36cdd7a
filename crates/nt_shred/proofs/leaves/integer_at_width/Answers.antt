use Rattle.nt_shred.proofs.Singles.{number-put}
use Rattle.nt_shred.proofs.leaves.integer_at_width.Goals as goal

pub returns : goal.returns
returns c =
    let e = c.in_ok-value.ensures in
    number-put c.args.column c.args.bits c.args.signed e.value c.in_ok-value.value c.args.line.now c.args.at c.in_ok-value.end
    c.args.out.now c.push_at_width.new.out e.is e.fitting e.range e.stands c.push_at_width.ensures
