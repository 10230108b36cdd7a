use Rattle.nt_event.proofs.Lexing.{no-blanks, one-blank}
use Rattle.nt_event.proofs.marks.after_blanks.Goals as goal

pub loop-i-init : goal.loop-i-init
loop-i-init c = no-blanks c.args.text.now c.args.at c.requires

pub loop-i-preserved : goal.loop-i-preserved
loop-i-preserved c = one-blank c.args.text.now c.args.at c.loop-i.i c.loop-i.invariant c.loop-i-test.true
    (c.is_blank.ensures c.if-is_blank.true)
