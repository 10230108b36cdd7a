use Rattle.nt_close.proofs.Crashes.{answered}
use Rattle.nt_close.proofs.closing.close.Goals as goal

pub returns-clause-crash : goal.returns-clause-crash
returns-clause-crash g c =
    answered c.args.schema.now c.args.params.now c.args.book.now c.keeps.ensures c.requires.begin c.requires.noted _
    (g.D.Disk.state c.args.disk.now) (g.D.Disk.state c.take_steps.new.disk) c.take_steps.result c.take_steps.ensures.closes.cause
    c.take_steps.ensures.closes.left
