use Rattle.nt_decoded.proofs.Windows.{page-found}
use Rattle.nt_decoded.proofs.window.move_to.Goals as goal

pub returns-then-has-clause-read : goal.returns-then-has-clause-read
returns-then-has-clause-read g c told is = page-found told c.args.outside c.args.page.now c.args.window.now (c.has.ensures c.if-has.true)
    (c.requires.has told is)
