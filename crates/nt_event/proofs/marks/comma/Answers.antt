use Rattle.nt_event.proofs.Lexing.{comma-stands}
use Rattle.nt_event.proofs.marks.comma.Goals as goal

pub returns : goal.returns
returns c = comma-stands c.args.text.now c.args.at c.in_ok-next.next _ c.in_ok-next.ensures c.after_blanks.ensures
