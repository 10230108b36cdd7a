use Rattle.nt_event.proofs.Lawful.{line_is_read_back}
use Rattle.nt_event.proofs.laws.lines_are_read_back.Goals as goal

pub returns : goal.returns
returns c = line_is_read_back
