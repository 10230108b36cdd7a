use Rattle.nt_dealing.proofs.EventLines.{text_lines-next, text_lines-last}
use Rattle.nt_dealing.proofs.texts.lines_come_in_order.Goals as goal

pub returns-clause-next : goal.returns-clause-next
returns-clause-next c = text_lines-next

pub returns-clause-last : goal.returns-clause-last
returns-clause-last c = text_lines-last
