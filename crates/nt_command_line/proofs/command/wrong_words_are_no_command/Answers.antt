use Rattle.nt_command_line.proofs.Wrong.{wrong_is_none}
use Rattle.nt_command_line.proofs.command.wrong_words_are_no_command.Goals as goal

pub returns : goal.returns
returns c = wrong_is_none
