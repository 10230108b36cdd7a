use Rattle.nt_command_line.proofs.Spoken.{among_found}
use Rattle.std.proofs.Common.{◌∙◌}
use Rattle.nt_command_line.proofs.arguments.is_among.Goals as goal

pub returns : goal.returns
returns c = c.contains.ensures.value ∙ among_found c.args.names.now c.args.name.now
