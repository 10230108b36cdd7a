use Rattle.nt_command_line.proofs.Numbers.{number_is_there}
use Rattle.nt_command_line.proofs.arguments.operand_number.Goals as goal

pub unreachable-requires : goal.unreachable-requires
unreachable-requires c =
    let is = c.requires in
    number_is_there c.args.matches.now c.args.id.now is.low is.high c.number_in.result is.there
    (c.number_in.ensures is.low is.high is.number) c.in-None.is
