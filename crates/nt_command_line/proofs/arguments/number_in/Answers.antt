use Rattle.std.specs.Str.Parse.{ParsesUnsigned, ExplainsUnsignedError, HasUnsignedDigitsIfOk}
use Rattle.nt_command_line.proofs.Numbers.{number_found}
use Rattle.nt_command_line.proofs.arguments.number_in.Goals as goal

pub returns : goal.returns
returns c = λ low high has.
    number_found (λ word r. ParsesUnsigned 64 10 word r × ExplainsUnsignedError 10 word r × HasUnsignedDigitsIfOk word r)
    c.args.matches.now c.args.id.now low high c.get_one.result has (λ word r gives. gives.0) c.get_one.ensures.none
    c.get_one.ensures.value
