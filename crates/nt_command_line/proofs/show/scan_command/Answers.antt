use Rattle.std.proofs.Common.{codes, []}
use Rattle.std.proofs.lemmas.Result.{IfOk-weaker}
use Rattle.nt_command_line.specs.CommandLine.{operand}
use Rattle.nt_command_line.proofs.Kept.{one_more}
use Rattle.nt_command_line.proofs.show.scan_command.Goals as goal

pub returns : goal.returns
returns c =
    IfOk-weaker c.arg.result _ _ (λ cmd added. one_more (codes "scan") [] (operand (codes "FILE")) c.bare.result cmd
    c.operand.result c.bare.ensures c.operand.ensures added) c.arg.ensures
