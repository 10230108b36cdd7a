use Rattle.std.proofs.Common.{codes, ℕ, List, [], ◌∷◌, ◌++◌}
use Rattle.std.proofs.lemmas.Result.{IfOk-weaker}
use Rattle.clap.specs.Words.{Rule}
use Rattle.nt_command_line.specs.CommandLine.{operand, operands, number_option, flag}
use Rattle.nt_command_line.specs.Options.{options}
use Rattle.nt_command_line.proofs.Kept.{one_more}
use Rattle.nt_command_line.proofs.write.write_command.Goals as goal

pub returns : goal.returns
returns c =
    let name : List ℕ = codes "write" in
    let staged : Rule = flag (codes "staged") in
    let contexts : Rule = number_option (codes "contexts") 1 64 in
    let out : Rule = operand (codes "OUT") in
    let schema : Rule = operand (codes "SCHEMA") in
    let one = one_more name options staged c.in_ok-with_options.field-0 c.in_ok-command.command c.flag.result
    c.in_ok-with_options.ensures c.flag.ensures c.in_ok-command.ensures in
    let two = one_more name (options ++ staged ∷ []) contexts c.in_ok-command.command c.in_ok-command-2.command c.number_option.result one
    c.number_option.ensures c.in_ok-command-2.ensures in
    let three = one_more name (options ++ staged ∷ contexts ∷ []) out c.in_ok-command-2.command c.in_ok-command-3.command
    c.operand.result two c.operand.ensures c.in_ok-command-3.ensures in
    let four = one_more name (options ++ staged ∷ contexts ∷ out ∷ []) schema c.in_ok-command-3.command c.in_ok-command-4.command
    c.operand-2.result three c.operand-2.ensures c.in_ok-command-4.ensures in
    IfOk-weaker c.arg-5.result _ _ (λ cmd added.
    one_more name (options ++ staged ∷ contexts ∷ out ∷ schema ∷ []) (operands (codes "IN")) c.in_ok-command-4.command cmd
    c.operands.result four c.operands.ensures added) c.arg-5.ensures
