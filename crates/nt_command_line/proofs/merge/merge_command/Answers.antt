use Rattle.std.proofs.Common.{codes, ◌^◌, ℕ, List, [], ◌∷◌}
use Rattle.std.proofs.lemmas.Result.{IfOk-weaker}
use Rattle.clap.specs.Words.{Rule}
use Rattle.nt_command_line.specs.CommandLine.{operand, operands, number_option}
use Rattle.nt_command_line.proofs.Kept.{one_more}
use Rattle.nt_command_line.proofs.merge.merge_command.Goals as goal

pub returns : goal.returns
returns c =
    let name : List ℕ = codes "merge" in
    let group : Rule = number_option (codes "group") 1 10000 in
    let range : Rule = number_option (codes "max-range") 1024 (2 ^ 30) in
    let file : Rule = number_option (codes "max-file") 1024 (2 ^ 56) in
    let out : Rule = operand (codes "OUT") in
    let one = one_more name [] group c.bare.result c.in_ok-command.command c.number_option.result c.bare.ensures
    c.number_option.ensures c.in_ok-command.ensures in
    let two = one_more name (group ∷ []) range c.in_ok-command.command c.in_ok-command-2.command c.number_option-2.result one
    c.number_option-2.ensures c.in_ok-command-2.ensures in
    let three = one_more name (group ∷ range ∷ []) file c.in_ok-command-2.command c.in_ok-command-3.command
    c.number_option-3.result two c.number_option-3.ensures c.in_ok-command-3.ensures in
    let four = one_more name (group ∷ range ∷ file ∷ []) out c.in_ok-command-3.command c.in_ok-command-4.command c.operand.result three
    c.operand.ensures c.in_ok-command-4.ensures in
    IfOk-weaker c.arg-5.result _ _ (λ cmd added.
    one_more name (group ∷ range ∷ file ∷ out ∷ []) (operands (codes "FILE")) c.in_ok-command-4.command cmd c.operands.result four
    c.operands.ensures added) c.arg-5.ensures
