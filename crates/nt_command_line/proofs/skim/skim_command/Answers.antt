use Rattle.std.proofs.Common.{codes, ℕ, List, [], ◌∷◌, ◌++◌}
use Rattle.std.proofs.lemmas.Result.{IfOk-weaker}
use Rattle.clap.specs.Words.{Rule}
use Rattle.nt_command_line.specs.CommandLine.{operand, operands}
use Rattle.nt_command_line.specs.Options.{options}
use Rattle.nt_command_line.specs.SkimWords.{text_option}
use Rattle.nt_command_line.proofs.Kept.{one_more}
use Rattle.nt_command_line.proofs.skim.skim_command.Goals as goal

pub returns : goal.returns
returns c =
    let name : List ℕ = codes "skim" in
    let tested : Rule = text_option (codes "where") in
    let least : Rule = text_option (codes "least") in
    let greatest : Rule = text_option (codes "greatest") in
    let out : Rule = operand (codes "OUT") in
    let file : Rule = operand (codes "FILE") in
    let one = one_more name options tested c.in_ok-with_options.field-0 c.in_ok-command.command c.text_option.result
    c.in_ok-with_options.ensures c.text_option.ensures c.in_ok-command.ensures in
    let two = one_more name (options ++ tested ∷ []) least c.in_ok-command.command c.in_ok-command-2.command c.text_option-2.result one
    c.text_option-2.ensures c.in_ok-command-2.ensures in
    let three = one_more name (options ++ tested ∷ least ∷ []) greatest c.in_ok-command-2.command c.in_ok-command-3.command
    c.text_option-3.result two c.text_option-3.ensures c.in_ok-command-3.ensures in
    let four = one_more name (options ++ tested ∷ least ∷ greatest ∷ []) out c.in_ok-command-3.command c.in_ok-command-4.command
    c.operand.result three c.operand.ensures c.in_ok-command-4.ensures in
    let five = one_more name (options ++ tested ∷ least ∷ greatest ∷ out ∷ []) file c.in_ok-command-4.command
    c.in_ok-command-5.command c.operand-2.result four c.operand-2.ensures c.in_ok-command-5.ensures in
    IfOk-weaker c.arg-6.result _ _ (λ cmd added.
    one_more name (options ++ tested ∷ least ∷ greatest ∷ out ∷ file ∷ []) (operands (codes "NAME")) c.in_ok-command-5.command cmd
    c.operands.result five c.operands.ensures added) c.arg-6.ensures
