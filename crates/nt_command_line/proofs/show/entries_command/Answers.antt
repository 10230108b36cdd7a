use Rattle.std.proofs.Common.{codes, ℕ, List, [], ◌∷◌}
use Rattle.std.proofs.lemmas.Result.{IfOk-weaker}
use Rattle.clap.specs.Words.{Rule}
use Rattle.nt_command_line.specs.CommandLine.{operand, number_option}
use Rattle.nt_command_line.proofs.Kept.{one_more}
use Rattle.nt_command_line.proofs.show.entries_command.Goals as goal

pub returns : goal.returns
returns c =
    let name : List ℕ = codes "entries" in
    let from : Rule = number_option (codes "from") 0 18446744073709551615 in
    let count : Rule = number_option (codes "count") 0 18446744073709551615 in
    let one = one_more name [] from c.bare.result c.in_ok-command.command c.number_option.result c.bare.ensures
    c.number_option.ensures c.in_ok-command.ensures in
    let two = one_more name (from ∷ []) count c.in_ok-command.command c.in_ok-command-2.command c.number_option-2.result one
    c.number_option-2.ensures c.in_ok-command-2.ensures in
    IfOk-weaker c.arg-3.result _ _ (λ cmd added.
    one_more name (from ∷ count ∷ []) (operand (codes "FILE")) c.in_ok-command-2.command cmd c.operand.result two c.operand.ensures
    added) c.arg-3.ensures
