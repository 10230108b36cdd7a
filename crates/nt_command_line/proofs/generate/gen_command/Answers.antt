use Rattle.std.proofs.Common.{codes, ℕ, List, [], ◌∷◌}
use Rattle.std.proofs.lemmas.Result.{IfOk-weaker}
use Rattle.clap.specs.Words.{Rule}
use Rattle.nt_command_line.specs.CommandLine.{operand, number_operand}
use Rattle.nt_command_line.proofs.Kept.{one_more}
use Rattle.nt_command_line.proofs.generate.gen_command.Goals as goal

pub returns : goal.returns
returns c =
    let name : List ℕ = codes "gen" in
    let contexts : Rule = number_operand (codes "C") 1 64 in
    let events : Rule = number_operand (codes "E") 0 1000000 in
    let seed : Rule = number_operand (codes "SEED") 1 1000000 in
    let one = one_more name [] contexts c.bare.result c.in_ok-command.command c.number_operand.result c.bare.ensures
    c.number_operand.ensures c.in_ok-command.ensures in
    let two = one_more name (contexts ∷ []) events c.in_ok-command.command c.in_ok-command-2.command c.number_operand-2.result one
    c.number_operand-2.ensures c.in_ok-command-2.ensures in
    let three = one_more name (contexts ∷ events ∷ []) seed c.in_ok-command-2.command c.in_ok-command-3.command
    c.number_operand-3.result two c.number_operand-3.ensures c.in_ok-command-3.ensures in
    IfOk-weaker c.arg-4.result _ _ (λ cmd added.
    one_more name (contexts ∷ events ∷ seed ∷ []) (operand (codes "OUT")) c.in_ok-command-3.command cmd c.operand.result three
    c.operand.ensures added) c.arg-4.ensures
