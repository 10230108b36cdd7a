use Rattle.std.proofs.Common.{codes, ◌^◌, ℕ, List, [], ◌∷◌}
use Rattle.std.proofs.lemmas.Result.{IfOk-weaker}
use Rattle.clap.specs.Words.{Rule}
use Rattle.nt_command_line.specs.CommandLine.{number_option, flag}
use Rattle.nt_command_line.proofs.Kept.{one_more}
use Rattle.nt_command_line.proofs.options.with_options.Goals as goal

pub returns : goal.returns
returns c =
    let name : List ℕ = c.args.name.now in
    let cluster : Rule = number_option (codes "cluster") 1 1000000 in
    let page : Rule = number_option (codes "page") 1 1048576 in
    let group : Rule = number_option (codes "group") 1 10000 in
    let plain : Rule = flag (codes "plain") in
    let range : Rule = number_option (codes "max-range") 1024 (2 ^ 30) in
    let file : Rule = number_option (codes "max-file") 1024 (2 ^ 56) in
    let one = one_more name [] cluster c.bare.result c.in_ok-command.command c.number_option.result c.bare.ensures
    c.number_option.ensures c.in_ok-command.ensures in
    let two = one_more name (cluster ∷ []) page c.in_ok-command.command c.in_ok-command-2.command c.number_option-2.result one
    c.number_option-2.ensures c.in_ok-command-2.ensures in
    let three = one_more name (cluster ∷ page ∷ []) group c.in_ok-command-2.command c.in_ok-command-3.command
    c.number_option-3.result two c.number_option-3.ensures c.in_ok-command-3.ensures in
    let four = one_more name (cluster ∷ page ∷ group ∷ []) plain c.in_ok-command-3.command c.in_ok-command-4.command c.flag.result
    three c.flag.ensures c.in_ok-command-4.ensures in
    let five = one_more name (cluster ∷ page ∷ group ∷ plain ∷ []) range c.in_ok-command-4.command c.in_ok-command-5.command
    c.number_option-4.result four c.number_option-4.ensures c.in_ok-command-5.ensures in
    IfOk-weaker c.arg-6.result _ _ (λ cmd added.
    one_more name (cluster ∷ page ∷ group ∷ plain ∷ range ∷ []) file c.in_ok-command-5.command cmd c.number_option-5.result five
    c.number_option-5.ensures added) c.arg-6.ensures
