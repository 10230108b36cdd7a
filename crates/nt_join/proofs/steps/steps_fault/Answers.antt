use Rattle.std.proofs.Common.{◌∙◌, ◌==◌, nat_lt, if◌then◌else◌, Some, None, ap}
use Rattle.nt_trees.specs.Faults.{stepping}
use Rattle.nt_join.proofs.Unmet.{column_fault-first}
use Rattle.nt_join.proofs.steps.steps_fault.Goals as goal

pub returns : goal.returns
returns g c =
    let cols = g.C.Columns.elements c.args.columns.now in
    let k = c.args.column in
    let first = c.first_leap.result in
    c.first_in.ensures
    ∙ ap (λ n. if n == c.args.needed then (if nat_lt first n then Some (k, first) else None) else Some (k, n)) c.len.ensures
    ∙ column_fault-first stepping cols k c.args.needed first c.first_leap.ensures
