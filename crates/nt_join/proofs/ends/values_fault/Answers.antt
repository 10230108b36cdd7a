use Rattle.std.proofs.Common.{◌∙◌, ◌==◌, nat_lt, if◌then◌else◌, Some, None, ap, length}
use Rattle.nt_trees.specs.Faults.{free}
use Rattle.nt_join.proofs.Unmet.{column_fault-first, IsFirstUnmet-free}
use Rattle.nt_join.proofs.ends.values_fault.Goals as goal

pub returns : goal.returns
returns g c =
    let cols = g.C.Columns.elements c.args.columns.now in
    let k = c.args.column in
    c.first_in.ensures
    ∙ ap (λ n. if n == c.args.needed then (if nat_lt n n then Some (k, n) else None) else Some (k, n)) c.len-len.ensures
    ∙ column_fault-first free cols k c.args.needed (length (cols k)) (IsFirstUnmet-free (cols k))
