use Rattle.std.proofs.Common.{rules, ◌≡◌, ◌∙◌, true, ap, arith}
use Rattle.nt_trees.specs.Integers.{integer_of}
use Rattle.nt_print.proofs.Numbers.{integer_of-low, half-long, half-short}
use Rattle.nt_print.proofs.lists.short_end.Goals as goal

pub returns-then-bits-gt20-clause-same : goal.returns-then-bits-gt20-clause-same
returns-then-bits-gt20-clause-same c =
    let on : c.args.signed ≡ true = search (rules, c.if-not-signed.false) in
    λ n lt.
    ap (λ b. integer_of c.args.bits b n) on
    ∙ integer_of-low c.args.bits n (omega (arith, lt, half-long c.args.bits (omega (arith, c.if-bits-gt20.true))))

pub returns-else-bits-eq0-clause-short : goal.returns-else-bits-eq0-clause-short
returns-else-bits-eq0-clause-short c = omega (arith, half-short c.args.bits (omega (arith, c.if-bits-gt20.false)))
