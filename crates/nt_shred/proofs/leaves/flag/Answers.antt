use Rattle.std.proofs.Common.{rules, ◌≡◌}
use Rattle.nt_column.specs.Bits.{bit_of}
use Rattle.nt_shred.proofs.Singles.{flag-put}
use Rattle.nt_shred.proofs.leaves.flag.Goals as goal

pub returns : goal.returns
returns c =
    let same : c.from.result ≡ bit_of c.in_ok-value.value = search rules in
    flag-put c.args.column c.in_ok-value.value c.from.result c.args.line.now c.args.at c.in_ok-value.end c.args.out.now c.push.new.out
    same c.in_ok-value.ensures c.push.ensures
