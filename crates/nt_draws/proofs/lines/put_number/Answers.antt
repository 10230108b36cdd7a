use Rattle.std.proofs.Common.{◌≤◌, length, decimal, ap, arith}
use Rattle.std.proofs.lemmas.Fmt.{length-decimal-le}
use Rattle.nt_draws.proofs.lines.put_number.Goals as goal

pub put-requires : goal.put-requires
put-requires c =
    let short : length (decimal c.args.number) ≤ 6 = length-decimal-le 6 c.args.number (omega arith) (omega arith) (omega arith) in
    omega (arith, short, ap length c.as_bytes.ensures.value, ap length c.format.ensures.text)

pub returns-clause-len : goal.returns-clause-len
returns-clause-len c =
    let short : length (decimal c.args.number) ≤ 6 = length-decimal-le 6 c.args.number (omega arith) (omega arith) (omega arith) in
    omega (arith, short, ap length c.as_bytes.ensures.value, ap length c.format.ensures.text)
