use Rattle.std.proofs.Common.{◌≤◌, ◌^◌, arith}
use Rattle.std.proofs.Math.Nat.{pow-le-pow_right}
use Rattle.nt_moving.proofs.integers.is_itself.Goals as goal

pub returns-then-bits-ge64 : goal.returns-then-bits-ge64
returns-then-bits-ge64 c wide signed =
    let most : 2 ^ 64 ≤ 2 ^ c.args.bits =
    pow-le-pow_right {n = 2} (omega arith) {i = 64} {j = c.args.bits} (omega (arith, c.if-bits-ge64.true)) in
    (omega (arith, c.if-from-bits.true), omega (arith, c.ranges.element.fits, most))
