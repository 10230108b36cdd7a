use Rattle.std.proofs.Common.{rules, ◌≡◌, true, ℕ, ◌+◌, ◌-◌, ◌<◌, ◌≤◌, ◌^◌, if◌then◌else◌, suc, pos, negsuc, arith, ap}
use Rattle.std.proofs.lemmas.Bool.{lt-ltb}
use Rattle.std.proofs.Math.Nat.{pow-le-pow_right}
use Rattle.nt_trees.specs.Integers.{integer_of, half}
use Rattle.nt_join.proofs.number.signed_of.Goals as goal

integer_of-wide : (bits n : ℕ) → n < half bits → integer_of bits true n ≡ pos n
integer_of-wide bits n l = ap (λ b. if b then pos n else negsuc ((half bits + half bits) - suc n)) (lt-ltb n (half bits) l)

pub returns-then-bits-gt64 : goal.returns-then-bits-gt64
returns-then-bits-gt64 c =
    let wide : 2 ^ 64 ≤ half c.args.bits =
    pow-le-pow_right {n = 2} (omega arith) {i = 64} {j = c.args.bits - 1} (omega (arith, c.if-bits-gt64.true)) in
    let e = integer_of-wide c.args.bits c.args.element (omega (arith, c.ranges.element.fits, wide)) in
    search (rules, e)
