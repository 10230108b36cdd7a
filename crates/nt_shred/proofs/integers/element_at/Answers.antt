use Rattle.std.proofs.Common.{◌≡◌, ◌∙◌, ◌^◌, nat_lt, true, pos, refl, ap, arith}
use Rattle.std.proofs.lemmas.Bool.{ltb-true}
use Rattle.nt_types.specs.Fits.{is_int}
use Rattle.nt_shred.proofs.integers.element_at.Goals as goal

pub returns-in_ok-value-2 : goal.returns-in_ok-value-2
returns-in_ok-value-2 c =
    let n = c.in_ok-value-2.value in
    let bits = c.args.bits in
    let e = c.in_ok-value-2.ensures in
    let small : nat_lt n (2 ^ bits) ≡ true = e.fits in
    record {
      value = pos n;
      is = refl;
      below = ltb-true n (2 ^ bits) small;
      fitting = ap (λ s. is_int bits s (pos n)) c.if-signed.false ∙ e.fits;
      range = omega arith;
      stands = e.spells;
    }
