use Rattle.std.proofs.Common.{◌/◌, ◌%◌, arith, refl}
use Rattle.nt_digits.proofs.WordNumber.{eight-spell}
use Rattle.nt_digits.proofs.eight.number_of.Goals as goal

pub returns : goal.returns
returns c =
    let n = c.args.digits in
    let r = c.requires in
    eight-spell (n % 256) (n / 256 % 256) (n / 256 / 256 % 256) (n / 256 / 256 / 256 % 256) (n / 256 / 256 / 256 / 256 % 256)
    (n / 256 / 256 / 256 / 256 / 256 % 256) (n / 256 / 256 / 256 / 256 / 256 / 256 % 256)
    (n / 256 / 256 / 256 / 256 / 256 / 256 / 256 % 256)
    r.0 r.1.0 r.1.1.0 r.1.1.1.0 r.1.1.1.1.0 r.1.1.1.1.1.0 r.1.1.1.1.1.1.0 r.1.1.1.1.1.1.1.0 n _ _
    (omega (arith, c.ranges.digits.fits)) refl refl
