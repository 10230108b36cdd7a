use Rattle.std.proofs.Common.{◌+◌, arith, refl}
use Rattle.nt_event.proofs.Lexing.{comma-stands, no-blanks}
use Rattle.nt_event.proofs.integers.quick_item.Goals as goal

pub returns-clause-comma : goal.returns-clause-comma
returns-clause-comma c =
    let t = c.args.text.now in
    let next = c.args.at + 1 in
    comma-stands t c.args.at next next (c.if-not-is_comma.ensures refl) (no-blanks t next (omega (arith, c.if-text-at-lt9.false)))
