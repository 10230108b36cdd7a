use Rattle.std.proofs.Common.{arith}
use Rattle.std.proofs.lemmas.Grind.{common_steps}
use Rattle.nt_tfile.proofs.Windows.{piece_past, piece_missing, piece_there}
use Rattle.nt_tfile.proofs.reading.read_block.Goals as goal

pub returns-then-from-clause-read : goal.returns-then-from-clause-read
returns-then-from-clause-read g c told is =
    piece_past c.args.outside told c.args.at c.args.len c.args.size (c.requires told is)
    (omega (arith, c.if-from.true, c.from.ensures, c.from-2.ensures, c.from-3.ensures))

pub returns-then-len-clause-read : goal.returns-then-len-clause-read
returns-then-len-clause-read g c told is =
    piece_missing c.args.outside told c.in_ok-bytes.bytes.items c.args.at c.args.len (c.in_ok-bytes.ensures.bytes told is)
    (grind (arith, common_steps))

pub returns-clause-read : goal.returns-clause-read
returns-clause-read g c told is =
    piece_there c.args.outside told c.in_ok-bytes.bytes.items c.args.at c.args.len c.args.size (c.requires told is)
    (omega (arith, c.if-from.false, c.from.ensures, c.from-2.ensures, c.from-3.ensures)) (c.in_ok-bytes.ensures.bytes told is)

pub returns-clause-len : goal.returns-clause-len
returns-clause-len g c = (grind (arith, common_steps), omega (arith, c.if-from.false, c.from.ensures, c.from-2.ensures, c.from-3.ensures))
