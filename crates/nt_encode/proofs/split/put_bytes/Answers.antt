use Rattle.std.proofs.Common.{◌∙◌, sym, get_or}
use Rattle.nt_encode.proofs.Low.{digit_of-low}
use Rattle.nt_encode.proofs.split.put_bytes.Goals as goal

pub returns-then-j-gt0-clause-written : goal.returns-then-j-gt0-clause-written
returns-then-j-gt0-clause-written c =
    λ i h. c.put_zeros.ensures.written i h
    ∙ sym (digit_of-low (get_or c.args.words.now i 0) c.args.j (c.requires.low c.if-low.true i 0 h) c.if-j-gt0.true)
