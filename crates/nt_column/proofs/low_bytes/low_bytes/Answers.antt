use Rattle.std.proofs.Common.{◌%◌, ◌++◌, ◌∷◌, [], ◌∙◌, ℕ, List, ap, arith}
use Rattle.nt_column.proofs.Numbers.{text-more}
use Rattle.nt_column.proofs.low_bytes.low_bytes.Goals as goal

pub loop-i-preserved : goal.loop-i-preserved
loop-i-preserved c =
    rw (text-more c.args.buffer.now.column.elements c.args.from c.loop-i.i c.number.result (omega arith) (omega arith) c.number.ensures)
    (c.in_ok-push.ensures.items ∙ ap (λ (bs : List ℕ). bs ++ c.number.result % 256 ∷ []) c.loop-i.invariant)
