use Rattle.std.proofs.Common.{◌%◌, ◌<◌, ◌++◌, ◌∷◌, [], ◌∙◌, ℕ, List, ap, arith, length}
use Rattle.nt_column.proofs.Numbers.{text-more}
use Rattle.nt_view.specs.Table.{elements_in_table}
use Rattle.nt_view.proofs.lookup.copied.Goals as goal

pub loop-i-preserved : goal.loop-i-preserved
loop-i-preserved c =
    let es = elements_in_table c.args.store.now c.args.table.now c.args.column in
    let lt : c.loop-i.i < length es = omega (arith, c.requires.part.within, c.loop-i-test.true, c.loop-i.auto.i-end) in
    rw (text-more es c.args.from c.loop-i.i c.number.result (omega arith) lt c.number.ensures)
    (c.in_ok-push.ensures.items ∙ ap (λ (bs : List ℕ). bs ++ c.number.result % 256 ∷ []) c.loop-i.invariant)
