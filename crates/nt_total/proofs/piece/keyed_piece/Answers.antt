use Rattle.std.proofs.Common.{map, take, rules, arith}
use Rattle.std.proofs.lemmas.List.{map_more}
use Rattle.nt_total.specs.Keys.{key}
use Rattle.nt_total.proofs.Wide.{wide-more}
use Rattle.nt_total.proofs.piece.keyed_piece.Goals as goal

pub loop-element-preserved : goal.loop-element-preserved
loop-element-preserved c =
    let xs = c.args.elements.now in
    let i = c.loop-element.element-index in
    rw (map_more (key c.args.bias) xs i 0 c.loop-element-test.true)
    (wide-more (map (key c.args.bias) (take i xs)) i _ _ _ _ _ _ _ _ _ c.loop-element.invariant
    (search (rules, c.key-key.ensures, c.key-key.type_inv)) (omega (arith, c.key-key.ensures)) (omega (arith, c.key-key.ensures))
    (omega (arith, c.min-least.ensures, c.key-key.ensures)) (omega (arith, c.max-greatest.ensures, c.key-key.ensures)))
