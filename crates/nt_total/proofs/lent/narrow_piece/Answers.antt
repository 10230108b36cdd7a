use Rattle.std.proofs.Common.{ℕ, ◌∷◌, ◌++◌, [], map, take, sym, ap, ◌∙◌, arith}
use Rattle.std.proofs.lemmas.List.{map_more, map_push}
use Rattle.nt_total.specs.Keys.{key}
use Rattle.nt_total.proofs.Narrow.{narrow-more}
use Rattle.nt_total.proofs.lent.narrow_piece.Goals as goal

pub loop-word-preserved : goal.loop-word-preserved
loop-word-preserved g c =
    let f = g.W.Narrow.number in
    let words = c.args.words.now in
    let i = c.loop-word.word-index in
    let taken = map_more f words i c.word-item.result c.loop-word-test.true
    ∙ ap (λ (n : ℕ). map f (take i words) ++ n ∷ []) (ap f (sym c.word-item.is) ∙ sym c.number.ensures) in
    rw (ap (map (key c.args.bias)) taken, map_push (key c.args.bias) (map f (take i words)) c.number.result)
    (narrow-more _ i (key c.args.bias c.number.result) _ _ _ _ _ _ c.loop-word.invariant
    (omega (arith, c.narrow_key-key.ensures, c.narrow_key-key.type_inv))
    (omega (arith, c.from-sum.ensures, c.narrow_key-key.ensures)) (omega (arith, c.min-least.ensures, c.narrow_key-key.ensures))
    (omega (arith, c.max-greatest.ensures, c.narrow_key-key.ensures)))
