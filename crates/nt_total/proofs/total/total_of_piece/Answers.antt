use Rattle.std.proofs.Common.{refl, ap, Some, ◌∙◌, ℤ, arith}
use Rattle.std.specs.Int.{w128}
use Rattle.std.proofs.lemmas.Int.{to_z-of_z}
use Rattle.nt_total.proofs.Integers.{total-keyed}
use Rattle.nt_total.proofs.total.total_of_piece.Goals as goal

pub returns : goal.returns
returns c ks keys =
    let sum = to_z-of_z w128 c.sum_by_keys.result (record { sfits = c.sum_by_keys.type_inv }) in
    let least = to_z-of_z w128 c.integer_of_key.result (record { sfits = c.integer_of_key.type_inv }) in
    let greatest = to_z-of_z w128 c.integer_of_key-2.result (record { sfits = c.integer_of_key-2.type_inv }) in
    total-keyed c.args.bias c.args.count ks c.args.piece _ keys c.if-count-eq0.false refl
    (sum ∙ c.sum_by_keys.ensures (omega (arith, keys.whole, keys.piece.sum)))
    (ap (λ (z : ℤ). Some z) (least ∙ c.integer_of_key.ensures)) (ap (λ (z : ℤ). Some z) (greatest ∙ c.integer_of_key-2.ensures))
