use Rattle.std.proofs.Common.{◌≡◌, List, ℕ, [], ◌-◌, ◌*◌, ◌/◌, length, take, refl, sym, ◌∙◌, arith}
use Rattle.std.proofs.lemmas.List.{take_rest, length-take-le}
use Rattle.nt_xxh3.specs.Long.{stripes}
use Rattle.nt_xxh3.proofs.Stripes.{stripes_start, above_240_of}
use Rattle.nt_xxh3.proofs.long.sum_above_240.Goals as goal

pub returns : goal.returns
returns c =
    let x : List ℕ = c.args.bytes.now in
    let len : length (take (length x - 1) x) ≡ length x - 1 = length-take-le (length x - 1) x (omega arith) in
    let start : c.new-lanes.result.words ≡ stripes [] c.new-lanes.result.taken =
    rw c.new-lanes.ensures.taken (c.new-lanes.ensures.words ∙ sym (stripes_start [])) in
    let none : 0 ≡ 64 * c.new-lanes.result.taken = rw c.new-lanes.ensures.taken refl in
    let count : c.take_stripes.new.self.taken ≡ (length x - 1) / 64 = omega arith in
    above_240_of x (take (length x - 1) x) _ _ _ _ (omega arith) refl count
    (c.take_stripes.ensures.words [] none start) (take_rest x (length x - 64)) c.finish.ensures
