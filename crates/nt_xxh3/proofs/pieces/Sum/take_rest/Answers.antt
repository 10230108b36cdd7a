use Rattle.std.proofs.Common.{◌≡◌, ℕ, ◌+◌, ◌-◌, ◌*◌, ◌/◌, ◌++◌, length, List, arith}
use Rattle.std.proofs.lemmas.List.{take-append-drop}
use Rattle.nt_xxh3.proofs.Kept.{IsKept_rest}
use Rattle.nt_xxh3.proofs.pieces.Sum.take_rest.Goals as goal

pub returns-clause-keeps : goal.returns-clause-keeps
returns-clause-keeps c = λ m kept.
    let rest : List ℕ = c.args.rest.now in
    let k : ℕ = (length rest - 1) / 64 in
    let count : length c.split_at.result.0.now ≡ 64 * k = omega (arith, c.split_at.ensures.front_len) in
    let joined : c.split_at.result.0.now ++ c.split_at.result.1.now ≡ rest =
    rw (c.split_at.ensures.front, c.split_at.ensures.back) (take-append-drop (k * 64) rest) in
    let more : c.take_stripes.new.self.taken ≡ c.args.self.now.lanes.taken + k = omega (arith, c.take_stripes.ensures.taken) in
    IsKept_rest _ c.args.self.now.window m _ _ _ rest _ _ _ _ k c.requires.window count joined more c.slide.ensures c.extend.ensures
    c.take_stripes.ensures.words kept
