use Rattle.std.proofs.Common.{◌≡◌, ℕ, ◌+◌, ◌-◌, ◌*◌, ◌/◌, length, take, drop, List, ap, ◌∙◌, arith, length-drop}
use Rattle.std.proofs.lemmas.List.{take_rest}
use Rattle.nt_xxh3.proofs.Kept.{IsKept_take}
use Rattle.nt_xxh3.proofs.pieces.Sum.take_window.Goals as goal

pub returns-clause-keeps : goal.returns-clause-keeps
returns-clause-keeps c = λ m kept.
    let window : List ℕ = c.args.self.now.window in
    let seen : List ℕ = c.as_slice.result.now in
    let k : ℕ = (length window - 64) / 64 in
    let whole : length window - 64 ≡ 64 * k = omega arith in
    let wide : length window ≡ 64 + 64 * k = omega arith in
    let bytes : take (length seen - 64) (drop 64 seen) ≡ drop 64 window =
    take_rest seen 64 ∙ ap (λ (w : List ℕ). drop 64 w) c.as_slice.ensures.value in
    let more : c.take_stripes.new.self.taken ≡ c.args.self.now.lanes.taken + k =
    omega (arith, c.take_stripes.ensures.taken, ap length bytes, length-drop 64 window) in
    IsKept_take _ window m _ _ _ _ _ k wide more bytes (rw whole at c.keep_last.ensures) c.take_stripes.ensures.words kept
