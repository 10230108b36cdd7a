use Rattle.std.proofs.Common.{◌≡◌, ℕ, ◌+◌, ◌-◌, ◌*◌, ◌<◌, length, List, take, drop, refl, sym, ap, ◌∙◌, arith, length-drop}
use Rattle.std.proofs.lemmas.List.{take_rest}
use Rattle.nt_xxh3.specs.Sum.{xxh3}
use Rattle.nt_xxh3.specs.Pieces.{WasGiven}
use Rattle.nt_xxh3.proofs.Kept.{IsKept_none, IsKept_all, xxh3_above_240}
use Rattle.nt_xxh3.proofs.pieces.Sum.finish.Goals as goal

pub returns-then-self-eq0 : goal.returns-then-self-eq0
unfolding WasGiven
returns-then-self-eq0 c = λ m held.
    let seen : List ℕ = c.as_slice-window.result.now in
    let rest_is : take (length seen - 64) (drop 64 seen) ≡ drop 64 c.args.self.now.window =
    take_rest seen 64 ∙ ap (λ (w : List ℕ). drop 64 w) c.as_slice-window.ensures.value in
    c.sum.ensures ∙ ap xxh3 (rest_is ∙ IsKept_none _ _ m _ c.if-self-eq0.true held.0)

pub returns : goal.returns
unfolding WasGiven
returns c = λ m held.
    let window : List ℕ = c.args.self.now.window in
    let seen : List ℕ = c.as_slice-window.result.now in
    let rest : List ℕ = take (length seen - 64) (drop 64 seen) in
    let rest_is : rest ≡ drop 64 window = take_rest seen 64 ∙ ap (λ (w : List ℕ). drop 64 w) c.as_slice-window.ensures.value in
    let rest_len : length rest ≡ length window - 64 = ap length rest_is ∙ length-drop 64 window in
    let some : 0 < c.args.self.now.lanes.taken = omega (arith, c.if-self-eq0.false) in
    let bytes : take c.saturating_sub.result rest ≡ take (length window - 64 - 1) (drop 64 window) =
    rw (c.saturating_sub.ensures, rest_len, rest_is) refl in
    let last : take (length seen - length rest) (drop (length rest) seen) ≡ drop (length window - 64) window =
    take_rest seen (length rest) ∙ rw (rest_len, c.as_slice-window.ensures.value) refl in
    let len : 64 * c.args.self.now.lanes.taken + length rest ≡ length m = omega (arith, held.0.count) in
    IsKept_all _ window m _ (take c.saturating_sub.result rest) (take (length seen - length rest) (drop (length rest) seen)) _ _ _ _
    (held.1 some) (held.2 some) bytes c.take_stripes.ensures.taken c.take_stripes.ensures.words last len c.finish.ensures held.0
    ∙ sym (xxh3_above_240 m (held.1 some))
