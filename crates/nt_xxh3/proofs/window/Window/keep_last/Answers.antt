use Rattle.std.proofs.Common.{◌≡◌, ℕ, ◌≤◌, ◌+◌, ◌-◌, List, length, take, drop, arith, ap, sym, ◌∙◌, length-drop}
use Rattle.std.specs.List.{copy_within}
use Rattle.std.proofs.lemmas.List.{length-take-le, drop-take, take_at}
use Rattle.nt_xxh3.proofs.window.Window.keep_last.Goals as goal

-- the last 64 of the first bytes, moved to the front
take-copy_within : (xs now : List ℕ) (len : ℕ) → 64 ≤ length now → len ≤ length xs → take len xs ≡ now
    → take 64 (copy_within xs (len - 64) len 0) ≡ drop (length now - 64) now
take-copy_within xs now len wide fits is =
    let at : ℕ = len - 64 in
    let count : length now ≡ len = sym (ap length is) ∙ length-take-le len xs fits in
    let width : len - at ≡ 64 = omega arith in
    let whole : len ≡ at + 64 = omega arith in
    let moved : length (take (len - at) (drop at xs)) ≡ 64 =
    length-take-le (len - at) (drop at xs) (omega (arith, length-drop at xs)) ∙ width in
    let front : take 64 (copy_within xs at len 0) ≡ take (len - at) (drop at xs) = take_at (take (len - at) (drop at xs)) _ 64 moved in
    let last : drop at (take len xs) ≡ take 64 (drop at xs) = ap (λ (n : ℕ). drop at (take n xs)) whole ∙ drop-take at 64 xs in
    let kept : take (len - at) (drop at xs) ≡ drop at (take len xs) = rw width (sym last) in
    rw (count, ← is) (front ∙ kept)

pub returns : goal.returns
returns c =
    rw c.copy_within.ensures.after
    (take-copy_within c.self.inside.bytes c.args.self.now c.self.inside.len c.requires (omega arith) c.self.view_is)
