-- Heads of frames, put in their place.
use Rattle.std.proofs.Common.{◌≡◌, ℕ, ◌+◌, ◌-◌, ◌^◌, ◌≤◌, List, ◌++◌, length, take, drop, ap, ◌∙◌, append_assoc, arith}
use Rattle.std.specs.Int.{w32, w64, to_le_bytes}
use Rattle.std.proofs.lemmas.List.{length-drop}
use Rattle.nt_format.specs.Frames.{list_frame}
use Rattle.nt_lists.specs.Places.{put_at}

pub put_at-list : (out head : List ℕ) (at size count : ℕ) → at + 12 ≤ length out → size ≡ length out - at
    → head ≡ to_le_bytes w64 (2 ^ 64 - size) ++ to_le_bytes w32 count
    → put_at out at head ≡ take at out ++ list_frame count (drop (at + 12) out)
put_at-list out head at size count room size_is head_is =
    let inside : List ℕ = drop (at + 12) out in
    let len : length head ≡ 12 = ap length head_is in
    let whole : size ≡ 12 + length (drop (at + 12) out) = omega (arith, length-drop (at + 12) out, size_is) in
    ap (λ (n : ℕ). (take at out ++ head) ++ drop (at + n) out) len
    ∙ append_assoc (take at out) head inside
    ∙ ap (λ (h : List ℕ). take at out ++ (h ++ inside)) head_is
    ∙ ap (λ (b : List ℕ). take at out ++ b) (append_assoc (to_le_bytes w64 (2 ^ 64 - size)) (to_le_bytes w32 count) inside)
    ∙ ap (λ (n : ℕ). take at out ++ (to_le_bytes w64 (2 ^ 64 - n) ++ (to_le_bytes w32 count ++ inside))) whole
