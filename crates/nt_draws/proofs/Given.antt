-- What a source gives of its lines.
use Rattle.std.proofs.Common.{◌≡◌, ◌⊎◌, ℕ, zero, suc, ◌+◌, ◌-◌, ◌<◌, min, List, [], ◌++◌, length, take, drop, sym, ap, ◌∙◌, arith}
use Rattle.std.proofs.Common.{⊎_elim, append_assoc, take-append-drop, length-drop, drop-drop}
use Rattle.std.proofs.lemmas.List.{drop_all}
use Rattle.nt_draws.specs.Events.{after_event}
use Rattle.nt_draws.specs.Lines.{made_line, events_text}

-- the next line stands before the others
next-left : (n s t : ℕ) (made : List ℕ) → 0 < n → made ≡ made_line s → t ≡ after_event s
    → made ++ events_text (n - 1) t ≡ events_text n s
next-left zero s t made some is next = absurd (omega arith)
next-left (suc n) s t made some is next =
    let e : suc n - 1 ≡ n = omega arith in
    ap (λ k. made ++ events_text k t) e
    ∙ ap (λ k. made ++ events_text n k) next
    ∙ ap (λ l. l ++ events_text n (after_event s)) is

pub left-next : (n s t at : ℕ) (line made : List ℕ) → 0 < n → at ≡ length line → made ≡ made_line s → t ≡ after_event s
    → drop 0 made ++ events_text (n - 1) t ≡ drop at line ++ events_text n s
left-next n s t at line made some given is next =
    next-left n s t made some is next ∙ ap (λ l. l ++ events_text n s) (sym (drop_all at line (omega arith)))

-- the front of a line is given, and where that is nothing, nothing is left
pub front-given : (line rest piece front : List ℕ) (at n room : ℕ) → piece ≡ drop at line → n ≡ min (length piece) room
    → front ≡ take n piece → drop at line ++ rest ≡ front ++ (drop (at + n) line ++ rest)
front-given line rest piece front at n room is count first =
    ap (λ l. l ++ rest) (sym (take-append-drop n (drop at line)) ∙ ap (λ l. l ++ drop n (drop at line)) (sym (first ∙ ap (take n) is))
    ∙ ap (λ l. front ++ l) (drop-drop n at line)) ∙ append_assoc front (drop (at + n) line) rest

pub none-given : (line piece : List ℕ) (at n room events s : ℕ) → piece ≡ drop at line → n ≡ min (length piece) room
    → (at < length line) ⊎ (events ≡ 0) → n ≡ 0 → 0 < room → drop (at + n) line ++ events_text events s ≡ []
none-given line piece at n room events s is count ready none some =
    let long : length piece ≡ length line - at = ap length is ∙ length-drop at line in
    ⊎_elim (λ (less : at < length line). absurd (omega arith))
    (λ (e : events ≡ 0). ap (λ k. drop (at + n) line ++ events_text k s) e
    ∙ ap (λ l. l ++ []) (drop_all (at + n) line (omega arith))) ready
