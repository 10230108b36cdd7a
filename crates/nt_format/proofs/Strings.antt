-- Strings: what is read is spelled so, and what is spelled is read.
use Rattle.std.proofs.Common.{◌≡◌, ℕ, ◌+◌, ◌^◌, ◌<◌, List, ◌++◌, length, Ok, refl, sym, ap, subst, ◌∙◌, append_assoc, arith}
use Rattle.std.specs.Int.{w32, from_le_bytes, to_le_bytes}
use Rattle.std.proofs.lemmas.List.{length-append}
use Rattle.nt_num.specs.Place.{At}
use Rattle.nt_num.specs.Cursor.{next, little}
use Rattle.nt_lists.specs.Chaining.{◌>>=◌}
use Rattle.nt_format.specs.Reading.{standing, IsBytes, Takes, Spells}
use Rattle.nt_format.specs.Strings.{string, string_at}
use Rattle.nt_lists.proofs.Chaining.{bind_ok, refused_as_ok}
use Rattle.nt_format.proofs.Steps.{Takes-then, next_takes, next_again}
use Rattle.nt_format.proofs.Numbers.{little_32, number_again, number_takes}

string_again : (text : List ℕ) (place : ℕ) (rest : List ℕ) → length text < 2 ^ 32 → string_at (standing place (string text ++ rest))
    ≡ Ok (text, standing (place + length (string text)) rest)
unfolding string_at
string_again text place rest lt =
    let size = number_again 4 (2 ^ 32) (from_le_bytes w32) (to_le_bytes w32) little_32 (length text) place (text ++ rest) lt in
    let inside = next_again (λ (t : List ℕ). t) (length text) (place + 4) text rest refl in
    let end : place + 4 + length text ≡ place + length (string text) = omega (arith, length-append (to_le_bytes w32 (length text)) text) in
    ap (λ (b : List ℕ). string_at (standing place b)) (append_assoc (to_le_bytes w32 (length text)) text rest) ∙ rw (size, inside, end) refl

string_takes : (here after : At) (text : List ℕ) → IsBytes here.left → string_at here ≡ Ok (text, after)
    → Takes here (string text) after × (length text < 2 ^ 32)
unfolding string_at
string_takes here after text bytes e =
    let whole = refused_as_ok here.place (little w32 here >>= λ size. next (λ text. text) size.0 size.1) (text, after) e in
    let size = bind_ok (little w32 here) (λ size. next (λ text. text) size.0 size.1) (text, after) whole in
    let first = number_takes 4 (2 ^ 32) (from_le_bytes w32) (to_le_bytes w32) little_32 here size.0.1 size.0.0 bytes size.1 in
    let inside = next_takes (λ (t : List ℕ). t) size.0.0 size.0.1 after text first.0.bytes size.2 in
    let len : size.0.0 ≡ length text = sym inside.1 ∙ ap length inside.3 in
    let second : Takes size.0.1 text after = subst (λ (t : List ℕ). Takes size.0.1 t after) inside.3 inside.4 in
    let both = Takes-then here size.0.1 after (to_le_bytes w32 size.0.0) text first.0 second in
    (subst (λ (k : ℕ). Takes here (to_le_bytes w32 k ++ text) after) len both, rw (← len) first.1)

pub string_spells : Spells string_at string (λ text. length text < 2 ^ 32)
string_spells = record { reads = string_again; finds = string_takes }
