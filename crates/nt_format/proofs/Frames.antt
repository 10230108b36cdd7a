-- Frames: what is read is spelled so, and what is spelled is read.
use Rattle.std.proofs.Common.{◌≡◌, ℕ, ◌+◌, ◌-◌, ◌^◌, ◌<◌, false, cond, ltb, leb, List, ◌++◌, length, Result, Ok, Err, refl, ap, subst, ◌∙◌}
use Rattle.std.proofs.Common.{append_assoc, arith}
use Rattle.std.specs.Int.{w32, w64, from_le_bytes, to_le_bytes}
use Rattle.std.proofs.lemmas.Bool.{ltb-false, le-ltb, leb-false, lt-leb}
use Rattle.nt_num.specs.Place.{At}
use Rattle.nt_num.specs.Cursor.{little, part_of}
use Rattle.nt_lists.specs.Chaining.{◌>>=◌}
use Rattle.nt_format.specs.Reading.{standing, IsBytes, Takes}
use Rattle.nt_format.specs.Frames.{record_frame, list_frame, record_at, list_at, IsRecord, IsList}
use Rattle.nt_lists.proofs.Chaining.{bind_ok, refused_as_ok, refused_as_err, guard_ok}
use Rattle.nt_lists.proofs.Variants.{ok_is}
use Rattle.nt_format.proofs.Steps.{Takes-then, part_takes, part_again}
use Rattle.nt_format.proofs.Numbers.{little_32, little_64, number_again, number_takes}

pub record_again : (inside rest : List ℕ) (place : ℕ) → 8 + length inside < 2 ^ 63
    → record_at (standing place (record_frame inside ++ rest))
    ≡ Ok (standing (place + 8) inside, standing (place + (8 + length inside)) rest)
unfolding record_at
record_again inside rest place fits =
    let size = number_again 8 (2 ^ 64) (from_le_bytes w64) (to_le_bytes w64) little_64 (8 + length inside) place
    (inside ++ rest) (omega arith) in
    let large : ltb (8 + length inside) 8 ≡ false = le-ltb _ _ (omega arith) in
    let positive : leb (2 ^ 63) (8 + length inside) ≡ false = lt-leb _ _ fits in
    let part = part_again (8 + length inside - 8) (place + 8) inside rest (omega arith) in
    let end : place + 8 + (8 + length inside - 8) ≡ place + (8 + length inside) = omega arith in
    ap (λ (b : List ℕ). record_at (standing place b)) (append_assoc (to_le_bytes w64 (8 + length inside)) inside rest)
    ∙ rw (size, large, positive, part, end) refl

pub record_takes : (here inside after : At) → IsBytes here.left → record_at here ≡ Ok (inside, after) → IsRecord here inside after
unfolding record_at
record_takes here inside after bytes e =
    let checked : ℕ × At → Result (At × At) ℕ = λ size. cond (ltb size.0 8) (Err here.place)
    (cond (leb (2 ^ 63) size.0) (Err here.place) (part_of (size.0 - 8) size.1)) in
    let whole = refused_as_ok here.place (little w64 here >>= checked) (inside, after) e in
    let size = bind_ok (little w64 here) checked (inside, after) whole in
    let first = number_takes 8 (2 ^ 64) (from_le_bytes w64) (to_le_bytes w64) little_64 here size.0.1 size.0.0 bytes size.1 in
    let large = guard_ok (ltb size.0.0 8) here.place (cond (leb (2 ^ 63) size.0.0) (Err here.place)
    (part_of (size.0.0 - 8) size.0.1)) (inside, after) size.2 in
    let positive = guard_ok (leb (2 ^ 63) size.0.0) here.place (part_of (size.0.0 - 8) size.0.1) (inside, after) large.1 in
    let part = part_takes (size.0.0 - 8) size.0.1 inside after first.0.bytes positive.1 in
    let size_is : size.0.0 ≡ 8 + length inside.left = omega (arith, part.0, ltb-false _ _ large.0) in
    let both = Takes-then here size.0.1 after (to_le_bytes w64 size.0.0) inside.left first.0 part.3 in
    record {
      frame = subst (λ (k : ℕ). Takes here (to_le_bytes w64 k ++ inside.left) after) size_is both;
      size = omega (arith, size_is, leb-false _ _ positive.0);
      place = omega (arith, part.1, first.0.place);
      bytes = part.2;
    }

pub list_again : (count : ℕ) (inside rest : List ℕ) (place : ℕ) → count < 2 ^ 32 → 12 + length inside < 2 ^ 63
    → list_at (standing place (list_frame count inside ++ rest))
    ≡ Ok ((count, standing (place + 12) inside), standing (place + (12 + length inside)) rest)
unfolding list_at
list_again count inside rest place few fits =
    let word : ℕ = 2 ^ 64 - (12 + length inside) in
    let size = number_again 8 (2 ^ 64) (from_le_bytes w64) (to_le_bytes w64) little_64 (2 ^ 64 - (12 + length inside)) place
    (to_le_bytes w32 count ++ (inside ++ rest)) (omega arith) in
    let items = number_again 4 (2 ^ 32) (from_le_bytes w32) (to_le_bytes w32) little_32 count (place + 8) (inside ++ rest) few in
    let negative : leb (2 ^ 64 - (12 + length inside)) (2 ^ 63) ≡ false = lt-leb _ _ (omega arith) in
    let large : ltb (2 ^ 64 - (2 ^ 64 - (12 + length inside))) 12 ≡ false = le-ltb _ _ (omega arith) in
    let part = part_again (2 ^ 64 - (2 ^ 64 - (12 + length inside)) - 12) (place + 8 + 4) inside rest (omega arith) in
    let begin : place + 8 + 4 ≡ place + 12 = omega arith in
    let end : place + 8 + 4 + (2 ^ 64 - (2 ^ 64 - (12 + length inside)) - 12) ≡ place + (12 + length inside) = omega arith in
    let regrouped : list_frame count inside ++ rest ≡ to_le_bytes w64 (2 ^ 64 - (12 + length inside))
    ++ (to_le_bytes w32 count ++ (inside ++ rest)) =
    append_assoc (to_le_bytes w64 (2 ^ 64 - (12 + length inside))) (to_le_bytes w32 count ++ inside) rest
    ∙ ap (λ (b : List ℕ). to_le_bytes w64 (2 ^ 64 - (12 + length inside)) ++ b) (append_assoc (to_le_bytes w32 count) inside rest) in
    ap (λ (b : List ℕ). list_at (standing place b)) regrouped ∙ rw (size, items, negative, large, part, end, begin) refl

pub list_takes : (here : At) (count : ℕ) (inside after : At) → IsBytes here.left → list_at here ≡ Ok ((count, inside), after)
    → IsList here count inside after
unfolding list_at
list_takes here count inside after bytes e =
    let part_at : ℕ → At → Result (At × At) ℕ = λ size behind. cond (leb size (2 ^ 63)) (Err here.place)
    (cond (ltb (2 ^ 64 - size) 12) (Err here.place) (part_of (2 ^ 64 - size - 12) behind)) in
    let from_inside : ℕ → At × At → Result ((ℕ × At) × At) ℕ = λ k part. Ok ((k, part.0), part.1) in
    let from_count : ℕ → ℕ × At → Result ((ℕ × At) × At) ℕ = λ size k. part_at size k.1 >>= from_inside k.0 in
    let from_size : ℕ × At → Result ((ℕ × At) × At) ℕ = λ size. little w32 size.1 >>= from_count size.0 in
    let whole = refused_as_ok here.place (little w64 here >>= from_size) ((count, inside), after) e in
    let size = bind_ok (little w64 here) from_size ((count, inside), after) whole in
    let first = number_takes 8 (2 ^ 64) (from_le_bytes w64) (to_le_bytes w64) little_64 here size.0.1 size.0.0 bytes size.1 in
    let items = bind_ok (little w32 size.0.1) (from_count size.0.0) ((count, inside), after) size.2 in
    let second = number_takes 4 (2 ^ 32) (from_le_bytes w32) (to_le_bytes w32) little_32 size.0.1 items.0.1 items.0.0
    first.0.bytes items.1 in
    let part = bind_ok (part_at size.0.0 items.0.1) (from_inside items.0.0) ((count, inside), after) items.2 in
    let negative = guard_ok (leb size.0.0 (2 ^ 63)) here.place
    (cond (ltb (2 ^ 64 - size.0.0) 12) (Err here.place) (part_of (2 ^ 64 - size.0.0 - 12) items.0.1)) part.0 part.1 in
    let large = guard_ok (ltb (2 ^ 64 - size.0.0) 12) here.place (part_of (2 ^ 64 - size.0.0 - 12) items.0.1) part.0 negative.1 in
    let third = part_takes (2 ^ 64 - size.0.0 - 12) items.0.1 part.0.0 part.0.1 second.0.bytes large.1 in
    let size_is : size.0.0 ≡ 2 ^ 64 - (12 + length part.0.0.left) = omega (arith, third.0, ltb-false _ _ large.0, first.1) in
    let after_count = Takes-then size.0.1 items.0.1 part.0.1 (to_le_bytes w32 items.0.0) part.0.0.left second.0 third.3 in
    let both = Takes-then here size.0.1 part.0.1 (to_le_bytes w64 size.0.0) (to_le_bytes w32 items.0.0 ++ part.0.0.left)
    first.0 after_count in
    let made : IsList here items.0.0 part.0.0 part.0.1 = record {
      frame = subst (λ (k : ℕ). Takes here (to_le_bytes w64 k ++ (to_le_bytes w32 items.0.0 ++ part.0.0.left)) part.0.1) size_is both;
      size = omega (arith, third.0, leb-false _ _ negative.0, ltb-false _ _ large.0);
      items = second.1;
      place = omega (arith, third.1, first.0.place, second.0.place);
      bytes = third.2;
    } in
    subst (λ (p : (ℕ × At) × At). IsList here p.0.0 p.0.1 p.1) (ok_is {E =
    ℕ} ((items.0.0, part.0.0), part.0.1) ((count, inside), after) part.2) made

pub record_place : (here : At) (at : ℕ) → record_at here ≡ Err at → at ≡ here.place
unfolding record_at
record_place here at e = refused_as_err here.place _ at e

pub list_place : (here : At) (at : ℕ) → list_at here ≡ Err at → at ≡ here.place
unfolding list_at
list_place here at e = refused_as_err here.place _ at e
