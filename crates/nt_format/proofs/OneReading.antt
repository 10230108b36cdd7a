-- No bytes begin with two spellings.
use Rattle.std.proofs.Common.{◌≡◌, ◌≢◌, ℕ, ◌+◌, ◌-◌, ◌^◌, ◌<◌, List, ◌++◌, length, Result, Ok, Err, sym, ap, ◌∙◌, append_assoc, arith}
use Rattle.std.specs.Int.{w32, w64, from_le_bytes, to_le_bytes}
use Rattle.nt_num.specs.Place.{At}
use Rattle.nt_num.specs.Cursor.{next}
use Rattle.nt_format.specs.Reading.{standing, Spells, HasOneReading}
use Rattle.nt_format.specs.Frames.{record_frame, list_frame, record_at, list_at, IsRecord, IsList}
use Rattle.nt_lists.proofs.Variants.{ok_is}
use Rattle.nt_format.proofs.Numbers.{little_64, number_again}
use Rattle.nt_format.proofs.Frames.{record_again, list_again}

abbrev refuse : {A : Type 0} → ℕ → Result A ℕ
refuse e = Err e

pub one_reading : {V E : Type 0} (reading : At → Result (V × At) E) (spelling : V → List ℕ) (Fits : V → Type 0)
    → Spells reading spelling Fits → HasOneReading spelling Fits
one_reading {V = V} {E = E} reading spelling Fits spells one other rest others fits_one fits_other same =
    let pair = ok_is {E = E} (one, standing (0 + length (spelling one)) rest) (other, standing (0 + length (spelling other)) others)
    (sym (spells.reads one 0 rest fits_one) ∙ ap (λ (b : List ℕ). reading (standing 0 b)) same ∙ spells.reads other 0 others fits_other) in
    (ap (λ (p : V × At). p.0) pair, ap (λ (p : V × At). p.1.left) pair)

pub one_record : HasOneReading record_frame (λ inside. 8 + length inside < 2 ^ 63)
one_record one other rest others fits_one fits_other same =
    let pair = ok_is {E = ℕ} (standing (0 + 8) one, standing (0 + (8 + length one)) rest)
    (standing (0 + 8) other, standing (0 + (8 + length other)) others)
    (sym (record_again one rest 0 fits_one) ∙ ap (λ (b : List ℕ). record_at (standing 0 b)) same
    ∙ record_again other others 0 fits_other) in
    (ap (λ (p : At × At). p.0.left) pair, ap (λ (p : At × At). p.1.left) pair)

pub one_list : (n m : ℕ) (one other rest others : List ℕ) → n < 2 ^ 32 → m < 2 ^ 32 → 12 + length one < 2 ^ 63 → 12 + length other < 2 ^ 63
    → list_frame n one ++ rest ≡ list_frame m other ++ others → (n ≡ m) × (one ≡ other) × (rest ≡ others)
one_list n m one other rest others few_n few_m fits_one fits_other same =
    let pair = ok_is {E = ℕ} ((n, standing (0 + 12) one), standing (0 + (12 + length one)) rest)
    ((m, standing (0 + 12) other), standing (0 + (12 + length other)) others)
    (sym (list_again n one rest 0 few_n fits_one) ∙ ap (λ (b : List ℕ). list_at (standing 0 b)) same
    ∙ list_again m other others 0 few_m fits_other) in
    (ap (λ (p : (ℕ × At) × At). p.0.0) pair, ap (λ (p : (ℕ × At) × At). p.0.1.left) pair, ap (λ (p : (ℕ × At) × At). p.1.left) pair)

-- a record frame is no list frame
pub other_kind : (n : ℕ) (one other rest others : List ℕ) → 8 + length one < 2 ^ 63 → 12 + length other < 2 ^ 63
    → record_frame one ++ rest ≢ list_frame n other ++ others
other_kind n one other rest others fits_one fits_other same =
    let word = number_again 8 (2 ^ 64) (from_le_bytes w64) (to_le_bytes w64) little_64 in
    let sizes = ok_is {E = ℕ} (8 + length one, standing 8 (one ++ rest))
    (2 ^ 64 - (12 + length other), standing 8 (to_le_bytes w32 n ++ (other ++ others)))
    (sym (word (8 + length one) 0 (one ++ rest) (omega arith)) ∙ ap (λ (b : List ℕ). next (from_le_bytes w64) 8 (standing 0 b))
    (sym (append_assoc (to_le_bytes w64 (8 + length one)) one rest) ∙ same
    ∙ append_assoc (to_le_bytes w64 (2 ^ 64 - (12 + length other))) (to_le_bytes w32 n ++ other) others
    ∙ ap (λ (b : List ℕ). to_le_bytes w64 (2 ^ 64 - (12 + length other)) ++ b)
    (append_assoc (to_le_bytes w32 n) other others)) ∙ word (2 ^ 64 - (12 + length other)) 0 (to_le_bytes w32 n
    ++ (other ++ others)) (omega arith)) in
    let size : 8 + length one ≡ 2 ^ 64 - (12 + length other) = ap (λ (p : ℕ × At). p.0) sizes in
    omega (arith, size)

refused_is_ok : {A : Type 0} {e : ℕ} {x : A} → refuse e ≡ Ok x → ⊥
refused_is_ok h = cc

-- where a record frame is refused none stands, and the fault is its place
pub record_refused : (here : At) (at : ℕ) → record_at here ≡ Err at → (inside after : At) → IsRecord here inside after → ⊥
record_refused here at e inside after stands =
    let read = ap (λ (b : List ℕ). record_at (standing here.place b)) stands.frame.parts
    ∙ record_again inside.left after.left here.place stands.size in
    absurd (refused_is_ok (sym e ∙ read))

pub list_refused : (here : At) (at : ℕ) → list_at here ≡ Err at → (count : ℕ) (inside after : At) → IsList here count inside after → ⊥
list_refused here at e count inside after stands =
    let read = ap (λ (b : List ℕ). list_at (standing here.place b)) stands.frame.parts ∙ list_again count inside.left after.left
    here.place stands.items stands.size in
    absurd (refused_is_ok (sym e ∙ read))
