-- Envelopes: what is read is spelled so, and what is spelled is read.
use Rattle.std.proofs.Common.{◌≡◌, ◌≢◌, ℕ, ◌+◌, ◌-◌, ◌*◌, ◌/◌, ◌%◌, ◌^◌, ◌<◌, ◌≤◌, true, false, cond, ltb, eqb, List, ◌++◌, length, take}
use Rattle.std.proofs.Common.{drop, Result, Ok, Err, refl, sym, ap, subst, ◌∙◌, append_assoc, eq-eqb, arith, inl, inr}
use Rattle.std.specs.Int.{w64, from_le_bytes, to_le_bytes}
use Rattle.std.proofs.lemmas.Bool.{cases_lt, ltb-false, le-ltb, lt-ltb, eqb-true, ne_eqb}
use Rattle.std.proofs.lemmas.List.{take_at, drop_at, take-append-drop, length-append, length-take, length-drop}
use Rattle.std.proofs.lemmas.Nat.{shr_split, shr_high, mod_low}
use Rattle.nt_xxh3.specs.Sum.{xxh3}
use Rattle.nt_format.specs.declared.fault.EnvelopeFault.{EnvelopeFault}
use Rattle.nt_format.specs.declared.fault.EnvelopeFault.TheVariants.{Size, Kind, Checksum}
use Rattle.nt_num.specs.Place.{At}
use Rattle.nt_num.specs.Cursor.{next}
use Rattle.nt_format.specs.Reading.{standing, IsBytes}
use Rattle.nt_format.specs.Envelopes.{unsealed, envelope, payload_of}
use Rattle.nt_lists.proofs.Chaining.{guard_ok, guard_passed}
use Rattle.nt_lists.proofs.Variants.{ok_is}
use Rattle.nt_format.proofs.Steps.{IsBytes-drop, IsBytes-take}
use Rattle.nt_format.proofs.Numbers.{little_64, number_again}
use Rattle.nt_format.proofs.Sum.{xxh3_below}

-- what is said of so many bytes with this first word, this last one, and these bytes before it
abbrev judged : ℕ → ℕ → ℕ → ℕ → List ℕ → Result (List ℕ) EnvelopeFault
judged kind len word kept covered =
    cond (eqb (word / 2 ^ 16) len) (cond (eqb (word % 2 ^ 16) kind) (cond (eqb kept (xxh3 covered)) (Ok (drop 8 covered))
    (Err (Checksum kept (xxh3 covered)))) (Err (Kind (word % 2 ^ 16)))) (Err Size)

payload_of-parts : (kind : ℕ) (head payload sum : List ℕ) → length head ≡ 8 → length sum ≡ 8
    → payload_of kind ((head ++ payload) ++ sum) ≡ judged kind (length payload + 16) (from_le_bytes w64 head)
    (from_le_bytes w64 sum) (head ++ payload)
unfolding payload_of
payload_of-parts kind head payload sum eight last =
    let covered_len : length (head ++ payload) ≡ 8 + length payload = omega (arith, length-append head payload) in
    let len : length ((head ++ payload) ++ sum) ≡ length payload + 16 = omega (arith, length-append (head ++ payload) sum) in
    let long : ltb (length payload + 16) 16 ≡ false = le-ltb _ _ (omega arith) in
    let covered : take (length payload + 16 - 8) ((head ++ payload) ++ sum) ≡ head ++ payload =
    take_at (head ++ payload) sum _ (omega arith) in
    let kept : drop (length payload + 16 - 8) ((head ++ payload) ++ sum) ≡ sum = drop_at (head ++ payload) sum _ (omega arith) in
    let word : take 8 (head ++ payload) ≡ head = take_at head payload 8 eight in
    rw (len, long, covered, kept, word) refl

judged-sound : (kind len word kept : ℕ) (covered : List ℕ) → word ≡ len * 2 ^ 16 + kind → kind < 2 ^ 16 → kept ≡ xxh3 covered
    → judged kind len word kept covered ≡ Ok (drop 8 covered)
judged-sound kind len word kept covered word_is small kept_is =
    let size : word / 2 ^ 16 ≡ len = ap (λ (n : ℕ). n / 2 ^ 16) word_is ∙ shr_high len 16 kind small in
    let low : word % 2 ^ 16 ≡ kind = ap (λ (n : ℕ). n % 2 ^ 16) word_is ∙ mod_low len 16 kind small in
    let same_size : eqb (word / 2 ^ 16) len ≡ true = eq-eqb _ _ size in
    let same_kind : eqb (word % 2 ^ 16) kind ≡ true = eq-eqb _ _ low in
    let same_sum : eqb kept (xxh3 covered) ≡ true = eq-eqb _ _ kept_is in
    rw (same_size, same_kind, same_sum) refl

judged-complete : (kind len word kept : ℕ) (covered payload : List ℕ) → judged kind len word kept covered ≡ Ok payload
    → (word ≡ len * 2 ^ 16 + kind) × (kind < 2 ^ 16) × (kept ≡ xxh3 covered) × (drop 8 covered ≡ payload)
judged-complete kind len word kept covered payload e =
    let size = guard_passed (eqb (word / 2 ^ 16) len) Size
    (cond (eqb (word % 2 ^ 16) kind) (cond (eqb kept (xxh3 covered)) (Ok (drop 8 covered))
    (Err (Checksum kept (xxh3 covered)))) (Err (Kind (word % 2 ^ 16)))) payload e in
    let low = guard_passed (eqb (word % 2 ^ 16) kind) (Kind (word % 2 ^ 16))
    (cond (eqb kept (xxh3 covered)) (Ok (drop 8 covered)) (Err (Checksum kept (xxh3 covered)))) payload size.1 in
    let sum = guard_passed (eqb kept (xxh3 covered)) (Checksum kept (xxh3 covered)) (Ok (drop 8 covered)) payload low.1 in
    let size_is : word / 2 ^ 16 ≡ len = eqb-true _ _ size.0 in
    let kind_is : word % 2 ^ 16 ≡ kind = eqb-true _ _ low.0 in
    let word_is : word ≡ len * 2 ^ 16 + kind = sym (shr_split word 16) ∙ ap (λ (n : ℕ). n * 2 ^ 16 + word % 2 ^ 16) size_is
    ∙ ap (λ (n : ℕ). len * 2 ^ 16 + n) kind_is in
    (word_is, omega (arith, kind_is), eqb-true _ _ sum.0, ok_is {E = EnvelopeFault} (drop 8 covered) payload sum.1)

pub payload_again : (kind : ℕ) (payload : List ℕ) → kind < 2 ^ 16 → length payload + 16 < 2 ^ 48
    → payload_of kind (envelope kind payload) ≡ Ok payload
payload_again kind payload small fits =
    let head : List ℕ = to_le_bytes w64 ((length payload + 16) * 2 ^ 16 + kind) in
    let sum : List ℕ = to_le_bytes w64 (xxh3 (unsealed kind payload)) in
    let word = little_64.again ((length payload + 16) * 2 ^ 16 + kind) (omega arith) in
    let kept = little_64.again (xxh3 (unsealed kind payload)) (xxh3_below (unsealed kind payload)) in
    payload_of-parts kind head payload sum refl refl
    ∙ judged-sound kind (length payload + 16) (from_le_bytes w64 head) (from_le_bytes w64 sum) (unsealed kind payload) word small kept
    ∙ ap (λ (b : List ℕ). Ok b) (drop_at head payload 8 refl)

-- the bytes in three parts
pub record Parts (bytes head inner sum : List ℕ) : Type 0 where
  pub whole : bytes ≡ (head ++ inner) ++ sum
  pub head_len : length head ≡ 8
  pub sum_len : length sum ≡ 8
  pub head_fits : IsBytes head
  pub sum_fits : IsBytes sum

parts_of : (bytes : List ℕ) → IsBytes bytes → 16 ≤ length bytes → (head : List ℕ) × (inner : List ℕ) × (sum : List ℕ)
    × Parts bytes head inner sum
parts_of bytes fits long =
    let covered : List ℕ = take (length bytes - 8) bytes in
    let covered_len : length (take (length bytes - 8) bytes) ≡ length bytes - 8 = omega (arith, length-take (length bytes - 8) bytes) in (
      take 8 covered,
      drop 8 covered,
      drop (length bytes - 8) bytes,
      record {
        whole = sym (take-append-drop (length bytes - 8) bytes) ∙ ap (λ (c : List ℕ). c ++ drop (length bytes - 8) bytes)
            (sym (take-append-drop 8 covered));
        head_len = omega (arith, length-take 8 covered, covered_len);
        sum_len = omega (arith, length-drop (length bytes - 8) bytes);
        head_fits = IsBytes-take 8 covered (IsBytes-take (length bytes - 8) bytes fits);
        sum_fits = IsBytes-drop (length bytes - 8) bytes fits;
      },
    )

-- what is read of three parts
parts_take : (kind : ℕ) (bytes head inner sum payload : List ℕ) → Parts bytes head inner sum → payload_of kind bytes ≡ Ok payload
    → (bytes ≡ envelope kind payload) × (kind < 2 ^ 16) × (length payload + 16 < 2 ^ 48)
parts_take kind bytes head inner sum payload parts e =
    let word : ℕ = from_le_bytes w64 head in
    let kept : ℕ = from_le_bytes w64 sum in
    let covered : List ℕ = head ++ inner in
    let found : judged kind (length inner + 16) (from_le_bytes w64 head) (from_le_bytes w64 sum) (head ++ inner) ≡ Ok payload =
    sym (payload_of-parts kind head inner sum parts.head_len parts.sum_len) ∙ ap (payload_of kind) (sym parts.whole) ∙ e in
    let told = judged-complete kind (length inner + 16) (from_le_bytes w64 head) (from_le_bytes w64 sum) (head ++ inner) payload found in
    let head_is : head ≡ to_le_bytes w64 ((length inner + 16) * 2 ^ 16 + kind) =
    sym (little_64.back head parts.head_len parts.head_fits) ∙ ap (to_le_bytes w64) told.0 in
    let covered_is : head ++ inner ≡ unsealed kind inner = ap (λ (h : List ℕ). h ++ inner) head_is in
    let sum_is : sum ≡ to_le_bytes w64 (xxh3 (unsealed kind inner)) =
    sym (little_64.back sum parts.sum_len parts.sum_fits) ∙ ap (to_le_bytes w64) (told.2 ∙ ap xxh3 covered_is) in
    let whole : bytes ≡ envelope kind inner = parts.whole ∙ ap (λ (c : List ℕ). c ++ sum) covered_is
    ∙ ap (λ (s : List ℕ). unsealed kind inner ++ s) sum_is in
    let inner_is : inner ≡ payload = sym (drop_at head inner 8 parts.head_len) ∙ told.3 in
    let below = little_64.below head parts.head_fits in
    subst (λ (p : List ℕ). (bytes ≡ envelope kind p) × (kind < 2 ^ 16) × (length p + 16 < 2 ^ 48)) inner_is
    (whole, told.1, omega (arith, told.0, below))

pub length_from_payload : (kind : ℕ) (bytes payload : List ℕ) → payload_of kind bytes ≡ Ok payload → 16 ≤ length bytes
unfolding payload_of
length_from_payload kind bytes payload e = ltb-false _ _ (guard_ok (ltb (length bytes) 16) Size _ payload e).0

pub payload_takes : (kind : ℕ) (bytes payload : List ℕ) → IsBytes bytes → payload_of kind bytes ≡ Ok payload
    → (bytes ≡ envelope kind payload) × (kind < 2 ^ 16) × (length payload + 16 < 2 ^ 48)
payload_takes kind bytes payload fits e =
    let split = parts_of bytes fits (length_from_payload kind bytes payload e) in
    let head : List ℕ = split.0 in
    let inner : List ℕ = split.1 in
    let sum : List ℕ = split.2 in
    let parts : Parts bytes head inner sum = split.3 in
    parts_take kind bytes head inner sum payload parts e

too_short : (kind : ℕ) (bytes : List ℕ) → length bytes < 16 → payload_of kind bytes ≡ Err Size
unfolding payload_of
too_short kind bytes lt =
    let short : ltb (length bytes) 16 ≡ true = lt-ltb _ _ lt in
    rw short refl

judged-other : (kind len size other word kept : ℕ) (covered : List ℕ) → word ≡ size * 2 ^ 16 + other → other < 2 ^ 16 → size ≢ len
    → judged kind len word kept covered ≡ Err Size
judged-other kind len size other word kept covered word_is small ne =
    let size_is : word / 2 ^ 16 ≡ size = ap (λ (n : ℕ). n / 2 ^ 16) word_is ∙ shr_high size 16 other small in
    let differs : eqb (word / 2 ^ 16) len ≡ false = ne_eqb _ _ (λ (same : word / 2 ^ 16 ≡ len). ne (sym size_is ∙ same)) in
    rw differs refl

-- bytes whose first word says another size than theirs
pub wrong_size : (kind size other : ℕ) (rest : List ℕ) → other < 2 ^ 16 → size < 2 ^ 48 → size ≢ 8 + length rest
    → payload_of kind (to_le_bytes w64 (size * 2 ^ 16 + other) ++ rest) ≡ Err Size
wrong_size kind size other rest small fits ne =
    elim (cases_lt (length rest) 8) [
      | inl lt ↦ too_short kind (to_le_bytes w64 (size * 2 ^ 16 + other) ++ rest)
          (omega (arith, length-append (to_le_bytes w64 (size * 2 ^ 16 + other)) rest))
      | inr le ↦
          let head : List ℕ = to_le_bytes w64 (size * 2 ^ 16 + other) in
          let inner : List ℕ = take (length rest - 8) rest in
          let sum : List ℕ = drop (length rest - 8) rest in
          let whole : head ++ rest ≡ (head ++ inner) ++ sum =
          ap (λ (r : List ℕ). head ++ r) (sym (take-append-drop (length rest - 8) rest)) ∙ sym (append_assoc head inner sum) in
          let inner_len : length (take (length rest - 8) rest) ≡ length rest - 8 = omega (arith, length-take (length rest - 8) rest) in
          let sum_len : length (drop (length rest - 8) rest) ≡ 8 = omega (arith, length-drop (length rest - 8) rest) in
          let word = little_64.again (size * 2 ^ 16 + other) (omega arith) in
          ap (payload_of kind) whole ∙ payload_of-parts kind head inner sum refl sum_len
          ∙ judged-other kind (length inner + 16) size other (from_le_bytes w64 head) (from_le_bytes w64 sum) (head ++ inner) word
          small (λ (same : size ≡ length inner + 16). ne (omega (arith, same, inner_len)))
    ]

-- bytes behind an envelope
pub payload_of-longer : (kind other : ℕ) (payload more : List ℕ) → other < 2 ^ 16 → length payload + 16 < 2 ^ 48 → 0 < length more
    → payload_of kind (envelope other payload ++ more) ≡ Err Size
payload_of-longer kind other payload more small fits some =
    let head : List ℕ = to_le_bytes w64 ((length payload + 16) * 2 ^ 16 + other) in
    let sum : List ℕ = to_le_bytes w64 (xxh3 (unsealed other payload)) in
    let regrouped : envelope other payload ++ more ≡ head ++ (payload ++ (sum ++ more)) =
    append_assoc (head ++ payload) sum more ∙ append_assoc head payload (sum ++ more) in
    let longer : length (payload ++ (sum ++ more)) ≡ length payload + (8 + length more) =
    omega (arith, length-append payload (sum ++ more), length-append sum more) in
    ap (payload_of kind) regrouped ∙ wrong_size kind (length payload + 16) other (payload ++ (sum ++ more)) small fits
    (λ (same : length payload + 16 ≡ 8 + length (payload ++ (sum ++ more))). omega (arith, same, longer))

one_payload : (kind : ℕ) (a b : List ℕ) → payload_of kind (envelope kind a) ≡ Ok a → payload_of kind (envelope kind a) ≡ Ok b → a ≡ b
one_payload kind a b first second = ok_is {E = EnvelopeFault} a b (sym first ∙ second)

-- no bytes are two envelopes: the kind stands in the first word
pub one_envelope : (kind other : ℕ) (a b : List ℕ) → kind < 2 ^ 16 → other < 2 ^ 16 → length a + 16 < 2 ^ 48 → length b + 16 < 2 ^ 48
    → envelope kind a ≡ envelope other b → (kind ≡ other) × (a ≡ b)
one_envelope kind other a b small_kind small_other fits_a fits_b same =
    let head_a : List ℕ = to_le_bytes w64 ((length a + 16) * 2 ^ 16 + kind) in
    let head_b : List ℕ = to_le_bytes w64 ((length b + 16) * 2 ^ 16 + other) in
    let word_a = number_again 8 (2 ^ 64) (from_le_bytes w64) (to_le_bytes w64) little_64 ((length a + 16) * 2 ^ 16 + kind) 0
    (a ++ to_le_bytes w64 (xxh3 (unsealed kind a))) (omega arith) in
    let word_b = number_again 8 (2 ^ 64) (from_le_bytes w64) (to_le_bytes w64) little_64 ((length b + 16) * 2 ^ 16 + other) 0
    (b ++ to_le_bytes w64 (xxh3 (unsealed other b))) (omega arith) in
    let regrouped_a : envelope kind a ≡ head_a ++ (a ++ to_le_bytes w64 (xxh3 (unsealed kind a))) =
    append_assoc head_a a (to_le_bytes w64 (xxh3 (unsealed kind a))) in
    let regrouped_b : envelope other b ≡ head_b ++ (b ++ to_le_bytes w64 (xxh3 (unsealed other b))) =
    append_assoc head_b b (to_le_bytes w64 (xxh3 (unsealed other b))) in
    let words = ok_is {E = ℕ} _ _ (sym word_a ∙ ap (λ (l : List ℕ). next (from_le_bytes w64) 8 (standing 0 l)) (sym regrouped_a
    ∙ same ∙ regrouped_b) ∙ word_b) in
    let word : (length a + 16) * 2 ^ 16 + kind ≡ (length b + 16) * 2 ^ 16 + other = ap (λ (p : ℕ × At). p.0) words in
    let kinds : kind ≡ other = sym (mod_low (length a + 16) 16 kind small_kind) ∙ ap (λ (n : ℕ). n % 2 ^ 16) word
    ∙ mod_low (length b + 16) 16 other small_other in
    let read_b : payload_of kind (envelope kind a) ≡ Ok b =
    ap (payload_of kind) same ∙ subst (λ (k : ℕ). payload_of k (envelope other b) ≡ Ok b) (sym kinds)
    (payload_again other b small_other fits_b) in
    (kinds, one_payload kind a b (payload_again kind a small_kind fits_a) read_b)
