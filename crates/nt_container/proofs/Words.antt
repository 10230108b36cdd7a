-- Words of the container are read back.
use Rattle.std.proofs.Common.{◌≡◌, ℕ, suc, ◌+◌, ◌<◌, ◌^◌, true, false, eqb, List, [], ◌∷◌, ◌++◌, length, Ok, refl, ap, ◌∙◌, arith}
use Rattle.std.proofs.lemmas.List.{length-append}
use Rattle.std.specs.Int.{w8, w16, w32, w64, from_le_bytes, from_be_bytes, to_be_bytes}
use Rattle.std.proofs.lemmas.Bool.{ne_eqb}
use Rattle.nt_num.specs.Cursor.{little, big}
use Rattle.nt_format.specs.Reading.{ReadsAs, standing}
use Rattle.nt_format.proofs.Steps.{next_again}
use Rattle.nt_format.proofs.Numbers.{number_again, big_16, big_32, big_64}
use Rattle.nt_format.specs.Demands.{bytes_at}
use Rattle.nt_format.proofs.Grammars.{plain_bytes as again_bytes}
use Rattle.nt_container.specs.Words.{place_at, tstring_at, short_tstring, long_tstring}

pub word_16 : (n : ℕ) → n < 2 ^ 16 → ReadsAs (big w16) (to_be_bytes w16 n) n
word_16 n lt place rest = number_again 2 (2 ^ 16) (from_be_bytes w16) (to_be_bytes w16) big_16 n place rest lt

pub word_32 : (n : ℕ) → n < 2 ^ 32 → ReadsAs (big w32) (to_be_bytes w32 n) n
word_32 n lt place rest = number_again 4 (2 ^ 32) (from_be_bytes w32) (to_be_bytes w32) big_32 n place rest lt

pub word_64 : (n : ℕ) → n < 2 ^ 64 → ReadsAs (big w64) (to_be_bytes w64 n) n
word_64 n lt place rest = number_again 8 (2 ^ 64) (from_be_bytes w64) (to_be_bytes w64) big_64 n place rest lt

pub wide_place : (n : ℕ) → n < 2 ^ 64 → ReadsAs (place_at true) (to_be_bytes w64 n) n
unfolding place_at
wide_place = word_64

pub plain_bytes : (n : ℕ) (text : List ℕ) → length text ≡ n → ReadsAs (bytes_at n) text text
plain_bytes n text len place rest = again_bytes n place text rest len

one_byte : (n : ℕ) → from_le_bytes w8 (n ∷ []) ≡ n
one_byte n = omega arith

pub short_text : (text : List ℕ) → length text < 255 → ReadsAs tstring_at (short_tstring text) text
unfolding tstring_at short_tstring
short_text text lt place rest =
    let byte : little w8 (standing place (length text ∷ (text ++ rest))) ≡ Ok (length text, standing (place + 1) (text ++ rest)) =
    next_again (from_le_bytes w8) 1 place (length text ∷ []) (text ++ rest) refl
    ∙ ap (λ (k : ℕ). Ok (k, standing (place + 1) (text ++ rest))) (one_byte (length text)) in
    let test : eqb (length text) 255 ≡ false = ne_eqb _ _ (λ (e : length text ≡ 255). absurd (omega (arith, e, lt))) in
    let end : place + 1 + length text ≡ place + suc (length text) = omega arith in
    rw (byte, test, plain_bytes (length text) text refl (place + 1) rest, end) refl

pub long_text : (text : List ℕ) → length text < 2 ^ 32 → ReadsAs tstring_at (long_tstring text) text
unfolding tstring_at long_tstring
long_text text lt place rest =
    let byte : little w8 (standing place (255 ∷ ((to_be_bytes w32 (length text) ++ text) ++ rest)))
    ≡ Ok (255, standing (place + 1) ((to_be_bytes w32 (length text) ++ text) ++ rest)) =
    next_again (from_le_bytes w8) 1 place (255 ∷ []) ((to_be_bytes w32 (length text) ++ text) ++ rest) refl in
    let size = word_32 (length text) lt (place + 1) (text ++ rest) in
    let end : place + 1 + 4 + length text ≡ place + suc (length (to_be_bytes w32 (length text) ++ text)) =
    omega (arith, length-append (to_be_bytes w32 (length text)) text) in
    rw (byte, size, plain_bytes (length text) text refl (place + 1 + 4) rest, end) refl

pub narrow_place : (n : ℕ) → n < 2 ^ 32 → ReadsAs (place_at false) (to_be_bytes w32 n) n
unfolding place_at
narrow_place = word_32
