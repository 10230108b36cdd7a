-- Numbers: what is read is spelled so, and what is spelled is read.
use Rattle.std.proofs.Common.{◌≡◌, ℕ, ◌+◌, ◌^◌, ◌<◌, List, ◌++◌, length, Ok, refl, sym, ap, ◌∙◌, arith}
use Rattle.std.specs.Int.{w16, w32, w64, from_le_bytes, to_le_bytes, from_be_bytes, to_be_bytes}
use Rattle.std.proofs.lemmas.Nat.{le_bytes_2, le_bytes_4, le_bytes_8, be_bytes_2, be_bytes_4, be_bytes_8, from_le_bytes-to_le_bytes_2}
use Rattle.std.proofs.lemmas.Nat.{from_le_bytes-to_le_bytes_4, from_le_bytes-to_le_bytes_8, from_be_bytes-to_be_bytes_2}
use Rattle.std.proofs.lemmas.Nat.{from_be_bytes-to_be_bytes_4, from_be_bytes-to_be_bytes_8}
use Rattle.nt_num.specs.Place.{At}
use Rattle.nt_num.specs.Cursor.{next}
use Rattle.nt_format.specs.Reading.{standing, IsBytes, Takes, Spells}
use Rattle.nt_format.proofs.Steps.{next_takes, next_again}

-- numbers below a limit and lists of so many bytes stand for each other
pub record IsCode (size limit : ℕ) (from : List ℕ → ℕ) (to : ℕ → List ℕ) : Type 0 where
  pub len : (n : ℕ) → length (to n) ≡ size
  pub back : (bytes : List ℕ) → length bytes ≡ size → IsBytes bytes → to (from bytes) ≡ bytes
  pub again : (n : ℕ) → n < limit → from (to n) ≡ n
  pub below : (bytes : List ℕ) → IsBytes bytes → from bytes < limit

pub little_16 : IsCode 2 (2 ^ 16) (from_le_bytes w16) (to_le_bytes w16)
little_16 = record {
  len = λ n. refl;
  back = λ bytes len fits. le_bytes_2 bytes _ len fits refl;
  again = λ n lt. from_le_bytes-to_le_bytes_2 n lt;
  below = λ bytes fits. omega (arith, fits 0, fits 1);
}

pub little_32 : IsCode 4 (2 ^ 32) (from_le_bytes w32) (to_le_bytes w32)
little_32 = record {
  len = λ n. refl;
  back = λ bytes len fits. le_bytes_4 bytes _ len fits refl;
  again = λ n lt. from_le_bytes-to_le_bytes_4 n lt;
  below = λ bytes fits. omega (arith, fits 0, fits 1, fits 2, fits 3);
}

pub little_64 : IsCode 8 (2 ^ 64) (from_le_bytes w64) (to_le_bytes w64)
little_64 = record {
  len = λ n. refl;
  back = λ bytes len fits. le_bytes_8 bytes _ len fits refl;
  again = λ n lt. from_le_bytes-to_le_bytes_8 n lt;
  below = λ bytes fits. omega (arith, fits 0, fits 1, fits 2, fits 3, fits 4, fits 5, fits 6, fits 7);
}

pub big_16 : IsCode 2 (2 ^ 16) (from_be_bytes w16) (to_be_bytes w16)
big_16 = record {
  len = λ n. refl;
  back = λ bytes len fits. be_bytes_2 bytes _ len fits refl;
  again = λ n lt. from_be_bytes-to_be_bytes_2 n lt;
  below = λ bytes fits. omega (arith, fits 0, fits 1);
}

pub big_32 : IsCode 4 (2 ^ 32) (from_be_bytes w32) (to_be_bytes w32)
big_32 = record {
  len = λ n. refl;
  back = λ bytes len fits. be_bytes_4 bytes _ len fits refl;
  again = λ n lt. from_be_bytes-to_be_bytes_4 n lt;
  below = λ bytes fits. omega (arith, fits 0, fits 1, fits 2, fits 3);
}

pub big_64 : IsCode 8 (2 ^ 64) (from_be_bytes w64) (to_be_bytes w64)
big_64 = record {
  len = λ n. refl;
  back = λ bytes len fits. be_bytes_8 bytes _ len fits refl;
  again = λ n lt. from_be_bytes-to_be_bytes_8 n lt;
  below = λ bytes fits. omega (arith, fits 0, fits 1, fits 2, fits 3, fits 4, fits 5, fits 6, fits 7);
}

pub number_again : (size limit : ℕ) (from : List ℕ → ℕ) (to : ℕ → List ℕ) → IsCode size limit from to
    → (n place : ℕ) (rest : List ℕ) → n < limit → next from size (standing place (to n ++ rest))
    ≡ Ok (n, standing (place + length (to n)) rest)
number_again size limit from to code n place rest lt =
    next_again from size place (to n) rest (code.len n)
    ∙ ap (λ (k : ℕ). Ok (k, standing (place + size) rest)) (code.again n lt)
    ∙ ap (λ (k : ℕ). Ok (n, standing (place + k) rest)) (sym (code.len n))

pub number_takes : (size limit : ℕ) (from : List ℕ → ℕ) (to : ℕ → List ℕ) → IsCode size limit from to
    → (here after : At) (n : ℕ) → IsBytes here.left → next from size here ≡ Ok (n, after) → Takes here (to n) after × (n < limit)
number_takes size limit from to code here after n bytes e =
    let t = next_takes from size here after n bytes e in
    let text_is : t.0 ≡ to n = sym (code.back t.0 t.1 t.2) ∙ ap to t.3 in
    (rw (← text_is) t.4, rw (← t.3) (code.below t.0 t.2))

pub number_spells : (size limit : ℕ) (from : List ℕ → ℕ) (to : ℕ → List ℕ) → IsCode size limit from to
    → Spells (next from size) to (λ n. n < limit)
number_spells size limit from to code = record {
  reads = number_again size limit from to code;
  finds = number_takes size limit from to code;
}
