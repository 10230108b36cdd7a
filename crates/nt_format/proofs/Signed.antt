-- Numbers with a sign: what is read is spelled so, and what is spelled is read.
use Rattle.std.proofs.Common.{◌≡◌, ℕ, ℤ, ◌+◌, ◌^◌, List, length, Ok, sym, ap, subst, ◌∙◌}
use Rattle.std.specs.Prelude.{FitsSigned}
use Rattle.std.specs.Int.{Width, from_le_bytes, to_le_bytes, cast_signed, cast_unsigned}
use Rattle.std.proofs.lemmas.Int.{to_z-of_z, of_z-to_z}
use mir.Val.{bits}
use mir.ValLaws.{of_z_fits, to_z-Fits}
use Rattle.nt_num.specs.Cursor.{next}
use Rattle.nt_format.specs.Reading.{standing, IsBytes, Takes, Spells}
use Rattle.nt_format.specs.Numbers.{signed}
use Rattle.nt_format.proofs.Steps.{next_takes, next_again}
use Rattle.nt_format.proofs.Numbers.{IsCode}

-- the same code for numbers with a sign
pub record IsSignedCode (w : Width) (size : ℕ) : Type 0 where
  pub len : (z : ℤ) → length (signed w z) ≡ size
  pub back : (bytes : List ℕ) → length bytes ≡ size → IsBytes bytes → signed w (cast_signed w (from_le_bytes w bytes)) ≡ bytes
  pub again : (z : ℤ) → FitsSigned w z → cast_signed w (from_le_bytes w (signed w z)) ≡ z
  pub below : (bytes : List ℕ) → IsBytes bytes → FitsSigned w (cast_signed w (from_le_bytes w bytes))

pub signed_code : (w : Width) (size : ℕ) → IsCode size (2 ^ bits w) (from_le_bytes w) (to_le_bytes w) → IsSignedCode w size
signed_code w size code = record {
  len = λ z. code.len (cast_unsigned w z);
  back = λ bytes len fits. ap (to_le_bytes w) (of_z-to_z w (from_le_bytes w bytes) (code.below bytes fits)) ∙ code.back bytes len fits;
  again = λ z fits. ap (cast_signed w) (code.again (cast_unsigned w z) (of_z_fits w z fits).fits) ∙ to_z-of_z w z fits;
  below = λ bytes fits. to_z-Fits w (from_le_bytes w bytes) (record { fits = code.below bytes fits });
}

pub signed_spells : (w : Width) (size : ℕ) → IsSignedCode w size
    → Spells (next (λ bytes. cast_signed w (from_le_bytes w bytes)) size) (signed w) (FitsSigned w)
signed_spells w size code = record {
  reads = λ z place rest fits.
      next_again (λ bytes. cast_signed w (from_le_bytes w bytes)) size place (signed w z) rest (code.len z)
      ∙ ap (λ (k : ℤ). Ok (k, standing (place + size) rest)) (code.again z fits)
      ∙ ap (λ (k : ℕ). Ok (z, standing (place + k) rest)) (sym (code.len z));
  finds = λ here after z bytes e.
      let t = next_takes (λ bytes. cast_signed w (from_le_bytes w bytes)) size here after z bytes e in
      let text_is : t.0 ≡ signed w z = sym (code.back t.0 t.1 t.2) ∙ ap (signed w) t.3 in
      (subst (λ (text : List ℕ). Takes here text after) text_is t.4, subst (FitsSigned w) t.3 (code.below t.0 t.2));
}
