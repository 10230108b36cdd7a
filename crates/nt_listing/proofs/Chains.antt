-- What fails in a step fails in all.
use Rattle.std.proofs.Common.{◌≡◌, Result, Ok, Err, ap, ◌∙◌}
use Rattle.nt_num.specs.declared.fault.ReadError.{ReadError}
use Rattle.nt_lists.specs.Chaining.{◌>>=◌}
use Rattle.nt_tfile.specs.declared.failure.ReadFailure.{ReadFailure}
use Rattle.nt_tfile.specs.declared.failure.ReadFailure.TheVariants.{Defect, Fault, Memory}
use Rattle.nt_tfile.specs.Calls.{IsReadOrFails}

-- a step, and what comes behind it
pub fails : {U V W X : Type 0} (one : U → V) (all : W → X) (e : ReadFailure) (r : Result V ReadError) (f : V → Result X ReadError)
    → IsReadOrFails one (Err e) r → IsReadOrFails all (Err e) (r >>= f)
fails {V = V} one all (Defect d) r f h = ap (λ (s : Result V ReadError). s >>= f) h
fails one all Fault r f h = tt
fails one all Memory r f h = tt

-- the same along an equation
pub fails-as : {U W X : Type 0} (one : U → X) (all : W → X) (e : ReadFailure) (r s : Result X ReadError) → s ≡ r
    → IsReadOrFails one (Err e) r → IsReadOrFails all (Err e) s
fails-as one all (Defect d) r s is h = is ∙ h
fails-as one all Fault r s is h = tt
fails-as one all Memory r s is h = tt
