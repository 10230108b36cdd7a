-- Steps that can be refused: what came out of them where none was.
use Rattle.std.proofs.Common.{◌≡◌, Bool, true, false, cond, Result, Ok, Err, refl, ap}
use Rattle.nt_lists.specs.Chaining.{◌>>=◌, refused_as}
use Rattle.nt_lists.proofs.Variants.{ok_is}

-- the value of a step that was not refused
pub bind_ok : {A B E : Type 0} (r : Result A E) (f : A → Result B E) (y : B) → (r >>= f) ≡ Ok y → (x : A) × (r ≡ Ok x) × (f x ≡ Ok y)
bind_ok (Ok x) f y e = (x, refl, e)
bind_ok (Err d) f y e = absurd cc

pub refused_as_ok : {A E F : Type 0} (fault : F) (r : Result A E) (x : A) → refused_as fault r ≡ Ok x → r ≡ Ok x
refused_as_ok fault (Ok y) x e = ap (λ (z : _). Ok z) (ok_is y x e)
refused_as_ok fault (Err d) x e = absurd cc

-- a refusal is the fault that it was named
pub refused_as_err : {A E F : Type 0} (fault : F) (r : Result A E) (e : F) → refused_as fault r ≡ Err e → e ≡ fault
refused_as_err fault (Ok x) e h = absurd cc
refused_as_err fault (Err d) e h = cc

-- a test that did not refuse
pub guard_ok : {A E : Type 0} (b : Bool) (d : E) (r : Result A E) (y : A) → cond b (Err d) r ≡ Ok y → (b ≡ false) × (r ≡ Ok y)
guard_ok true d r y e = absurd cc
guard_ok false d r y e = (refl, e)

-- a test that did not refuse its opposite
pub guard_passed : {A E : Type 0} (b : Bool) (d : E) (r : Result A E) (y : A) → cond b r (Err d) ≡ Ok y → (b ≡ true) × (r ≡ Ok y)
guard_passed true d r y e = (refl, e)
guard_passed false d r y e = absurd cc
