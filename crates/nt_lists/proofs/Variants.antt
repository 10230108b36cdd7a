-- What two equal variants hold is equal, and what a choice of variants was.
use Rattle.std.proofs.Common.{◌≡◌, refl, Bool, true, false, Some, Result, Ok, Err, if◌then◌else◌}

pub some_is : {A : Type 0} (x y : A) → Some x ≡ Some y → x ≡ y
some_is x y e = cc

pub ok_is : {A E : Type 0} (x y : A) → ◌≡◌ {A = Result A E} (Ok x) (Ok y) → x ≡ y
ok_is x y e = cc

pub err_is : {A E : Type 0} (x y : E) → ◌≡◌ {A = Result A E} (Err x) (Err y) → x ≡ y
err_is x y e = cc

pub chosen : {A E : Type 0} (b : Bool) (x y : A) (e : E) → (if b then Ok x else Err e) ≡ Ok y → (b ≡ true) × (x ≡ y)
chosen true x y e h = (refl, cc)
chosen false x y e h = cc

pub chosen_not : {A E : Type 0} (b : Bool) (r : Result A E) (y : A) (e : E) → (if b then Err e else r) ≡ Ok y → (b ≡ false) × (r ≡ Ok y)
chosen_not true r y e h = cc
chosen_not false r y e h = (refl, h)
