-- What is read, from an answer.
use Rattle.std.proofs.Common.{◌≡◌, refl, Option, Some, None, Result, Ok, Err}
use Rattle.nt_types.specs.FaultViews.{or_malformed}

pub some_read : {A : Type 0} (o : Option A) (x : A) → or_malformed o ≡ Ok x → o ≡ Some x
some_read None x e = cc
some_read (Some y) x e = cc

pub none_read : {A : Type 0} (o : Option A) → or_malformed o ≡ Err tt → o ≡ None
none_read None e = refl
none_read (Some y) e = cc
