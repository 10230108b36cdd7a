-- Steps that can be refused, one after the other.
use Rattle.std.specs.Prelude.{Result, Ok, Err}

infixl 10 ◌>>=◌
-- one step after the other, up to the first fault
abbrev pub ◌>>=◌ : {A B E : Type 0} → Result A E → (A → Result B E) → Result B E
(Ok x) >>= f = f x
(Err e) >>= f = Err e

-- whatever is wrong is this fault
abbrev pub refused_as : {A E F : Type 0} → F → Result A E → Result A F
refused_as fault (Ok x) = Ok x
refused_as fault (Err e) = Err fault
