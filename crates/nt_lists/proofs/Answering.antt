-- What a step refuses is refused as a whole.
use Rattle.std.proofs.Common.{Option, None, Some, Result, refl}
use Rattle.nt_lists.specs.Chaining.{◌>>=◌}
use Rattle.nt_lists.specs.Answering.{Refuses}

pub Refuses-bind : {A B F : Type 0} (fault : Option F) (step : Result A F) (next : A → Result B F) → Refuses fault step
    → Refuses fault (step >>= next)
Refuses-bind None step next h = tt
Refuses-bind (Some f) step next h = rw h refl
