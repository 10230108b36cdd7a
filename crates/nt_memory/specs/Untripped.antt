-- A plan of nothing that counts over several objects.
use Rattle.std.specs.Prelude.{◌≡◌, ◌-◌, ◌^◌, false, None}
use Rattle.nt_memory.specs.declared.plan.Plan.{Plan}

-- no call fails by its number over several objects, no append is torn, and reads give as many bytes as there is room for
pub record IsUntripped (p : Plan) : Type 0 where
  pub trip : p.trip ≡ None
  pub disk_trip : p.disk_trip ≡ None
  pub torn : p.torn ≡ false
  pub most : p.most ≡ 2 ^ 64 - 1
