-- Schemas of files that can be merged.
use Rattle.std.specs.Prelude.{◌≡◌, true, List}
use Rattle.std.specs.List.{AllByRecursion}
use Rattle.nt_grammar.specs.Table.{Table}
use Rattle.nt_grammar.specs.ReadingBack.{IsDescribed}
use Rattle.nt_plans.specs.Types.{are_some}
use Rattle.nt_plans.specs.Place.{open_plans}
use Rattle.nt_copied.specs.Alike.{Alike, AllOpen}
use Rattle.nt_copied.specs.Copies.{NoneDeferred}

-- all fields of schemas are open, and there is some; none of their columns is deferred; and they are alike one of them
pub record AreMergeable (t : Table) (ts : List Table) : Type 0 where
  pub are_open : AllByRecursion AllOpen ts
  pub have_some : AllByRecursion (λ (u : Table). IsDescribed u → are_some (open_plans u) ≡ true) ts
  pub none_deferred : AllByRecursion (λ (u : Table). NoneDeferred u.columns) ts
  pub alike : AllByRecursion (λ (u : Table). Alike t u) ts
