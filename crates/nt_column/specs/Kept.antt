-- What the pairs of a Switch are to their holder.
use Rattle.std.specs.Prelude.{ℕ, List}
use Rattle.nt_column.specs.Elements.{Element}

-- elements, and how many more there is room for
pub record Kept : Type 0 where
  pub elements : List Element
  pub spare : ℕ
