-- Elements that are written behind the first ones.
use Rattle.std.specs.Prelude.{ℕ, ◌≡◌, ◌+◌, ◌≤◌, ◌++◌, List, length, take}
use Rattle.nt_column.specs.Elements.{Element}

-- behind the first elements stand those of a page of so many, and no more room was taken than for these
pub record HasPageBehind (filled count : ℕ) (page old now : List Element) (old_spare spare : ℕ) : Type 0 where
  pub elements : take (filled + count) now ≡ take filled old ++ page
  pub reached : filled + count ≤ length now
  pub few : length now ≤ length old + count
  pub room : old_spare ≤ spare + count

-- the first elements are the same
pub record KeepsFirst (filled : ℕ) (old now : List Element) : Type 0 where
  pub elements : take filled now ≡ take filled old
  pub reached : filled ≤ length now
