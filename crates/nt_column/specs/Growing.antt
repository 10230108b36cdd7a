-- Lists that grow within their capacity.
use Rattle.std.specs.Prelude.{ℕ, ◌≡◌, ◌+◌, ◌≤◌, ◌++◌, List, take}

-- so many items more, in no less capacity
pub record HasGrown (count old_len old_capacity len capacity : ℕ) : Type 0 where
  pub longer : len ≡ old_len + count
  pub within : old_capacity ≤ capacity

-- behind the first values of a list stand so many others, in no less capacity
pub record AreWrittenBehind (filled count : ℕ) (values old now : List ℕ) (old_len old_capacity len capacity : ℕ) : Type 0 where
  pub items : take (filled + count) now ≡ take filled old ++ values
  pub reached : filled + count ≤ len
  pub few : len ≤ old_len + count
  pub within : old_capacity ≤ capacity
