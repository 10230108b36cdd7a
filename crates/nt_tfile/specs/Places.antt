-- What a writer fills in.
use Rattle.std.specs.Prelude.{◌≤◌}
use Rattle.nt_container.specs.declared.parts.FileFields.{FileFields}
use Rattle.nt_container.specs.Lengths.{most_place}

-- places of a file that a writer makes
pub record ArePlaces (f : FileFields) : Type 0 where
  pub end : f.end ≤ most_place
  pub keys : f.keys ≤ most_place
  pub free : f.free ≤ most_place
