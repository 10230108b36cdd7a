-- RNTuple Binary Format Specification 1.0.0.0, section Locators and Envelope Links.
use Rattle.std.specs.Prelude.{ℕ, ◌<◌, ◌^◌, List, ◌++◌, nat_le, if◌then◌else◌, Result, Ok, Err}
use Rattle.std.specs.Int.{w32, w64, to_le_bytes}
use Rattle.nt_num.specs.Place.{At}
use Rattle.nt_num.specs.Cursor.{little}
use Rattle.nt_lists.specs.Chaining.{◌>>=◌, refused_as}
use Rattle.nt_format.specs.declared.fault.LocatorFault.{LocatorFault}
use Rattle.nt_format.specs.declared.fault.LocatorFault.TheVariants.{Short, NotSimple}
use Rattle.nt_format.specs.declared.locator.Locator.{Locator}
use Rattle.nt_format.specs.declared.locator.Link.{Link}

-- a simple locator: the size of the block, and its place in the file
abbrev pub locator : Locator → List ℕ
locator l = to_le_bytes w32 l.size ++ to_le_bytes w64 l.place

-- an envelope link: the length of the uncompressed envelope, and a locator
abbrev pub link : Link → List ℕ
link l = to_le_bytes w64 l.length ++ locator l.at

-- the simple locator that begins here; one whose first word has its top bit set is of another type
unfoldable pub locator_at : At → Result (Locator × At) LocatorFault
locator_at here = do
  size ← refused_as Short (little w32 here)
  place ← (if nat_le (2 ^ 31) size.0 then Err (NotSimple size.0) else refused_as Short (little w64 size.1))
  Ok (record { size = size.0; place = place.0 }, place.1)

-- the envelope link that begins here
unfoldable pub link_at : At → Result (Link × At) LocatorFault
link_at here = do
  length ← refused_as Short (little w64 here)
  at ← locator_at length.1
  Ok (record { length = length.0; at = at.0 }, at.1)

-- what a simple locator can say
pub record IsSimple (l : Locator) : Type 0 where
  pub size : l.size < 2 ^ 31
  pub place : l.place < 2 ^ 64

-- what an envelope link can say
pub record IsLink (l : Link) : Type 0 where
  pub length : l.length < 2 ^ 64
  pub at : IsSimple l.at
