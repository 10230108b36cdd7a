-- Footers read from bytes (RNTuple Binary Format Specification 1.0.0.0, section Footer Envelope).
use Rattle.std.specs.Prelude.{ℕ, ◌==◌, List, length, if◌then◌else◌, Result, Ok, Err}
use Rattle.std.specs.Int.{w64}
use Rattle.nt_num.specs.Place.{At}
use Rattle.nt_num.specs.Cursor.{little}
use Rattle.nt_num.specs.Codes.{bad_flags}
use Rattle.nt_num.specs.Faults.{fault, with_values}
use Rattle.nt_num.specs.declared.fault.ReadError.{ReadError}
use Rattle.nt_lists.specs.Chaining.{◌>>=◌}
use Rattle.nt_format.specs.Reading.{placed}
use Rattle.nt_format.specs.Frames.{record_at}
use Rattle.nt_grammar.specs.Table.{Table}
use Rattle.nt_grammar.specs.Reading.{description_at}
use Rattle.nt_grammar.specs.declared.part.Part.TheVariants.{Extension}
use Rattle.nt_pagelists.specs.declared.group.Group.{Group}
use Rattle.nt_pagelists.specs.PageLists.{header_sum_at}
use Rattle.nt_pagelists.specs.ClusterGroups.{groups_at}

-- the feature flags, of which none is known
unfoldable pub feature_flags_at : At → Result (ℕ × At) ReadError
feature_flags_at here = do
  word ← placed (little w64 here)
  if word.0 == 0 then Ok word else Err (with_values 0 word.0 (fault bad_flags here.place))

-- the table with the rows of an extension, whose record frame begins here; an empty frame has none
unfoldable pub extension_at : Table → At → Result (Table × At) ReadError
extension_at t here = do
  frame ← placed (record_at here)
  more ← (if length frame.0.left == 0 then Ok (t, frame.0) else description_at Extension t frame.0)
  Ok (more.0, frame.1)

-- the footer whose payload begins here, of a file with this header's checksum and table
unfoldable pub footer_at : ℕ → Table → At → Result (Table × List Group) ReadError
footer_at sum t here = do
  flags ← feature_flags_at here
  word ← header_sum_at sum flags.1
  more ← extension_at t word.1
  gs ← groups_at more.1
  Ok (more.0, gs.0)
