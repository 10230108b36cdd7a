-- The payload of a header (RNTuple Binary Format Specification 1.0.0.0, section Header Envelope).
use Rattle.std.specs.Prelude.{ℕ, List, [], ◌++◌, codes, Result, Ok}
use Rattle.std.specs.Int.{w64, to_le_bytes}
use Rattle.nt_num.specs.Place.{At}
use Rattle.nt_num.specs.declared.fault.ReadError.{ReadError}
use Rattle.nt_lists.specs.Chaining.{◌>>=◌}
use Rattle.nt_format.specs.Reading.{placed}
use Rattle.nt_format.specs.Strings.{string, string_at}
use Rattle.nt_grammar.specs.Table.{Table, no_rows}
use Rattle.nt_grammar.specs.Reading.{description_at}
use Rattle.nt_grammar.specs.Writing.{description, part_fields, part_columns}
use Rattle.nt_grammar.specs.declared.part.Part.TheVariants.{Header}
use Rattle.nt_pagelists.specs.Footers.{feature_flags_at}

-- the header whose payload begins here: no feature flag, the names of the ntuple, of what describes it and of what wrote it, and the schema
unfoldable pub header_payload_at : At → Result Table ReadError
header_payload_at here = do
  flags ← feature_flags_at here
  name ← placed (string_at flags.1)
  text ← placed (string_at name.1)
  writer ← placed (string_at text.1)
  described ← description_at Header no_rows writer.1
  Ok described.0

-- the names that are written: of the ntuple, and of what wrote it (own profile)
abbrev pub ntuple_name : List ℕ
ntuple_name = codes "events"

-- the writer
abbrev pub writer_name : List ℕ
writer_name = codes "ntuple_tool 1"

-- the payload of a header as it is written: no flags, the names, no description of the ntuple, and the rows of the header
unfoldable pub header_text : Table → List ℕ
header_text t =
    to_le_bytes w64 0
    ++ (string ntuple_name ++ (string [] ++ (string writer_name ++ description (part_fields Header t) (part_columns Header t))))
