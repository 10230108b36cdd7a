-- The payload of a footer as it is written (RNTuple Binary Format Specification 1.0.0.0, section Footer Envelope).
use Rattle.std.specs.Prelude.{ℕ, ◌==◌, ◌&&◌, List, [], ◌++◌, length, flat_map, if◌then◌else◌}
use Rattle.std.specs.Int.{w32, w64, to_le_bytes}
use Rattle.nt_format.specs.Frames.{record_frame, list_frame}
use Rattle.nt_format.specs.Locators.{link}
use Rattle.nt_grammar.specs.Table.{Table}
use Rattle.nt_grammar.specs.Writing.{description, part_fields, part_columns}
use Rattle.nt_grammar.specs.declared.part.Part.TheVariants.{Extension}
use Rattle.nt_pagelists.specs.declared.group.Group.{Group}

-- a group
abbrev pub group_text : Group → List ℕ
group_text g = record_frame (to_le_bytes w64 g.first ++ (to_le_bytes w64 g.span ++ (to_le_bytes w32 g.clusters ++ link g.link)))

-- groups, one after the other
abbrev pub group_texts : List Group → List ℕ
group_texts gs = flat_map group_text gs

-- what is in the frame of the extension: the rows that don't stand in the header, or nothing where there are none
unfoldable pub extension_text : Table → List ℕ
extension_text t =
    if (length (part_fields Extension t) == 0) && (length (part_columns Extension t) == 0) then []
    else description (part_fields Extension t) (part_columns Extension t)

-- a footer: no flags, the checksum of the header, the frame of the extension, and the groups
unfoldable pub footer_text : ℕ → Table → List Group → List ℕ
footer_text sum t gs =
    to_le_bytes w64 0 ++ (to_le_bytes w64 sum ++ (record_frame (extension_text t) ++ list_frame (length gs) (group_texts gs)))
