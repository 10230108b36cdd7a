-- What the readers of schema texts answer, of a line and of a whole text.
use Rattle.std.specs.Prelude.{ℕ, ◌≡◌, List, Result, Ok, Err}
use Rattle.nt_types.specs.Views.{member_view, members_view}
use Rattle.nt_types.specs.LineSpelling.{IsMember, HasFault}
use Rattle.nt_types.specs.TextSpelling.{IsSchema, IsRefused}
use Rattle.nt_types.specs.declared.fault.SchemaError.{SchemaError}
use Rattle.nt_types.specs.declared.fault.SchemaError.TheVariants.{Fault, Memory}
use Rattle.nt_types.specs.declared.shape.Member.{Member}
use Rattle.nt_types.specs.declared.shape.Members.{Members}

-- the member that a line spells, or what is wrong with it, at line 0
abbrev pub TellsLine : List ℕ → Result Member SchemaError → Type 0
TellsLine line (Ok m) = IsMember line (member_view m)
TellsLine line (Err (Fault f)) = (f.line ≡ 0) × HasFault line f.kind
TellsLine line (Err Memory) = Unit {0}

-- the fields that a text spells, or its first fault
abbrev pub TellsText : List ℕ → Result Members SchemaError → Type 0
TellsText text (Ok fields) = IsSchema text (members_view fields)
TellsText text (Err (Fault f)) = IsRefused text f.line f.kind
TellsText text (Err Memory) = Unit {0}
