-- What a line says of its field.
use Rattle.std.proofs.Common.{◌≡◌, ℕ, List, Result, Ok, Err}
use Rattle.nt_types.specs.ShapeData.{MemberData}
use Rattle.nt_types.specs.Lines.{member_of}
use Rattle.nt_types.specs.LineSpelling.{IsMember}
use Rattle.nt_types.specs.Schema.{at_result}
use Rattle.nt_types.specs.declared.fault.SchemaKind.{SchemaKind}
use Rattle.nt_types.proofs.MemberText.{member_text-is}

without_line : (r : Result MemberData SchemaKind) (m : MemberData) → at_result 0 r ≡ Ok m → r ≡ Ok m
without_line (Ok x) m is = cc
without_line (Err k) m is = cc

-- the member that a line spells is read
pub member_of-spelled : (line : List ℕ) (m : MemberData) → IsMember line m → member_of line ≡ Ok m
member_of-spelled line m is = without_line (member_of line) m (member_text-is line m is)
