-- Fields that are added to a schema.
use Rattle.std.specs.Prelude.{ℕ, ◌≡◌, ◌+◌, ◌⊎◌, Bool, length, Option, Some, None, Result, Ok, Err, is_some, nat_lt, if◌then◌else◌}
use Rattle.nt_types.specs.ShapeData.{MemberData}
use Rattle.nt_types.specs.Limits.{max_fields}
use Rattle.nt_types.specs.Schema.{field_count}
use Rattle.nt_grammar.specs.Table.{Table, IsFew, no_rows}
use Rattle.nt_grammar.specs.Added.{Added}
use Rattle.nt_schema.specs.ByName.{find_from}
use Rattle.nt_schema.specs.declared.extend_error.ExtendError.{ExtendError}
use Rattle.nt_schema.specs.declared.extend_error.ExtendError.TheVariants.{Repeated, TooMany, Memory}

-- why a field can't be added: one at the top level has its name, or there would be too many
abbrev pub refused : Table → MemberData → Option ExtendError
refused t field =
    if is_some (find_from 0 t.fields field.name) then Some Repeated
    else if nat_lt max_fields (length t.fields + field_count field.of) then Some TooMany
    else None

-- what is left of a schema to which a field is added behind so many entries
abbrev pub Extends : Table → MemberData → Bool → ℕ → Result Unit ExtendError → Table → Type 0
Extends t field plain entries (Ok _) new = (refused t field ≡ None) × Added t field plain entries new × IsFew new
Extends t field plain entries (Err Repeated) new = (refused t field ≡ Some Repeated) × (new ≡ t)
Extends t field plain entries (Err TooMany) new = (refused t field ≡ Some TooMany) × (new ≡ t)
Extends t field plain entries (Err Memory) new = (refused t field ≡ None) × ((new ≡ t) ⊎ (new ≡ no_rows))
