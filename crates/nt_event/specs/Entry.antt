-- The entry of a line: a JSON array with one value for each field.
use Rattle.std.specs.Prelude.{⊤, ◌≡◌, ℕ, suc, nat_lt, ◌==◌, List, [], ◌∷◌, length, Option, Some, None, Result, Ok, Err, if◌then◌else◌}
use Rattle.std.specs.Str.{is_utf8}
use Rattle.serde_json.specs.Data.{Data, null, boolean, number, string, array, object, Items}
use Rattle.serde_json.specs.Events.{items_len}
use Rattle.serde_json.specs.Read.{read}
use Rattle.nt_types.specs.ShapeData.{MembersData, no_parts, part}
use Rattle.nt_types.specs.TreeData.{TreeData, TreesData, tree}
use Rattle.nt_event.specs.Limits.{max_line}
use Rattle.nt_event.specs.Line.{parts_read}
use Rattle.nt_event.specs.declared.fault.TextError.{TextError}
use Rattle.nt_event.specs.declared.fault.TextError.TheVariants.{Kind, Memory}
use Rattle.nt_event.specs.declared.fault.TextKind.{TextKind}
use Rattle.nt_event.specs.declared.fault.TextKind.TheVariants.{TooLong, NotJson, NotArray, Count, Misfit}

-- how many there are
abbrev pub parts_len : MembersData → ℕ
parts_len no_parts = 0
parts_len (part n k ps) = suc (parts_len ps)

-- trees for all, or a value that does not fit
abbrev pub or_misfit : Option TreesData → Result TreesData TextKind
or_misfit (Some ts) = Ok ts
or_misfit None = Err Misfit

-- the entry that items are
abbrev pub items_entry : MembersData → Items → Result TreesData TextKind
items_entry F ds = if items_len ds == parts_len F then or_misfit (parts_read F ds) else Err Count

-- the entry that data is
abbrev pub data_entry : MembersData → Data → Result TreesData TextKind
data_entry F null = Err NotArray
data_entry F (boolean b) = Err NotArray
data_entry F (number n) = Err NotArray
data_entry F (string s) = Err NotArray
data_entry F (array ds) = items_entry F ds
data_entry F (object ms) = Err NotArray

-- the entry that the reading of a text is
abbrev pub json_entry : MembersData → Option Data → Result TreesData TextKind
json_entry F None = Err NotJson
json_entry F (Some d) = data_entry F d

-- the entry that a line is, or the first thing that is wrong
abbrev pub entry_of : MembersData → List ℕ → Result TreesData TextKind
entry_of F bytes = if nat_lt max_line (length bytes) then Err TooLong else
    (if is_utf8 bytes then json_entry F (read bytes) else Err NotJson)

-- these trees, and then those
abbrev pub trees_then : List TreeData → TreesData → TreesData
trees_then [] rest = rest
trees_then (v ∷ vs) rest = tree v (trees_then vs rest)

-- what a refusal says of the line; want of memory says nothing
abbrev pub IsFaultOf : Result TreesData TextKind → TextError → Type 0
IsFaultOf r (Kind k) = r ≡ Err k
IsFaultOf r Memory = ⊤
