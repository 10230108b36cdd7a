-- What the program says on err of each answer, and its exit codes.
use Rattle.std.specs.Prelude.{ℕ, List, [], ◌++◌, Option, Some, None, codes, decimal}
use Rattle.std.specs.Option.{option_map_or}
use Rattle.nt_num.specs.Faults.{name_of}
use Rattle.nt_num.specs.declared.fault.ReadError.{ReadError}
use Rattle.nt_app.specs.declared.status.Status.{Status}
use Rattle.nt_app.specs.declared.status.Status.TheVariants as status
use Rattle.nt_app.specs.declared.status.SchemaPlace.{SchemaPlace}
use Rattle.nt_app.specs.declared.status.SchemaPlace.TheVariants as unmet
use Rattle.nt_app.specs.declared.status.TextFault.{TextFault}
use Rattle.nt_app.specs.declared.status.TextFault.TheVariants.{Schema, Line}
use Rattle.nt_types.specs.declared.fault.SchemaKind.{SchemaKind}
use Rattle.nt_types.specs.declared.fault.SchemaKind.TheVariants as schema
use Rattle.nt_event.specs.declared.fault.TextKind.{TextKind}
use Rattle.nt_event.specs.declared.fault.TextKind.TheVariants as line

-- the exit code of an answer
abbrev pub status_code : Status → ℕ
status_code status.Done = 0
status_code status.Usage = 2
status_code (status.File fault) = 3
status_code (status.FileOf file e) = 3
status_code status.Outside = 4
status_code (status.Limit reached limit) = 5
status_code (status.Text input number kind) = 6
status_code status.Memory = 7
status_code (status.Schema place) = 8

-- the name of a schema text's fault
abbrev pub schema_fault_name : SchemaKind → List ℕ
schema_fault_name schema.TooLong = codes "TooLong"
schema_fault_name schema.BadName = codes "BadName"
schema_fault_name schema.Repeated = codes "Repeated"
schema_fault_name schema.BadType = codes "BadType"
schema_fault_name schema.TooDeep = codes "TooDeep"
schema_fault_name schema.TooMany = codes "TooMany"
schema_fault_name schema.Empty = codes "Empty"

-- the name of a line's fault
abbrev pub line_fault_name : TextKind → List ℕ
line_fault_name line.TooLong = codes "TooLong"
line_fault_name line.NotJson = codes "NotJson"
line_fault_name line.NotArray = codes "NotArray"
line_fault_name line.Count = codes "Count"
line_fault_name line.Misfit = codes "Misfit"

-- the name of a text's fault
abbrev pub fault_name : TextFault → List ℕ
fault_name (Schema kind) = schema_fault_name kind
fault_name (Line kind) = line_fault_name kind

-- which fault a file has, to the end of the line
abbrev pub fault_text : ReadError → List ℕ
fault_text fault =
    codes ": " ++ decimal fault.code ++ codes " " ++ name_of fault.code ++ codes " at " ++ decimal fault.at ++ codes "\n"

-- the first fault of a file
abbrev pub file_message : ReadError → List ℕ
file_message fault = codes "ntuple: file" ++ fault_text fault

-- the first fault of the file of this number
abbrev pub numbered_message : ℕ → ReadError → List ℕ
numbered_message file e = codes "ntuple: file " ++ decimal file ++ fault_text e

-- a limit that is passed
abbrev pub limit_message : ℕ → ℕ → List ℕ
limit_message reached limit = codes "ntuple: limit: " ++ decimal reached ++ codes " over " ++ decimal limit ++ codes "\n"

-- which text a fault is in
abbrev pub text_name : Option ℕ → List ℕ
text_name None = codes "schema"
text_name (Some input) = codes "input " ++ decimal input

-- the first fault of the texts
abbrev pub text_message : Option ℕ → ℕ → TextFault → List ℕ
text_message input number kind =
    codes "ntuple: text: " ++ text_name input ++ codes " line " ++ decimal number ++ codes ": " ++ fault_name kind ++ codes "\n"

-- a row of a file: the number of the file, what is said of the row, and the id of the row, to the end of the line
abbrev pub row_text : ℕ → List ℕ → ℕ → List ℕ
row_text file what id = codes "file " ++ decimal file ++ what ++ decimal id ++ codes "\n"

-- what stands against the field of a name, or against a row of a file
abbrev pub place_text : SchemaPlace → List ℕ
place_text (unmet.UnknownField name) = codes "unknown "
place_text (unmet.Twice name) = codes "twice "
place_text (unmet.NotWritable name) = codes "not writable "
place_text (unmet.NotANumber name) = codes "not a number "
place_text (unmet.Closed file field) = row_text file (codes " closed ") field
place_text (unmet.Deferred file column) = row_text file (codes " deferred ") column
place_text (unmet.Field file id) = row_text file (codes " field ") id
place_text (unmet.Column file id) = row_text file (codes " column ") id

-- that name, if it is the field of a name
abbrev pub name_of_place : SchemaPlace → Option (List ℕ)
name_of_place (unmet.UnknownField name) = Some name
name_of_place (unmet.Twice name) = Some name
name_of_place (unmet.NotWritable name) = Some name
name_of_place (unmet.NotANumber name) = Some name
name_of_place other = None

-- the line of a place; where a name ends it, the line in front of that
abbrev pub place_front : SchemaPlace → List ℕ
place_front place = codes "ntuple: schema: " ++ place_text place

-- the name at the end of a line
abbrev pub name_line : List ℕ → List ℕ
name_line name = name ++ codes "\n"

-- the end of the line of a place: the name, if there is one
abbrev pub place_end : SchemaPlace → List ℕ
place_end place = option_map_or name_line (name_of_place place) []

-- where the schema of a file doesn't meet the words, or the schemas of files can't be those of one
abbrev pub schema_message : SchemaPlace → List ℕ
schema_message place = place_front place ++ place_end place

-- what is printed on err
abbrev pub message_of : Status → List ℕ
message_of status.Done = []
message_of status.Usage = codes "ntuple: usage\n"
message_of (status.File fault) = file_message fault
message_of (status.FileOf file e) = numbered_message file e
message_of status.Outside = codes "ntuple: outside\n"
message_of (status.Limit reached limit) = limit_message reached limit
message_of (status.Text input number kind) = text_message input number kind
message_of status.Memory = codes "ntuple: memory\n"
message_of (status.Schema place) = schema_message place

-- the line of an answer; where it has the name of a field, its front
abbrev pub message_front : Status → List ℕ
message_front (status.Schema place) = place_front place
message_front other = message_of other

-- that name at the end of the line, if it has one
abbrev pub message_end : Status → List ℕ
message_end (status.Schema place) = place_end place
message_end other = []
