-- What the reading of a schema text answers, and what is asked for before it is read.
use Rattle.std.specs.Prelude.{⊤, ◌≡◌, List, [], ◌∷◌, ℕ, Option, Some, Result, Ok, Err, IsOk}
use Rattle.nt_types.specs.Schema.{schema_text, at_line}
use Rattle.nt_types.specs.Views.{members_view}
use Rattle.nt_types.specs.declared.shape.Members.{Members}
use Rattle.nt_store.specs.declared.error.StoreError.{StoreError}
use Rattle.nt_store.specs.declared.error.StoreError.TheVariants.{Outside, Memory, Schema, Line, Limit}
use Rattle.nt_outside.specs.World.{World, Text, HostState, file}
use Rattle.nt_store.specs.Worlds.{IsThereWith, AsksFirst}

-- by the bytes of the text: its fields, or its first fault
abbrev pub TellsFields : List ℕ → Result Members StoreError → Type 0
TellsFields text (Ok fields) = schema_text text ≡ Ok (members_view fields)
TellsFields text (Err (Schema line kind)) = schema_text text ≡ Err (at_line line kind)
TellsFields text (Err Memory) = ⊤
TellsFields text (Err Outside) = ⊥
TellsFields text (Err (Line input line kind)) = ⊥
TellsFields text (Err (Limit reached limit)) = ⊥

-- the same of a text that may not be there
abbrev pub TellsSchema : Option (List ℕ) → Result Members StoreError → Type 0
TellsSchema text (Ok fields) = IsThereWith (λ t. schema_text t ≡ Ok (members_view fields)) text
TellsSchema text (Err (Schema line kind)) = IsThereWith (λ t. schema_text t ≡ Err (at_line line kind)) text
TellsSchema text (Err Memory) = ⊤
TellsSchema text (Err Outside) = ⊤
TellsSchema text (Err (Line input line kind)) = ⊥
TellsSchema text (Err (Limit reached limit)) = ⊥

-- where a host tells no text of this name that is a schema, nothing but this text was asked for
abbrev pub AsksSchemaFirst : List ℕ → HostState → HostState → Type 0
AsksSchemaFirst schema old new =
    (w : World) → old.world ≡ Some w → (IsThereWith (λ text. IsOk (schema_text text)) (file w schema) → ⊥)
    → AsksFirst (Text schema ∷ []) old.asked new.asked
