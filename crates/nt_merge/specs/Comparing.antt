-- Whether schemas have the same rows but for what merging doesn't carry over, all of them open and none deferred.
use Rattle.std.specs.Prelude.{ℕ, ◌+◌, Bool, not, ◌==◌, ◌&&◌, length, List, [], ◌∷◌, Option, Some, None, option_map, is_some, if◌then◌else◌}
use Rattle.std.specs.Option.{option_or}
use Rattle.std.specs.Str.{bytes_eq}
use Rattle.nt_grammar.specs.declared.rows.FieldRow.{FieldRow}
use Rattle.nt_grammar.specs.declared.rows.ColumnRow.{ColumnRow}
use Rattle.nt_grammar.specs.Table.{Table}
use Rattle.nt_grammar.specs.Open.{top_shape}
use Rattle.nt_merge.specs.declared.place.SchemaPlace.{SchemaPlace}
use Rattle.nt_merge.specs.declared.place.SchemaPlace.TheVariants.{Closed, Deferred, Field, Column}

-- the lowest field at the top level that isn't open, of fields whose ids go on from this one
abbrev pub closed_from : List FieldRow → List ColumnRow → ℕ → List FieldRow → Option ℕ
closed_from fs cs id [] = None
closed_from fs cs id (r ∷ rs) =
    if (r.parent == id) && not (is_some (top_shape fs cs id r)) then Some id else closed_from fs cs (id + 1) rs

-- that of a schema; 0 where it has no field
abbrev pub first_closed : Table → Option ℕ
first_closed t = if length t.fields == 0 then Some 0 else closed_from t.fields t.columns 0 t.fields

-- the lowest column that doesn't begin with entry 0, of columns whose ids go on from this one
abbrev pub deferred_from : ℕ → List ColumnRow → Option ℕ
deferred_from id [] = None
deferred_from id (c ∷ cs) = if c.first == 0 then deferred_from (id + 1) cs else Some id

-- that of a schema
abbrev pub first_deferred : Table → Option ℕ
first_deferred t = deferred_from 0 t.columns

-- fields of the same parent, role and names
abbrev pub like_field : FieldRow → FieldRow → Bool
like_field r s = (r.parent == s.parent) && ((r.role == s.role) && (bytes_eq r.name s.name && bytes_eq r.type_name s.type_name))

-- columns of the same type, bits and field
abbrev pub like_column : ColumnRow → ColumnRow → Bool
like_column c d = (c.code == d.code) && ((c.bits == d.bits) && (c.field == d.field))

-- the first place where lists have other items, from this place on; where one is longer, the length of the shorter one
abbrev pub unlike_from : {A : Type 0} → (A → A → Bool) → ℕ → List A → List A → Option ℕ
unlike_from like id [] [] = None
unlike_from like id [] (y ∷ ys) = Some id
unlike_from like id (x ∷ xs) [] = Some id
unlike_from like id (x ∷ xs) (y ∷ ys) = if like x y then unlike_from like (id + 1) xs ys else Some id

-- the first row of the file of this number that differs from the first file's: fields before columns
abbrev pub first_unlike : Table → ℕ → Table → Option SchemaPlace
first_unlike s file t =
    option_or (option_map (λ id. Field file id) (unlike_from like_field 0 s.fields t.fields))
    (option_map (λ id. Column file id) (unlike_from like_column 0 s.columns t.columns))

-- the first of the schemas, whose numbers go on from this one, with a closed field
abbrev pub closed_in : ℕ → List Table → Option SchemaPlace
closed_in file [] = None
closed_in file (t ∷ ts) = option_or (option_map (λ id. Closed file id) (first_closed t)) (closed_in (file + 1) ts)

-- with a deferred column
abbrev pub deferred_in : ℕ → List Table → Option SchemaPlace
deferred_in file [] = None
deferred_in file (t ∷ ts) = option_or (option_map (λ id. Deferred file id) (first_deferred t)) (deferred_in (file + 1) ts)

-- with a row unlike that of this schema
abbrev pub unlike_in : Table → ℕ → List Table → Option SchemaPlace
unlike_in s file [] = None
unlike_in s file (t ∷ ts) = option_or (first_unlike s file t) (unlike_in s (file + 1) ts)

-- the first place that stands against merging files of these schemas: all are tried for closed fields, then for deferred columns, then
-- for rows unlike those of the first
abbrev pub schema_error : List Table → Option SchemaPlace
schema_error [] = None
schema_error (t ∷ ts) = option_or (closed_in 0 (t ∷ ts)) (option_or (deferred_in 0 (t ∷ ts)) (unlike_in t 1 ts))
