-- What is said of the fields of a schema, as entries are: a list of trees for each.
use Rattle.std.specs.Prelude.{ℕ, pos, Bool, false, List, [], ◌∷◌, ◌++◌, length, map, is_some, slice_index_or, ◌==◌, if◌then◌else◌}
use Rattle.nt_types.specs.TreeData.{TreeData, TreesData, num, text, items, flag, trees_of}
use Rattle.nt_grammar.specs.declared.rows.FieldRow.{FieldRow}
use Rattle.nt_grammar.specs.declared.rows.ColumnRow.{ColumnRow}
use Rattle.nt_grammar.specs.Table.{Table}
use Rattle.nt_grammar.specs.Open.{columns_of_field, open_shape}

-- whether a field lies in an open one at the top level, where that is known of those before it: one inside as its parent does, one at the
-- top level where it is open itself
abbrev pub is_open_field : Table → List Bool → FieldRow → Bool
is_open_field t known r =
    if r.parent == length known then is_some (open_shape t (length known)) else slice_index_or known r.parent false

-- the code of a column
abbrev pub code_tree : ColumnRow → TreeData
code_tree c = num (pos c.code)

-- what is said of a field: its id, its parent's, its name, the name of its type, its role, the codes of its columns, and whether it lies
-- in an open one
abbrev pub field_told : Table → ℕ → FieldRow → Bool → TreesData
field_told t id r is_open =
    trees_of (num (pos id) ∷ num (pos r.parent) ∷ text r.name ∷ text r.type_name ∷ num (pos r.role)
    ∷ items (trees_of (map code_tree (columns_of_field id t.columns))) ∷ flag is_open ∷ [])

-- the same of fields that stand behind those of which it is known whether they are open
abbrev pub fields_from : Table → List Bool → List FieldRow → List TreesData
fields_from t known [] = []
fields_from t known (r ∷ rs) =
    field_told t (length known) r (is_open_field t known r) ∷ fields_from t (known ++ is_open_field t known r ∷ []) rs

-- the same of all fields, in the order of their ids
abbrev pub fields_told : Table → List TreesData
fields_told t = fields_from t [] t.fields
