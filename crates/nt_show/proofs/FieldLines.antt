-- The columns of a field by their ids, and the fields of a schema one by one.
use Rattle.std.proofs.Common.{◌≡◌, ◌∙◌, ap, ap₂, sym, refl, subst, ℕ, zero, suc, ◌+◌, ◌<◌, ◌≤◌, ◌==◌, Bool, true, false, cond, List, []}
use Rattle.std.proofs.Common.{◌∷◌, ◌++◌, map, length, take, drop, get_or, Option, Some, arith, append_assoc, length-append}
use Rattle.std.specs.Prelude.{slice_index_or, slice_get}
use Rattle.std.proofs.lemmas.List.{append-nil, get_or_at, drop_all, map_push, map_more, take_all}
use Rattle.nt_types.specs.declared.tree.Tree.{Tree}
use Rattle.nt_types.specs.TreeViews.{tree_view}
use Rattle.std.proofs.lemmas.List.Concat.{flat_map-append}
use Rattle.nt_types.specs.TreeData.{TreeData, TreesData}
use Rattle.nt_event.specs.Json.{line_of}
use Rattle.nt_grammar.specs.declared.rows.FieldRow.{FieldRow}
use Rattle.nt_grammar.specs.declared.rows.ColumnRow.{ColumnRow}
use Rattle.nt_grammar.specs.Table.{Table}
use Rattle.nt_grammar.specs.Open.{columns_of_field}
use Rattle.nt_plans.specs.Place.{column_ids}
use Rattle.nt_show.specs.Ranges.{entry_lines}
use Rattle.nt_show.specs.Fields.{code_tree, is_open_field, field_told, fields_from, fields_told}
use Rattle.nt_outside.specs.World.{World}
use Rattle.nt_show.specs.Gathering.{PrintsSome, GathersPart}
use Rattle.nt_show.proofs.Gathering.{gathers_then, part_then, part_more}

-- no column
abbrev pub no_row : ColumnRow
no_row = record { code = 0; bits = 0; field = 0; flags = 0; representation = 0; first = 0 }

-- the code of the column with this id
abbrev pub code_at : List ColumnRow → ℕ → TreeData
code_at cs id = code_tree (slice_index_or cs id no_row)

codes_by : (b : Bool) (all cs : List ColumnRow) (c : ColumnRow) (n : ℕ) (others : List ℕ) → slice_index_or all n no_row ≡ c
    → map (code_at all) others ≡ map code_tree cs
    → map (code_at all) (cond b (n ∷ []) [] ++ others) ≡ map code_tree (cond b (c ∷ cs) cs)
codes_by true all cs c n others is rest =
    ap (λ (d : ColumnRow). code_tree d ∷ map (code_at all) others) is ∙ ap (λ (l : List TreeData). code_tree c ∷ l) rest
codes_by false all cs c n others is rest = rest

codes_from : (field n : ℕ) (before cs : List ColumnRow) → length before ≡ n
    → map (code_at (before ++ cs)) (column_ids field n cs) ≡ map code_tree (columns_of_field field cs)
codes_from field n before [] is = refl
codes_from field n before (c ∷ cs) is =
    let rest = codes_from field (n + 1) (before ++ c ∷ []) cs (length-append before (c ∷ []) ∙ omega (arith, is)) in
    codes_by (c.field == field) (before ++ c ∷ cs) (columns_of_field field cs) c n (column_ids field (n + 1) cs)
    (get_or_at before c cs no_row n is)
    (subst (λ (l : List ColumnRow). map (code_at l) (column_ids field (n + 1) cs) ≡ map code_tree (columns_of_field field cs))
    (append_assoc before (c ∷ []) cs) rest)

-- the codes of the columns with the ids of a field are those of its columns
pub codes_of_ids : (field : ℕ) (cs : List ColumnRow)
    → map (code_at cs) (column_ids field 0 cs) ≡ map code_tree (columns_of_field field cs)
codes_of_ids field cs = codes_from field 0 [] cs refl

id_by : (b : Bool) (n limit : ℕ) (others : List ℕ) → n < limit → ((i d : ℕ) → i < length others → get_or others i d < limit) → (i d : ℕ)
    → i < length (cond b (n ∷ []) [] ++ others) → get_or (cond b (n ∷ []) [] ++ others) i d < limit
id_by true n limit others low rest zero d some = low
id_by true n limit others low rest (suc i) d some = rest i d (omega arith)
id_by false n limit others low rest i d some = rest i d some

ids_below_from : (field n limit : ℕ) (cs : List ColumnRow) → n + length cs ≤ limit → (i d : ℕ) → i < length (column_ids field n cs)
    → get_or (column_ids field n cs) i d < limit
ids_below_from field n limit [] low i d some = absurd (omega arith)
ids_below_from field n limit (c ∷ cs) low i d some =
    id_by (c.field == field) n limit (column_ids field (n + 1) cs) (omega arith) (ids_below_from field (n + 1) limit cs (omega arith)) i
    d some

-- the ids of the columns of a field are those of columns
pub ids_below : (field : ℕ) (cs : List ColumnRow) (i d : ℕ) → i < length (column_ids field 0 cs)
    → get_or (column_ids field 0 cs) i d < length cs
ids_below field cs i d some = ids_below_from field 0 (length cs) cs (omega arith) i d some

row_there : (cs : List ColumnRow) (k : ℕ) (c : ColumnRow) → slice_get cs k ≡ Some c → slice_index_or cs k no_row ≡ c
row_there [] k c is = absurd (cc)
row_there (x ∷ cs) zero c is = cc
row_there (x ∷ cs) (suc k) c is = row_there cs k c is

-- the code of the column that stands there
pub code_there : (cs : List ColumnRow) (k : ℕ) (c : ColumnRow) → slice_get cs k ≡ Some c → code_at cs k ≡ code_tree c
code_there cs k c is = ap code_tree (row_there cs k c is)

field_at : (rs : List FieldRow) (k : ℕ) (r : FieldRow) → slice_get rs k ≡ Some r → drop k rs ≡ r ∷ drop (k + 1) rs
field_at [] k r is = absurd (cc)
field_at (x ∷ rs) zero r is = ap (λ (y : FieldRow). y ∷ rs) (cc)
field_at (x ∷ rs) (suc k) r is =
    let next : suc k + 1 ≡ suc (k + 1) = omega arith in
    rw next (field_at rs k r is)

-- fields that were shown, and those behind them
pub one_more_field : (t : Table) (known : List Bool) (shown : List TreesData) (k : ℕ) (r : FieldRow) (is_open : Bool) (told : TreesData)
    → length known ≡ k → slice_get t.fields k ≡ Some r → is_open ≡ is_open_field t known r
    → told ≡ field_told t k r is_open → fields_told t ≡ shown ++ fields_from t known (drop k t.fields)
    → fields_told t ≡ (shown ++ told ∷ []) ++ fields_from t (known ++ is_open ∷ []) (drop (k + 1) t.fields)
one_more_field t known shown k r is_open told count there opened said so-far =
    let here : field_told t (length known) r (is_open_field t known r) ≡ told = ap
    (λ (n : ℕ). field_told t n r (is_open_field t known r)) count ∙ ap (field_told t k r) (sym opened) ∙ sym said in
    so-far
    ∙ ap (λ (l : List FieldRow). shown ++ fields_from t known l) (field_at t.fields k r there)
    ∙ ap (λ (x : TreesData). shown ++ (x ∷ fields_from t (known ++ is_open_field t known r ∷ []) (drop (k + 1) t.fields))) here
    ∙ ap (λ (b : Bool). shown ++ (told ∷ fields_from t (known ++ b ∷ []) (drop (k + 1) t.fields))) (sym opened)
    ∙ sym (append_assoc shown (told ∷ []) (fields_from t (known ++ is_open ∷ []) (drop (k + 1) t.fields)))

-- no field is left
pub all_shown : (t : Table) (known : List Bool) (shown : List TreesData) (k : ℕ) → length t.fields ≤ k
    → fields_told t ≡ shown ++ fields_from t known (drop k t.fields) → fields_told t ≡ shown
all_shown t known shown k past so-far =
    so-far ∙ ap (λ (l : List FieldRow). shown ++ fields_from t known l) (drop_all k t.fields past) ∙ append-nil shown

-- the lines of the fields that were shown, and of others
pub shown_lines : (t : Table) (shown others : List TreesData) → fields_told t ≡ shown ++ others
    → entry_lines (fields_told t) ≡ entry_lines shown ++ entry_lines others
shown_lines t shown others is = ap entry_lines is ∙ flat_map-append (λ entry. line_of entry ++ 10 ∷ []) shown others

-- one more line
pub pushed_lines : (shown : List TreesData) (told : TreesData)
    → entry_lines (shown ++ told ∷ []) ≡ entry_lines shown ++ entry_lines (told ∷ [])
pushed_lines shown told = flat_map-append (λ entry. line_of entry ++ 10 ∷ []) shown (told ∷ [])

-- the code of one more column
pub one_more_code : (cs : List ColumnRow) (ids : List ℕ) (i id : ℕ) (row : ColumnRow) (codes codes' : List Tree) (code : Tree)
    → i < length ids → get_or ids i 0 ≡ id → slice_get cs id ≡ Some row → tree_view code ≡ code_tree row
    → codes' ≡ codes ++ code ∷ [] → map tree_view codes ≡ map (code_at cs) (take i ids)
    → map tree_view codes' ≡ map (code_at cs) (take (i + 1) ids)
one_more_code cs ids i id row codes codes' code low at there is pushed so-far =
    ap (map tree_view) pushed
    ∙ map_push tree_view codes code
    ∙ ap₂ (λ (l : List TreeData) (t : TreeData). l ++ t ∷ []) so-far (is ∙ sym (code_there cs id row there) ∙ ap (code_at cs) (sym at))
    ∙ sym (map_more (code_at cs) ids i 0 low)

-- all codes are those of the field's columns
pub all_codes : (cs : List ColumnRow) (field : ℕ) (ids : List ℕ) (i : ℕ) (codes : List Tree) → ids ≡ column_ids field 0 cs
    → length ids ≤ i → map tree_view codes ≡ map (code_at cs) (take i ids)
    → map tree_view codes ≡ map code_tree (columns_of_field field cs)
all_codes cs field ids i codes are past so-far = so-far ∙ ap (map (code_at cs)) (take_all i ids past ∙ are) ∙ codes_of_ids field cs

-- what was gathered of the fields that were shown is part of all
pub part_shown : (t : Table) (shown others : List TreesData) (old new : Option World) (waiting : List ℕ) → fields_told t ≡ shown ++ others
    → GathersPart (entry_lines shown) old waiting new → GathersPart (entry_lines (fields_told t)) old waiting new
part_shown t shown others old new waiting is part =
    subst (λ (l : List ℕ). GathersPart l old waiting new) (sym (shown_lines t shown others is))
    (part_more (entry_lines shown) (entry_lines others) old new waiting part)

-- one more line, and part of one
pub line_more : (shown : List TreesData) (told : TreesData) (old mid new : Option World) (waiting one two : List ℕ)
    → PrintsSome (entry_lines shown) old waiting mid one → PrintsSome (entry_lines (told ∷ [])) mid one new two
    → PrintsSome (entry_lines (shown ++ told ∷ [])) old waiting new two
line_more shown told old mid new waiting one two first second =
    subst (λ (l : List ℕ). PrintsSome l old waiting new two) (sym (pushed_lines shown told))
    (gathers_then (entry_lines shown) (entry_lines (told ∷ [])) old mid new waiting one two first second)

pub line_part : (shown : List TreesData) (told : TreesData) (old mid new : Option World) (waiting one : List ℕ)
    → PrintsSome (entry_lines shown) old waiting mid one → GathersPart (entry_lines (told ∷ [])) mid one new
    → GathersPart (entry_lines (shown ++ told ∷ [])) old waiting new
line_part shown told old mid new waiting one first second =
    subst (λ (l : List ℕ). GathersPart l old waiting new) (sym (pushed_lines shown told))
    (part_then (entry_lines shown) (entry_lines (told ∷ [])) old mid new waiting one first second)
