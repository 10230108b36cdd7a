-- The leaves of a schema, field by field.
use Rattle.std.proofs.Common.{◌≡◌, ℕ, zero, suc, ◌+◌, ◌<◌, ◌≤◌, Bool, true, false, cond, List, [], ◌∷◌, ◌++◌, map, length, drop}
use Rattle.std.proofs.Common.{get_or, slice_get, Option, Some, None, refl, sym, ap, subst, ◌∙◌, arith, add-one}
use Rattle.std.specs.Prelude.{◌==◌, option_and_then, IsSome}
use Rattle.std.specs.List.{All}
use Rattle.std.proofs.lemmas.List.{append-nil, append_assoc, drop_all}
use Rattle.std.proofs.lemmas.List.Elements.{All-nil, All-cons, All-head, All-tail, All-get_or}
use Rattle.std.proofs.lemmas.Option.{slice_get-get_or, get_or_from_slice_get, slice_get_within}
use Rattle.std.proofs.Math.Seq.{drop-cons}
use Rattle.nt_types.specs.declared.column_type.ColumnType.{ColumnType}
use Rattle.nt_grammar.specs.Table.{Table}
use Rattle.nt_grammar.specs.Codes.{leaf_role}
use Rattle.nt_grammar.specs.declared.rows.FieldRow.{FieldRow}
use Rattle.nt_grammar.specs.declared.rows.ColumnRow.{ColumnRow}
use Rattle.nt_plans.specs.Plan.{has_any}
use Rattle.nt_plans.specs.Place.{column_ids, open_plans}
use Rattle.nt_file_meaning.specs.Clusters.{kind_of_code}
use Rattle.nt_total.specs.Totals.{is_integral}
use Rattle.nt_scan.specs.declared.leaf.Leaf.{Leaf}
use Rattle.nt_scan.specs.Leaves.{integral_kind, number_kind, IsNumberColumn, leaf_of_kind, leaf_of_columns, leaf_of_row}
use Rattle.nt_scan.specs.Leaves.{with_leaf, leaves_from, leaves_of, leaf_columns}

-- the fields from one on
fields-at : (rows : List FieldRow) (id : ℕ) (row : FieldRow) → slice_get rows id ≡ Some row → drop id rows ≡ row ∷ drop (id + 1) rows
fields-at rows id row is =
    let more : suc id ≡ id + 1 = omega arith in
    drop-cons rows id row (slice_get_within rows id row is)
    ∙ ap (λ (r : FieldRow). r ∷ drop (suc id) rows) (get_or_from_slice_get rows id row row is)
    ∙ ap (λ j. row ∷ drop j rows) more

-- a field that is there
row-of : (rows : List FieldRow) (id : ℕ) → id < length rows → (row : FieldRow) × (slice_get rows id ≡ Some row)
row-of [] id lt = absurd (omega (arith, lt))
row-of (r ∷ rows) zero lt = (r, refl)
row-of (r ∷ rows) (suc id) lt = row-of rows id (omega (arith, lt))

-- one field more, which is a leaf
leaf-next : (t : Table) (id : ℕ) (row : FieldRow) (leaf : Leaf) (leaves more : List Leaf) → slice_get t.fields id ≡ Some row
    → leaf_of_row t id row ≡ Some leaf → more ≡ leaves ++ leaf ∷ []
    → leaves_of t ≡ leaves ++ leaves_from t id (drop id t.fields)
    → leaves_of t ≡ more ++ leaves_from t (id + 1) (drop (id + 1) t.fields)
leaf-next t id row leaf leaves more is found pushed so_far =
    let rest = leaves_from t (id + 1) (drop (id + 1) t.fields) in
    so_far
    ∙ ap (λ l. leaves ++ leaves_from t id l) (fields-at t.fields id row is)
    ∙ ap (λ o. leaves ++ with_leaf o rest) found
    ∙ sym (append_assoc leaves (leaf ∷ []) rest)
    ∙ ap (λ l. l ++ rest) (sym pushed)

-- one that is none
leaf-past : (t : Table) (id : ℕ) (row : FieldRow) (leaves : List Leaf) → slice_get t.fields id ≡ Some row
    → leaf_of_row t id row ≡ None
    → leaves_of t ≡ leaves ++ leaves_from t id (drop id t.fields)
    → leaves_of t ≡ leaves ++ leaves_from t (id + 1) (drop (id + 1) t.fields)
leaf-past t id row leaves is none so_far =
    let rest = leaves_from t (id + 1) (drop (id + 1) t.fields) in
    so_far
    ∙ ap (λ l. leaves ++ leaves_from t id l) (fields-at t.fields id row is)
    ∙ ap (λ o. leaves ++ with_leaf o rest) none

pub leaf-more : (t : Table) (id : ℕ) (leaf : Leaf) (leaves more : List Leaf) → id < length t.fields
    → ((row : FieldRow) → slice_get t.fields id ≡ Some row → Some leaf ≡ leaf_of_row t id row) → more ≡ leaves ++ leaf ∷ []
    → leaves_of t ≡ leaves ++ leaves_from t id (drop id t.fields)
    → leaves_of t ≡ more ++ leaves_from t (id + 1) (drop (id + 1) t.fields)
leaf-more t id leaf leaves more lt h pushed so_far =
    let r = row-of t.fields id lt in
    leaf-next t id r.0 leaf leaves more r.1 (sym (h r.0 r.1)) pushed so_far

pub leaf-none : (t : Table) (id : ℕ) (leaves : List Leaf) → id < length t.fields
    → ((row : FieldRow) → slice_get t.fields id ≡ Some row → None ≡ leaf_of_row t id row)
    → leaves_of t ≡ leaves ++ leaves_from t id (drop id t.fields)
    → leaves_of t ≡ leaves ++ leaves_from t (id + 1) (drop (id + 1) t.fields)
leaf-none t id leaves lt h so_far =
    let r = row-of t.fields id lt in
    leaf-past t id r.0 leaves r.1 (sym (h r.0 r.1)) so_far

pub leaves-all : (t : Table) (id : ℕ) (leaves : List Leaf) → length t.fields ≤ id
    → leaves_of t ≡ leaves ++ leaves_from t id (drop id t.fields) → leaves ≡ leaves_of t
leaves-all t id leaves past so_far =
    sym (so_far ∙ ap (λ l. leaves ++ leaves_from t id l) (drop_all id t.fields past) ∙ append-nil leaves)

-- a leaf has a field and a column of numbers
pub record IsLeafIn (t : Table) (limit : ℕ) (l : Leaf) : Type 0 where
  pub field : l.field < limit
  pub column : IsNumberColumn t l.column

leaf-in : (t : Table) (limit id : ℕ) (o : Option Leaf) (ls : List Leaf) → ((l : Leaf) → o ≡ Some l → IsLeafIn t limit l)
    → All (IsLeafIn t limit) ls → All (IsLeafIn t limit) (with_leaf o ls)
leaf-in t limit id None ls one rest = rest
leaf-in t limit id (Some l) ls one rest = All-cons (IsLeafIn t limit) l ls (one l refl) rest

kind-in : (t : Table) (limit id c : ℕ) (o : Option ColumnType) (l : Leaf) → id < limit → number_kind t c ≡ o
    → leaf_of_kind id c o ≡ Some l → IsLeafIn t limit l
kind-in t limit id c None l lt is found = absurd cc
kind-in t limit id c (Some kind) l lt is found =
    let here : record { field = id; column = c } ≡ l = some-is _ _ found in
    subst (IsLeafIn t limit) here (record { field = lt; column = subst (λ (o : Option ColumnType). IsSome o) (sym is) refl })
  where
    some-is : (a b : Leaf) → Some a ≡ Some b → a ≡ b
    some-is a b e = cc

open-in : (t : Table) (limit id c : ℕ) (b : Bool) (l : Leaf) → id < limit
    → cond b (leaf_of_kind id c (number_kind t c)) None ≡ Some l → IsLeafIn t limit l
open-in t limit id c true l lt found = kind-in t limit id c (number_kind t c) l lt refl found
open-in t limit id c false l lt found = absurd cc

columns-in : (t : Table) (limit id : ℕ) (cs : List ℕ) (l : Leaf) → id < limit → leaf_of_columns t id cs ≡ Some l → IsLeafIn t limit l
columns-in t limit id [] l lt found = absurd cc
columns-in t limit id (c ∷ []) l lt found = open-in t limit id c (has_any (open_plans t) c) l lt found
columns-in t limit id (c ∷ d ∷ cs) l lt found = absurd cc

row-in : (t : Table) (limit id : ℕ) (b : Bool) (l : Leaf) → id < limit
    → cond b (leaf_of_columns t id (column_ids id 0 t.columns)) None ≡ Some l → IsLeafIn t limit l
row-in t limit id true l lt found = columns-in t limit id (column_ids id 0 t.columns) l lt found
row-in t limit id false l lt found = absurd cc

from-in : (t : Table) (limit id : ℕ) (rows : List FieldRow) → id + length rows ≤ limit → All (IsLeafIn t limit) (leaves_from t id rows)
from-in t limit id [] le = All-nil (IsLeafIn t limit)
from-in t limit id (r ∷ rs) le =
    leaf-in t limit id (leaf_of_row t id r) (leaves_from t (id + 1) rs)
    (λ l found. row-in t limit id (r.role == leaf_role) l (omega (arith, le)) found)
    (from-in t limit (id + 1) rs (omega (arith, le)))

-- each leaf of a schema is one
pub leaves-in : (t : Table) → All (IsLeafIn t (length t.fields)) (leaves_of t)
leaves-in t = from-in t (length t.fields) 0 t.fields (omega arith)

-- the columns of leaves are columns of numbers
pub columns-numbers : (t : Table) (ls : List Leaf) → All (IsLeafIn t (length t.fields)) ls → All (λ c. IsNumberColumn t c) (leaf_columns ls)
columns-numbers t [] all = All-nil (λ c. IsNumberColumn t c)
columns-numbers t (l ∷ ls) all =
    All-cons (λ c. IsNumberColumn t c) l.column (leaf_columns ls) (All-head (IsLeafIn t (length t.fields)) l ls all).column
    (columns-numbers t ls (All-tail (IsLeafIn t (length t.fields)) l ls all))

-- the field of a leaf is there
pub leaf-field : (t : Table) (leaves : List Leaf) (i : ℕ) (d : Leaf) → leaves ≡ leaves_of t → i < length leaves
    → (get_or leaves i d).field < length t.fields
leaf-field t leaves i d is lt =
    (All-get_or (IsLeafIn t (length t.fields)) leaves i d lt (subst (All (IsLeafIn t (length t.fields))) (sym is) (leaves-in t))).field
