-- Where all fields are open, no column has a flag but that of a first element.
use Rattle.std.proofs.Common.{◌≡◌, ℕ, zero, suc, ◌+◌, ◌<◌, ◌≤◌, eqb, Bool, true, false, cond, not, ◌&&◌, ◌||◌, List, [], ◌∷◌, ◌++◌}
use Rattle.std.proofs.Common.{map, length, Option, Some, None, refl, sym, ap, subst, ◌∙◌, ◌⊎◌, inl, inr, arith}
use Rattle.std.specs.Prelude.{slice_get, option_map, option_and_then, is_some, codes, find, nat_lt}
use Rattle.std.specs.List.{AllByRecursion, list_all, list_any}
use Rattle.std.specs.Str.{bytes_eq}
use Rattle.std.proofs.lemmas.Bool.{cases_lt, eq-eqb, eqb-true, eqb-false, ne_eqb}
use Rattle.std.proofs.lemmas.Option.{none-some}
use Rattle.nt_lists.proofs.Bools.{and_true, both_true}
use Rattle.nt_lists.proofs.Variants.{some_is}
use Rattle.nt_types.specs.ShapeData.{ShapeData, MemberData, text}
use Rattle.nt_types.specs.Schema.{part_under}
use Rattle.nt_types.specs.ColumnTable.{code_of, bits_of}
use Rattle.nt_types.specs.declared.column_type.ColumnType.{ColumnType}
use Rattle.nt_types.specs.declared.column_type.ColumnType.TheVariants.{Char, Switch}
use Rattle.nt_grammar.specs.declared.rows.FieldRow.{FieldRow}
use Rattle.nt_grammar.specs.declared.rows.ColumnRow.{ColumnRow}
use Rattle.nt_grammar.specs.Codes.{leaf_role, collection_role, record_role, variant_role, most_levels, suppressed}
use Rattle.nt_grammar.specs.Table.{Table}
use Rattle.nt_grammar.specs.Types.{cpp_name}
use Rattle.nt_grammar.specs.ReadingBack.{IsFieldRow, AreFieldRows, IsColumnRow, IsDescribed}
use Rattle.nt_grammar.specs.Open.{ids_inside, columns_of_field, column_fits, one_column, no_column, index_types, text_columns, leaves}
use Rattle.nt_grammar.specs.Open.{leaf_types, leaf_with, leaf_shape, named_leaf, collection_shape, record_shape, choice_shape, flags_fit}
use Rattle.nt_grammar.specs.Open.{is_leaf, shape_by_role, all_some, field_of_row, open_field, top_shape}
use Rattle.nt_grammar.proofs.ReadingDescribed.{columns-of}
use Rattle.nt_schema.specs.Whole.{is_whole_column}
use Rattle.nt_copied.specs.Alike.{all_open, AllOpen}
use Rattle.nt_copied.proofs.Among.{passed-if, then-some, map-some, is-some, Has, has-behind, all_some-each, get-some, get-less}

-- ---- columns that fit

abbrev IsLow : ColumnRow → Type 0
IsLow c = is_whole_column c ≡ true

third-of : (a b c d e : Bool) → (a && b && c && d && e) ≡ true → c ≡ true
third-of true true true d e h = refl
third-of true true false d e h = absurd cc
third-of true false c d e h = absurd cc
third-of false b c d e h = absurd cc

fits-low : (principal : Bool) (types : List ColumnType) (c : ColumnRow) → column_fits principal types c ≡ true → IsLow c
fits-low principal types c e =
    third-of (list_any (λ t. eqb c.code (code_of t) && eqb c.bits (bits_of t)) types) (eqb c.representation 0) (is_whole_column c)
    (nat_lt c.first suppressed) (principal || eqb c.first 0) e

one-low : (principal : Bool) (types : List ColumnType) (cs : List ColumnRow) → one_column principal types cs ≡ true
    → AllByRecursion IsLow cs
one-low principal types [] e = tt
one-low principal types (c ∷ []) e = (fits-low principal types c e, tt)
one-low principal types (c ∷ d ∷ cs) e = absurd cc

text-low : (principal : Bool) (cs : List ColumnRow) → text_columns principal cs ≡ true → AllByRecursion IsLow cs
text-low principal [] e = tt
text-low principal (c ∷ []) e = absurd cc
text-low principal (c ∷ d ∷ []) e =
    let both = and_true (column_fits principal index_types c) (column_fits false (Char ∷ []) d) e in
    (fits-low principal index_types c both.0, (fits-low false (Char ∷ []) d both.1, tt))
text-low principal (c ∷ d ∷ x ∷ cs) e = absurd cc

none-low : (cs : List ColumnRow) → no_column cs ≡ true → AllByRecursion IsLow cs
none-low [] e = tt
none-low (c ∷ cs) e = absurd cc

leaf-low : (principal : Bool) (name : List ℕ) (cs : List ColumnRow) (k : ShapeData) → leaf_shape principal name cs ≡ Some k
    → AllByRecursion IsLow cs
leaf-low principal name cs k = by (bytes_eq name (codes "std::string"))
  where
    by : (b : Bool) → cond b (cond (text_columns principal cs) (Some text) None) (named_leaf leaves principal name cs) ≡ Some k
        → AllByRecursion IsLow cs
    by true e = text-low principal cs (passed-if (text_columns principal cs) (Some text) k e).0
    by false e =
        let found = then-some (leaf_with principal cs) (find (λ x. bytes_eq name (cpp_name x)) leaves) k e in
        one-low principal (leaf_types found.0) cs
        (passed-if (one_column principal (leaf_types found.0) cs) (Some found.0) k found.2).0

-- ---- a field that is open

leaf-nil : (js : List ℕ) → is_leaf js ≡ true → js ≡ []
leaf-nil [] e = refl
leaf-nil (j ∷ js) e = absurd cc

-- its columns are such, and the fields inside it are open
record IsSeen (cs : List ColumnRow) (js : List ℕ) (inside : Bool → Option (List MemberData)) : Type 0 where
  low : AllByRecursion IsLow cs
  below : (js ≡ []) ⊎ ((up : Bool) × (ms : List MemberData) × (inside up ≡ Some ms))

role-seen : (principal : Bool) (r : FieldRow) (cs : List ColumnRow) (js : List ℕ) (inside : Bool → Option (List MemberData)) (k : ShapeData)
    → shape_by_role principal r cs js inside ≡ Some k → IsSeen cs js inside
role-seen principal r cs js inside k =
    by (eqb r.role leaf_role) (eqb r.role collection_role) (eqb r.role record_role) (eqb r.role variant_role)
  where
    by : (a b c d : Bool)
        → cond a (cond (is_leaf js) (leaf_shape principal r.type_name cs) None)
        (cond b (cond (one_column principal index_types cs) (option_and_then (collection_shape r.type_name) (inside false)) None)
        (cond c (cond (no_column cs) (option_and_then record_shape (inside principal)) None)
        (cond d (cond (one_column principal (Switch ∷ []) cs) (option_and_then choice_shape (inside false)) None) None))) ≡ Some k
        → IsSeen cs js inside
    by true b c d e =
        let p = passed-if (is_leaf js) (leaf_shape principal r.type_name cs) k e in
        record { low = leaf-low principal r.type_name cs k p.1; below = inl (leaf-nil js p.0) }
    by false true c d e =
        let p = passed-if (one_column principal index_types cs) (option_and_then (collection_shape r.type_name) (inside false)) k e in
        let m = then-some (collection_shape r.type_name) (inside false) k p.1 in
        record { low = one-low principal index_types cs p.0; below = inr (false, m.0, m.1) }
    by false false true d e =
        let p = passed-if (no_column cs) (option_and_then record_shape (inside principal)) k e in
        let m = then-some record_shape (inside principal) k p.1 in
        record { low = none-low cs p.0; below = inr (principal, m.0, m.1) }
    by false false false true e =
        let p = passed-if (one_column principal (Switch ∷ []) cs) (option_and_then choice_shape (inside false)) k e in
        let m = then-some choice_shape (inside false) k p.1 in
        record { low = one-low principal (Switch ∷ []) cs p.0; below = inr (false, m.0, m.1) }
    by false false false false e = absurd (none-some k e)

-- ---- fields by their ids

row-at : (id : ℕ) (rs : List FieldRow) (k : ℕ) (r : FieldRow) → AreFieldRows id rs → slice_get rs k ≡ Some r → IsFieldRow (id + k) r
row-at id [] k r are e = absurd (none-some r e)
row-at id (q ∷ rs) zero r are e =
    let same : id ≡ id + 0 = omega arith in
    subst (λ (n : ℕ). IsFieldRow n r) same (subst (IsFieldRow id) (some_is q r e) are.0)
row-at id (q ∷ rs) (suc k) r are e =
    let same : suc id + k ≡ id + suc k = omega arith in
    subst (λ (n : ℕ). IsFieldRow n r) same (row-at (suc id) rs k r are.1 e)

inside-has : (parent id : ℕ) (rs : List FieldRow) (k : ℕ) (r : FieldRow) → slice_get rs k ≡ Some r → r.parent ≡ parent
    → (id + k ≡ parent → ⊥) → Has (ids_inside parent id rs) (id + k)
inside-has parent id [] k r e up other = absurd (none-some r e)
inside-has parent id (q ∷ rs) zero r e up other =
    let here : id ≡ id + 0 = omega arith in
    let is : eqb q.parent parent ≡ true = eq-eqb _ _ (ap (λ (x : FieldRow). x.parent) (some_is q r e) ∙ up) in
    let differs : eqb id parent ≡ false = ne_eqb _ _ (λ z. other (sym here ∙ z)) in
    subst (λ (b : Bool). Has (cond b (id ∷ []) [] ++ ids_inside parent (id + 1) rs) (id + 0))
    (sym (ap (λ (b : Bool). b && not (eqb id parent)) is ∙ ap (λ (b : Bool). true && not b) differs)) (inl here)
inside-has parent id (q ∷ rs) (suc k) r e up other =
    let next : id + 1 + k ≡ id + suc k = omega arith in
    has-behind (cond (eqb q.parent parent && not (eqb id parent)) (id ∷ []) []) (ids_inside parent (id + 1) rs) (id + suc k)
    (subst (λ (n : ℕ). Has (ids_inside parent (id + 1) rs) n) next
    (inside-has parent (id + 1) rs k r e up (λ z. other (sym next ∙ z))))

module _ (fs : List FieldRow) (cs : List ColumnRow) where
  top-at : (id : ℕ) (rs : List FieldRow) (k : ℕ) (r : FieldRow) → all_open fs cs id rs ≡ true → slice_get rs k ≡ Some r
      → r.parent ≡ id + k
      → is_some (top_shape fs cs (id + k) r) ≡ true
  top-at id [] k r all e up = absurd (none-some r e)
  top-at id (q ∷ rs) zero r all e up =
      let here : id ≡ id + 0 = omega arith in
      let one = (and_true (not (eqb q.parent id) || is_some (top_shape fs cs id q)) (all_open fs cs (id + 1) rs) all).0 in
      subst (λ (n : ℕ). is_some (top_shape fs cs n r) ≡ true) here
      (subst (λ (x : FieldRow). is_some (top_shape fs cs id x) ≡ true) (some_is q r e)
      (by (eqb q.parent id) (is_some (top_shape fs cs id q)) one
      (eq-eqb _ _ (ap (λ (x : FieldRow). x.parent) (some_is q r e) ∙ (up ∙ sym here)))))
    where
      by : (a b : Bool) → (not a || b) ≡ true → a ≡ true → b ≡ true
      by true b e t = e
      by false b e t = absurd cc
  top-at id (q ∷ rs) (suc k) r all e up =
      let next : id + 1 + k ≡ id + suc k = omega arith in
      subst (λ (n : ℕ). is_some (top_shape fs cs n r) ≡ true) next
      (top-at (id + 1) rs k r (and_true (not (eqb q.parent id) || is_some (top_shape fs cs id q)) (all_open fs cs (id + 1) rs) all).1 e
      (up ∙ sym next))

  -- a field is open, at some depth
  record IsOpened (id : ℕ) : Type 0 where
    depth : ℕ
    up : Bool
    shape : MemberData
    open_is : open_field depth fs cs up id ≡ Some shape

  -- the columns of an open field are such, and what lies in it is open
  record IsSeenWhole (id : ℕ) : Type 0 where
    low : AllByRecursion IsLow (columns_of_field id cs)
    below : (j : ℕ) → Has (ids_inside id 0 fs) j → IsOpened j

  seen : (depth : ℕ) (principal : Bool) (id : ℕ) (m : MemberData) → open_field depth fs cs principal id ≡ Some m → IsSeenWhole id
  unfolding open_field
  seen zero principal id m e = absurd (none-some m e)
  seen (suc depth) principal id m e =
      let at = then-some (field_of_row fs cs (open_field depth fs cs) principal id) (slice_get fs id) m e in
      let r = at.0 in
      let js = ids_inside id 0 fs in
      let inside : Bool → Option (List MemberData) = λ up. all_some (map (open_field depth fs cs up) (ids_inside id 0 fs)) in
      let fits = passed-if (flags_fit r)
      (option_map (part_under r.name) (shape_by_role principal r (columns_of_field id cs) js inside)) m at.2 in
      let shape = map-some (part_under r.name) (shape_by_role principal r (columns_of_field id cs) js inside) m fits.1 in
      let role = role-seen principal r (columns_of_field id cs) js inside shape.0 shape.1 in
      record { low = role.low; below = λ j h. by js role.below j h }
    where
      by : (js : List ℕ)
          → ((js ≡ []) ⊎ ((up : Bool) × (ms : List MemberData) × (all_some (map (open_field depth fs cs up) js) ≡ Some ms)))
          → (j : ℕ) → Has js j → IsOpened j
      by js (inl none) j h = absurd (subst (λ (l : List ℕ). Has l j) none h)
      by js (inr found) j h =
          let m = all_some-each (open_field depth fs cs found.0) js found.1 found.2 j h in
          record { depth = depth; up = found.0; shape = m.0; open_is = m.1 }

  -- each field is open
  opened : AreFieldRows 0 fs → all_open fs cs 0 fs ≡ true → (n id : ℕ) (r : FieldRow) → id < n → slice_get fs id ≡ Some r → IsOpened id
  opened are all zero id r less e = absurd (omega (arith, less))
  opened are all (suc n) id r less e =
      by (eqb r.parent id) refl (row-at 0 fs id r are e) (λ j q low at. opened are all n j q low at)
    where
      by : (b : Bool) → eqb r.parent id ≡ b → IsFieldRow (0 + id) r
          → ((j : ℕ) (q : FieldRow) → j < n → slice_get fs j ≡ Some q → IsOpened j) → IsOpened id
      by true is row below =
          let here : 0 + id ≡ id = omega arith in
          let top : is_some (top_shape fs cs id r) ≡ true =
          subst (λ (k : ℕ). is_some (top_shape fs cs k r) ≡ true) here (top-at 0 fs id r all e (eqb-true _ _ is ∙ sym here)) in
          let shape = is-some (top_shape fs cs id r) top in
          let of : MemberData → ShapeData = λ m. m.of in
          let p = passed-if (eqb r.parent id) (option_map of (open_field most_levels fs cs true id)) shape.0 shape.1 in
          let m = map-some of (open_field most_levels fs cs true id) shape.0 p.1 in
          record { depth = most_levels; up = true; shape = m.0; open_is = m.1 }
      by false is row below =
          by_order (cases_lt r.parent id)
        where
          by_order : (r.parent < id) ⊎ (id ≤ r.parent) → IsOpened id
          by_order (inr high) = absurd (eqb-false _ _ is (omega (arith, row.parent, high)))
          by_order (inl low) =
              let here : 0 + id ≡ id = omega arith in
              let up = get-some fs r.parent (omega (arith, low, get-less fs id r e)) in
              let parent = below r.parent up.0 (omega (arith, low, less)) up.1 in
              (seen parent.depth parent.up r.parent parent.shape parent.open_is).below id
              (subst (Has (ids_inside r.parent 0 fs)) here
              (inside-has r.parent 0 fs id r e refl (λ z. eqb-false _ _ is (omega (arith, z)))))

-- ---- all columns

low-all : (n : ℕ) (cs : List ColumnRow) → AllByRecursion (IsColumnRow n) cs
    → ((f : ℕ) → f < n → AllByRecursion IsLow (columns_of_field f cs)) → list_all is_whole_column cs ≡ true
low-all n [] all h = refl
low-all n (c ∷ cs) all h =
    let one : AllByRecursion IsLow (c ∷ columns_of_field c.field cs) =
    subst (λ (b : Bool). AllByRecursion IsLow (cond b (c ∷ columns_of_field c.field cs) (columns_of_field c.field cs)))
    (eq-eqb c.field c.field refl) (h c.field all.0.field) in
    both_true (is_whole_column c) (list_all is_whole_column cs) one.0
    (low-all n cs all.1 (λ f less. rest (eqb c.field f) (columns_of_field f cs) c (h f less)))
  where
    rest : (b : Bool) (l : List ColumnRow) (c : ColumnRow) → AllByRecursion IsLow (cond b (c ∷ l) l) → AllByRecursion IsLow l
    rest true l c is = is.1
    rest false l c is = is

pub open_columns-low : (t : Table) → IsDescribed t → AllOpen t → list_all is_whole_column t.columns ≡ true
open_columns-low t is all =
    low-all (length t.fields) t.columns (columns-of t is)
    (λ f less. let row = get-some t.fields f less in
    let at = opened t.fields t.columns is.fields all (suc f) f row.0 (omega arith) row.1 in
    (seen t.fields t.columns at.depth at.up f at.shape at.open_is).low)
