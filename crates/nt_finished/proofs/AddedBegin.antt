-- A field that is added is left out by the entries before it: each of its principal columns begins behind them.
use Rattle.std.proofs.Common.{◌≡◌, ℕ, suc, ◌+◌, ◌≤◌, ◌==◌, ◌&&◌, ◌⊎◌, inl, inr, Bool, true, false, List, [], ◌∷◌, ◌++◌}
use Rattle.std.proofs.Common.{map, length, drop, get_or, Option, Some, None, slice_get, if◌then◌else◌, refl, sym, ap, ap₂, subst, ◌∙◌}
use Rattle.std.proofs.Common.{add-zero, zero-add, arith}
use Rattle.std.specs.Prelude.{option_map}
use Rattle.std.specs.Option.{option_or}
use Rattle.std.proofs.lemmas.Bool.{eqb-true, false≢true}
use Rattle.std.proofs.lemmas.Option.{slice_get-map}
use Rattle.nt_lists.proofs.Variants.{some_is}
use Rattle.nt_types.specs.ShapeData.{ShapeData, ShapesData, MembersData, MemberData, no_kinds, kind, no_parts, part}
use Rattle.nt_types.specs.ShapeData as kinds
use Rattle.nt_types.specs.declared.column_type.ColumnType.{ColumnType}
use Rattle.nt_types.specs.declared.column_type.ColumnType.TheVariants.{Bit, Byte, Char, Switch}
use Rattle.nt_grammar.specs.declared.rows.ColumnRow.{ColumnRow}
use Rattle.nt_grammar.specs.Table.{Table}
use Rattle.nt_grammar.specs.Columns.{int_type, index_type, column_types}
use Rattle.nt_grammar.specs.Rows.{NodeData, inside, members_in, places_in, all_inside, field_row, column_row, place_name}
use Rattle.nt_grammar.specs.Added.{MarkedData, nodes_of, is_record, late_row, late_rows, first_of, added_rows, Added}
use Rattle.nt_grammar.specs.Open.{ids_inside, columns_of_field}
use Rattle.nt_grammar.specs.AsRead.{as_read, parts_as_read, places_as_read, kinds_as_read}
use Rattle.nt_grammar.specs.ReadingBack.{IsDescribed}
use Rattle.nt_grammar.proofs.FieldsInside.{ids_inside-append}
use Rattle.nt_grammar.proofs.Inside.{before, count_up, cut-inside, ids_inside-is}
use Rattle.nt_grammar.proofs.OpenFields.{slice_get-front, slice_get-behind}
use Rattle.nt_grammar.proofs.Described.{two-columns}
use Rattle.nt_grammar.proofs.Grown.{slice_get-new}
use Rattle.nt_grammar.proofs.ReadingDescribed.{columns-of}
use Rattle.nt_grammar.proofs.AddedMarks.{node-mark, mark-inside}
use Rattle.nt_grammar.proofs.AddedRows.{added-order}
use Rattle.nt_grammar.proofs.AddedOpen.{no-fields}
use Rattle.nt_plans.specs.Plan.{PlanData, PlansData}
use Rattle.nt_plans.specs.Place.{first_column, place, place_members, place_each}
use Rattle.nt_plans.specs.Needs.{NeedData, entries, inside as under_list, need_at, need_in, need_in_any, is_entries}
use Rattle.nt_plans.specs.Late.{GrowsBy}
use Rattle.nt_finished.specs.LeftOut.{AllBeginBehind, IsLeftOut}
use Rattle.nt_finished.proofs.GrownTables.{all-begin}
use Rattle.nt_finished.proofs.MissingColumns.{at-other, in-other, under-other}
use Rattle.nt_finished.proofs.AddedColumns.{no-columns, added-from, own-first}

-- ---- columns that need an element for each entry

either-entries : (o other : Option NeedData) → is_entries (option_or o other) ≡ true → (is_entries o ≡ true) ⊎ (is_entries other ≡ true)
either-entries None other e = inr e
either-entries (Some x) other e = inl e

first-entries : (o other : Option NeedData) → is_entries other ≡ false → is_entries (option_or o other) ≡ true → is_entries o ≡ true
first-entries None other none e = absurd (false≢true (sym none ∙ e))
first-entries (Some x) other none e = e

entries-here : (k j : ℕ) → is_entries (need_at entries k j) ≡ true → (j == k) ≡ true
entries-here k j e = by (j == k) e
  where
    by : (b : Bool) → is_entries (if b then Some entries else None) ≡ true → b ≡ true
    by true h = refl
    by false h = absurd (false≢true h)

-- ---- the fields of one that is added

module _ (t : Table) (field : MemberData) (plain : Bool) (written : ℕ) (new : Table) (described : IsDescribed t)
    (a : Added t field plain written new) where
  abbrev from : ℕ
  from = length t.fields

  abbrev nodes : List NodeData
  nodes = nodes_of a.marks

  abbrev columns : List ColumnRow
  columns = added_rows plain written (length t.fields) a.marks

  -- where the fields inside of one begin
  abbrev start : ℕ → ℕ
  start i = length (before (length t.fields) (field ∷ []) (nodes_of a.marks) i)

  -- a principal field of this shape
  abbrev IsAt : ℕ → ShapeData → Type 0
  IsAt i k = (m : MarkedData) × (slice_get a.marks i ≡ Some m) × (m.principal ≡ true) × (m.node.of ≡ k)

  node-at : (i : ℕ) (m : MarkedData) → slice_get a.marks i ≡ Some m → slice_get nodes i ≡ Some m.node
  node-at i m at = slice_get-map (λ (x : MarkedData). x.node) a.marks i ∙ ap (option_map (λ (x : MarkedData). x.node)) at

  ids-at : (i : ℕ) (k : ShapeData) → IsAt i k
      → ids_inside (from + i) 0 new.fields ≡ count_up (from + start i) (length (inside (from + i) k))
  ids-at i k s =
      ap (ids_inside (from + i) 0) a.field_rows
      ∙ (ids_inside-append (from + i) 0 t.fields (map field_row nodes)
      ∙ (ap (λ (z : List ℕ). z ++ ids_inside (from + i) (0 + from) (map field_row nodes))
      (no-fields (from + i) 0 t.fields described.fields (omega arith))
      ∙ (ap (λ (j : ℕ). ids_inside (from + i) j (map field_row nodes)) (zero-add from)
      ∙ (ids_inside-is from (field ∷ []) nodes i s.0.node (added-order t field plain written new a) (node-at i s.0 s.1)
      ∙ ap (λ (x : ShapeData). count_up (from + start i) (length (inside (from + i) x))) s.3))))

  columns-at : (i : ℕ) (k : ShapeData) → IsAt i k
      → columns_of_field (from + i) new.columns ≡ late_rows written (from + i) (column_types plain k)
  columns-at i k s =
      ap (columns_of_field (from + i)) a.columns_by_field
      ∙ (two-columns (from + i) t.columns columns
      ∙ (ap (λ (z : List ColumnRow). z ++ columns_of_field (from + i) columns)
      (no-columns (from + i) from t.columns (columns-of t described) (omega arith))
      ∙ (added-from plain written from i a.marks s.0 s.1
      ∙ ap₂ (λ (b : Bool) (x : ShapeData). late_rows (first_of written b) (from + i) (column_types plain x)) s.2 s.3)))

  -- a field inside of one
  child : (i : ℕ) (n : NodeData) (q : ℕ) (c : NodeData) → slice_get nodes i ≡ Some n → slice_get (inside (from + i) n.of) q ≡ Some c
      → slice_get nodes (start i + q) ≡ Some c
  child i n q c at in_it =
      let front : List NodeData = before from (field ∷ []) nodes i in
      let rest : List NodeData = all_inside ((from + i) + 1) (drop (i + 1) nodes) in
      ap (λ (z : List NodeData). slice_get z (length front + q)) (cut-inside from (field ∷ []) nodes i n
      (added-order t field plain written new a) at)
      ∙ (slice_get-behind front (inside (from + i) n.of ++ rest) q ∙ slice_get-front (inside (from + i) n.of) rest q c in_it)

  inside-at : (i : ℕ) (k : ShapeData) → is_record k ≡ true → IsAt i k → (q : ℕ) (c : NodeData)
      → slice_get (inside (from + i) k) q ≡ Some c → IsAt (start i + q) c.of
  inside-at i k rec s q c in_it =
      let n : NodeData = s.0.node in
      let at : slice_get nodes i ≡ Some n = node-at i s.0 s.1 in
      let own : slice_get (inside (from + i) n.of) q ≡ Some c =
      ap (λ (x : ShapeData). slice_get (inside (from + i) x) q) s.3 ∙ in_it in
      let mark = mark-inside from (field ∷ []) a.marks i n true q c a.order at (s.0, s.1, s.2) own in (
        mark.0,
        mark.1,
        mark.2 ∙ (ap (λ (x : ShapeData). is_record x && true) s.3 ∙ ap (λ (b : Bool). b && true) rec),
        ap (λ (x : NodeData). x.of) (node-mark a.marks (start i + q) mark.0 c mark.1 (child i n q c at own)),
      )

  -- ---- its principal columns

  abbrev Begins : ℕ → Type 0
  Begins j = (c : ColumnRow) → slice_get new.columns j ≡ Some c → c.first ≡ written

  own-begins : (i : ℕ) (k : ShapeData) (ty : ColumnType) (tys : List ColumnType) → IsAt i k → column_types plain k ≡ ty ∷ tys
      → (j : ℕ) → (j == first_column new.columns (from + i)) ≡ true → Begins j
  own-begins i k ty tys s types j e c at =
      let found = own-first (from + i) 0 new.columns (late_row written (from + i) ty) (map (column_row (from + i)) tys)
      (columns-at i k s ∙ ap (late_rows written (from + i)) types) in
      let here : j ≡ found.0 = eqb-true j (first_column new.columns (from + i)) e ∙ (found.1 ∙ zero-add found.0) in
      let same : c ≡ late_row written (from + i) ty =
      some_is c (late_row written (from + i) ty) (sym at ∙ (ap (slice_get new.columns) here ∙ found.2)) in
      ap (λ (r : ColumnRow). r.first) same

  mutual
    shape-begins : (k : ShapeData) (i : ℕ) → IsAt i k → (j : ℕ)
        → is_entries (need_in entries (place new.fields new.columns (as_read k) (from + i)) j) ≡ true → Begins j
    shape-begins kinds.bool i s j e =
        own-begins i kinds.bool Bit [] s refl j (entries-here (first_column new.columns (from + i)) j e)
    shape-begins kinds.char i s j e =
        own-begins i kinds.char Char [] s refl j (entries-here (first_column new.columns (from + i)) j e)
    shape-begins kinds.byte i s j e =
        own-begins i kinds.byte Byte [] s refl j (entries-here (first_column new.columns (from + i)) j e)
    shape-begins (kinds.int bits signed) i s j e =
        own-begins i (kinds.int bits signed) (int_type plain bits signed) [] s refl j
        (entries-here (first_column new.columns (from + i)) j e)
    shape-begins kinds.text i s j e =
        own-begins i kinds.text (index_type plain) (Char ∷ []) s refl j (entries-here (first_column new.columns (from + i)) j
        (first-entries _ _ (at-other (under_list (first_column new.columns (from + i))) _ j refl) e))
    shape-begins (kinds.list k) i s j e =
        own-begins i (kinds.list k) (index_type plain) [] s refl j (entries-here (first_column new.columns (from + i)) j
        (first-entries _ _ (in-other (under_list (first_column new.columns (from + i)))
        (place new.fields new.columns (as_read k) (get_or (ids_inside (from + i) 0 new.fields) 0 0)) j refl) e))
    shape-begins (kinds.maybe k) i s j e =
        own-begins i (kinds.maybe k) (index_type plain) [] s refl j (entries-here (first_column new.columns (from + i)) j
        (first-entries _ _ (in-other (under_list (first_column new.columns (from + i)))
        (place new.fields new.columns (as_read k) (get_or (ids_inside (from + i) 0 new.fields) 0 0)) j refl) e))
    shape-begins (kinds.fields ps) i s j e =
        parts-begin ps (from + i) (start i) (inside-at i (kinds.fields ps) refl s) j
        (ap (λ (ids : List ℕ). is_entries (need_in_any entries (place_members new.fields new.columns (parts_as_read ps) ids) j))
        (sym (ids-at i (kinds.fields ps) s)) ∙ e)
    shape-begins (kinds.tuple ks) i s j e =
        places-begin ks (from + i) 0 (start i) (inside-at i (kinds.tuple ks) refl s) j
        (ap (λ (ids : List ℕ). is_entries (need_in_any entries (place_members new.fields new.columns (places_as_read 0 ks) ids) j))
        (sym (ids-at i (kinds.tuple ks) s)) ∙ e)
    shape-begins (kinds.choice ks) i s j e =
        own-begins i (kinds.choice ks) Switch [] s refl j (entries-here (first_column new.columns (from + i)) j
        (first-entries _ _ (under-other (first_column new.columns (from + i)) 1
        (place_each new.fields new.columns (kinds_as_read ks) (ids_inside (from + i) 0 new.fields)) j) e))

    parts-begin : (ps : MembersData) (id at : ℕ) → ((q : ℕ) (c : NodeData) → slice_get (members_in id ps) q ≡ Some c → IsAt (at + q) c.of)
        → (j : ℕ) → is_entries (need_in_any entries (place_members new.fields new.columns (parts_as_read ps)
        (count_up (from + at) (length (members_in id ps)))) j) ≡ true → Begins j
    parts-begin no_parts id at each j e = absurd (false≢true e)
    parts-begin (part n k ps) id at each j e =
        let first : IsAt at k = subst (λ (i : ℕ). IsAt i k) (add-zero at) (each 0 (record { parent = id; name = n; of = k }) refl) in
        let step : (from + at) + 1 ≡ from + (at + 1) = omega arith in
        let rest : PlansData = place_members new.fields new.columns (parts_as_read ps)
        (count_up ((from + at) + 1) (length (members_in id ps))) in
        elim (either-entries (need_in entries (place new.fields new.columns (as_read k) (from + at)) j) (need_in_any entries rest j) e)
        as (λ _. Begins j) [
          | inl h ↦ shape-begins k at first j h
          | inr h ↦ parts-begin ps id (at + 1) (λ q c is.
              let next : at + suc q ≡ (at + 1) + q = omega arith in
              subst (λ (i : ℕ). IsAt i c.of) next (each (suc q) c is)) j
              (ap (λ (i : ℕ). is_entries (need_in_any entries (place_members new.fields new.columns (parts_as_read ps)
              (count_up i (length (members_in id ps)))) j)) (sym step) ∙ h)
        ]

    places-begin : (ks : ShapesData) (id place_at at : ℕ)
        → ((q : ℕ) (c : NodeData) → slice_get (places_in id place_at ks) q ≡ Some c → IsAt (at + q) c.of)
        → (j : ℕ) → is_entries (need_in_any entries (place_members new.fields new.columns (places_as_read place_at ks)
        (count_up (from + at) (length (places_in id place_at ks)))) j) ≡ true → Begins j
    places-begin no_kinds id place_at at each j e = absurd (false≢true e)
    places-begin (kind k ks) id place_at at each j e =
        let first : IsAt at k = subst (λ (i : ℕ). IsAt i k) (add-zero at)
        (each 0 (record { parent = id; name = place_name place_at; of = k }) refl) in
        let step : (from + at) + 1 ≡ from + (at + 1) = omega arith in
        let rest : PlansData = place_members new.fields new.columns (places_as_read (place_at + 1) ks)
        (count_up ((from + at) + 1) (length (places_in id (place_at + 1) ks))) in
        elim (either-entries (need_in entries (place new.fields new.columns (as_read k) (from + at)) j) (need_in_any entries rest j) e)
        as (λ _. Begins j) [
          | inl h ↦ shape-begins k at first j h
          | inr h ↦ places-begin ks id (place_at + 1) (at + 1) (λ q c is.
              let next : at + suc q ≡ (at + 1) + q = omega arith in
              subst (λ (i : ℕ). IsAt i c.of) next (each (suc q) c is)) j
              (ap (λ (i : ℕ). is_entries (need_in_any entries (place_members new.fields new.columns (places_as_read (place_at + 1) ks)
              (count_up i (length (places_in id (place_at + 1) ks)))) j)) (sym step) ∙ h)
        ]

  abbrev plan_of : PlanData
  plan_of = place new.fields new.columns (as_read field.of) (length t.fields)

  top-at : IsAt 0 field.of
  top-at = (
    record { node = record { parent = length t.fields; name = field.name; of = field.of }; principal = true },
    ap (λ (z : List MarkedData). slice_get z 0) a.order,
    refl,
    refl,
  )

  begins : (low : ℕ) → low ≤ written → AllBeginBehind low plan_of (length t.columns) columns
  begins low late = all-begin low plan_of (length t.columns) columns (λ k c at e.
      let here : slice_get new.columns (length t.columns + k) ≡ Some c =
      ap (λ (z : List ColumnRow). slice_get z (length t.columns + k)) a.columns_by_field ∙ (slice_get-new t.columns columns k ∙ at) in
      let first : c.first ≡ written = shape-begins field.of 0 top-at (length t.columns + k)
      (ap (λ (i : ℕ). is_entries (need_in entries (place new.fields new.columns (as_read field.of) i) (length t.columns + k)))
      (add-zero from) ∙ e) c here in
      omega (arith, late, first))

  pub added-left_out : (low : ℕ) → low ≤ written → GrowsBy t new plan_of → IsLeftOut low t new plan_of
  added-left_out low late grows = record {
    grows = grows;
    rows = columns;
    columns_behind = a.columns_by_field;
    begin = begins low late;
  }
