-- The rows of a schema to which a field is added.
use Rattle.std.proofs.Common.{◌≡◌, ◌∙◌, ap, sym, refl, subst, ℕ, zero, suc, ◌+◌, ◌≤◌, ◌⊎◌, inl, inr, Bool, true, false}
use Rattle.std.proofs.Common.{List, [], ◌∷◌, ◌++◌, map, length, Some, append_assoc, arith}
use Rattle.std.specs.Prelude.{slice_get, drop, take}
use Rattle.std.specs.List.{AllByRecursion}
use Rattle.std.proofs.Math.Seq.{drop-append_seam}
use Rattle.std.proofs.lemmas.List.{length-append, length-map, map-append, take-append-le}
use Rattle.nt_types.specs.ShapeData.{MemberData}
use Rattle.nt_types.specs.ColumnTable.{code_of}
use Rattle.nt_types.specs.declared.column_type.ColumnType.{ColumnType}
use Rattle.nt_grammar.specs.declared.rows.ColumnRow.{ColumnRow}
use Rattle.nt_grammar.specs.Columns.{column_types}
use Rattle.nt_grammar.specs.Rows.{NodeData, column_row, column_rows, Rows}
use Rattle.nt_grammar.specs.Added.{MarkedData, late_rows, first_of, added_rows, AreMarked, Added}
use Rattle.nt_grammar.specs.ReadingBack.{IsDescribed}
use Rattle.nt_grammar.specs.Table.{Table}
use Rattle.nt_grammar.proofs.AddedRows.{added-length}
use Rattle.nt_machine.proofs.Histories.{AllByRecursion-append, AllByRecursion-map}
use Rattle.nt_column.specs.Column.{Column}
use Rattle.nt_book.specs.Widening.{AreLateFirsts}
use Rattle.nt_plans.specs.Plan.{PlanData, PlansData, no_plans, plan, and_plan}
use Rattle.nt_plans.specs.Types.{are_some}
use Rattle.nt_trees.specs.Described.{AreDescribed}
use Rattle.nt_file_meaning.specs.Headers.{header_text}
use Rattle.nt_layout.specs.Headers.{header_object, header_sum}
use Rattle.nt_fill.specs.Context.{HasKnownType}
use Rattle.nt_seq.specs.Widening.{first_elements}
use Rattle.nt_seq.specs.Written.{IsFirstSchema}

-- ---- the types of columns

known-at : (rows : List ColumnRow) (k : ℕ) (r : ColumnRow) → AllByRecursion HasKnownType rows → slice_get rows k ≡ Some r → HasKnownType r
known-at [] k r all at = absurd (cc)
known-at (x ∷ rows) zero r all at = let same : x ≡ r = cc in subst HasKnownType same all.0
known-at (x ∷ rows) (suc k) r all at = known-at rows k r all.1 at

known-described : (cs : List Column) (rows : List ColumnRow) → AreDescribed cs rows → AllByRecursion HasKnownType rows
known-described cs [] described = tt
known-described [] (r ∷ rows) described = absurd (cc)
known-described (c ∷ cs) (r ∷ rows) described =
    let head : code_of c.kind ≡ r.code = cc in
    let tail : map (λ (d : Column). code_of d.kind) cs ≡ map (λ (q : ColumnRow). q.code) rows = cc in
    ((c.kind, head), known-described cs rows tail)

known-types : (id : ℕ) (ts : List ColumnType) → AllByRecursion HasKnownType (map (column_row id) ts)
known-types id [] = tt
known-types id (t ∷ ts) = ((t, refl), known-types id ts)

known-late : (first id : ℕ) (ts : List ColumnType) → AllByRecursion HasKnownType (late_rows first id ts)
known-late first id [] = tt
known-late first id (t ∷ ts) = ((t, refl), known-types id ts)

known-added : (plain : Bool) (entries id : ℕ) (ms : List MarkedData) → AllByRecursion HasKnownType (added_rows plain entries id ms)
known-added plain entries id [] = tt
known-added plain entries id (m ∷ ms) =
    AllByRecursion-append HasKnownType (late_rows (first_of entries m.principal) id (column_types plain m.node.of))
    (added_rows plain entries (id + 1) ms) (known-late (first_of entries m.principal) id (column_types plain m.node.of))
    (known-added plain entries (id + 1) ms)

-- ---- their first elements

-- a column begins with the first entry, or behind so many
abbrev BeginsLate : ℕ → ColumnRow → Type 0
BeginsLate entries c = (c.first ≡ 0) ⊎ (c.first ≡ entries)

late-types : (entries id : ℕ) (ts : List ColumnType) → AllByRecursion (BeginsLate entries) (map (column_row id) ts)
late-types entries id [] = tt
late-types entries id (t ∷ ts) = (inl refl, late-types entries id ts)

late-own : (entries : ℕ) (principal : Bool) (id : ℕ) (ts : List ColumnType)
    → AllByRecursion (BeginsLate entries) (late_rows (first_of entries principal) id ts)
late-own entries principal id [] = tt
late-own entries true id (t ∷ ts) = (inr refl, late-types entries id ts)
late-own entries false id (t ∷ ts) = (inl refl, late-types entries id ts)

late-added : (plain : Bool) (entries id : ℕ) (ms : List MarkedData) → AllByRecursion (BeginsLate entries) (added_rows plain entries id ms)
late-added plain entries id [] = tt
late-added plain entries id (m ∷ ms) =
    AllByRecursion-append (BeginsLate entries) (late_rows (first_of entries m.principal) id (column_types plain m.node.of))
    (added_rows plain entries (id + 1) ms) (late-own entries m.principal id (column_types plain m.node.of))
    (late-added plain entries (id + 1) ms)

not_behind : (entries : ℕ) (c : ColumnRow) → BeginsLate entries c → c.first ≤ entries
not_behind entries c begins =
    elim begins [
      | inl first ↦ omega (arith, first)
      | inr late ↦ omega (arith, late)
    ]

-- described columns begin with the first entry
types-first : (id : ℕ) (ts : List ColumnType) → AllByRecursion (λ (c : ColumnRow). c.first ≡ 0) (map (column_row id) ts)
types-first id [] = tt
types-first id (t ∷ ts) = (refl, types-first id ts)

rows-first : (plain : Bool) (id : ℕ) (nodes : List NodeData) → AllByRecursion (λ (c : ColumnRow). c.first ≡ 0) (column_rows plain id nodes)
rows-first plain id [] = tt
rows-first plain id (n ∷ nodes) =
    AllByRecursion-append (λ (c : ColumnRow). c.first ≡ 0) (map (column_row id) (column_types plain n.of))
    (column_rows plain (id + 1) nodes) (types-first id (column_types plain n.of)) (rows-first plain (id + 1) nodes)

pub described-first : (fields : List MemberData) (plain : Bool) (t : Table) → Rows fields plain t
    → AllByRecursion (λ (c : ColumnRow). c.first ≡ 0) t.columns
described-first fields plain t rows =
    subst (λ (l : List ColumnRow). AllByRecursion (λ (c : ColumnRow). c.first ≡ 0) l) (sym rows.columns_by_field)
    (rows-first plain 0 rows.nodes)

-- the next column's is the next of them
drop-next : (rows : List ColumnRow) (k : ℕ) (r : ColumnRow) → slice_get rows k ≡ Some r → drop k rows ≡ r ∷ drop (k + 1) rows
drop-next [] k r at = absurd (cc)
drop-next (x ∷ rows) zero r at = let same : x ≡ r = cc in ap (λ (y : ColumnRow). y ∷ rows) same
drop-next (x ∷ rows) (suc k) r at =
    let up : suc (k + 1) ≡ suc k + 1 = omega arith in
    drop-next rows k r at ∙ ap (λ (n : ℕ). r ∷ drop n (x ∷ rows)) up

pub firsts-next : (rows : List ColumnRow) (k : ℕ) (r : ColumnRow) (done whole : List ℕ) → slice_get rows k ≡ Some r
    → done ++ first_elements (drop k rows) ≡ whole → (done ++ r.first ∷ []) ++ first_elements (drop (k + 1) rows) ≡ whole
firsts-next rows k r done whole at before =
    append_assoc done (r.first ∷ []) (first_elements (drop (k + 1) rows))
    ∙ (ap (λ (l : List ColumnRow). done ++ first_elements l) (sym (drop-next rows k r at)) ∙ before)

-- ---- an open field more

pub some-more : (ps : PlansData) (p : PlanData) → are_some (and_plan ps p) ≡ true
some-more no_plans p = refl
some-more (plan q ps) p = refl

-- ---- a table with one field more

module _ (t : Table) (field : MemberData) (plain : Bool) (entries : ℕ) (new : Table) (a : Added t field plain entries new) where
  abbrev rows : List ColumnRow
  rows = added_rows plain entries (length t.fields) a.marks

  pub behind-columns : drop (length t.columns) new.columns ≡ rows
  behind-columns = ap (drop (length t.columns)) a.columns_by_field ∙ drop-append_seam t.columns rows

  pub more-columns : length new.columns ≡ length t.columns + length (first_elements (drop (length t.columns) new.columns))
  more-columns =
      ap length a.columns_by_field
      ∙ (length-append t.columns rows
      ∙ ap (λ (n : ℕ). length t.columns + n)
      (sym (length-map rows (λ (c : ColumnRow). c.first)) ∙ ap (λ (l : List ColumnRow). length (first_elements l)) (sym behind-columns)))

  pub all-known : (cs : List Column) → AreDescribed cs t.columns → (k : ℕ) (r : ColumnRow) → slice_get new.columns k ≡ Some r
      → HasKnownType r
  all-known cs described k r at =
      known-at (t.columns ++ rows) k r
      (AllByRecursion-append HasKnownType t.columns rows (known-described cs t.columns described)
      (known-added plain entries (length t.fields) a.marks))
      (ap (λ (l : List ColumnRow). slice_get l k) (sym a.columns_by_field) ∙ at)

  pub late-firsts : AreLateFirsts entries (first_elements (drop (length t.columns) new.columns))
  late-firsts =
      subst (λ (l : List ColumnRow). AreLateFirsts entries (first_elements l)) (sym behind-columns)
      (AllByRecursion-map (BeginsLate entries) (λ first. (first ≡ 0) ⊎ (first ≡ entries)) (λ (c : ColumnRow). c.first) (λ c begins. begins)
      rows (late-added plain entries (length t.fields) a.marks))

  pub all-begun : AllByRecursion (λ (c : ColumnRow). c.first ≤ entries) t.columns
      → AllByRecursion (λ (c : ColumnRow). c.first ≤ entries) new.columns
  all-begun old =
      subst (λ (l : List ColumnRow). AllByRecursion (λ (c : ColumnRow). c.first ≤ entries) l) (sym a.columns_by_field)
      (AllByRecursion-append (λ (c : ColumnRow). c.first ≤ entries) t.columns rows old
      (each rows (late-added plain entries (length t.fields) a.marks)))
    where
      each : (cs : List ColumnRow) → AllByRecursion (BeginsLate entries) cs → AllByRecursion (λ (c : ColumnRow). c.first ≤ entries) cs
      each [] all = tt
      each (c ∷ cs) all = (not_behind entries c all.0, each cs all.1)

  pub all-firsts : (firsts : List ℕ) → first_elements t.columns ≡ firsts
      → first_elements new.columns ≡ firsts ++ first_elements (drop (length t.columns) new.columns)
  all-firsts firsts is =
      ap first_elements a.columns_by_field
      ∙ (map-append (λ (c : ColumnRow). c.first) t.columns rows
      ∙ (ap (λ (l : List ℕ). l ++ first_elements rows) is
      ∙ ap (λ (l : List ColumnRow). firsts ++ first_elements l) (sym behind-columns)))

  -- the header stays
  header-text-kept : IsDescribed t → header_text new ≡ header_text t
  unfolding header_text
  header-text-kept is =
      let fields : take new.header_fields new.fields ≡ take t.header_fields t.fields =
      ap (λ (n : ℕ). take n new.fields) a.header_fields
      ∙ (ap (take t.header_fields) a.field_rows ∙ take-append-le t.header_fields t.fields _ is.header_fields) in
      let columns : take new.header_columns new.columns ≡ take t.header_columns t.columns =
      ap (λ (n : ℕ). take n new.columns) a.header_columns
      ∙ (ap (take t.header_columns) a.columns_by_field ∙ take-append-le t.header_columns t.columns _ is.header_columns) in
      rw (fields, columns) refl

  pub header-kept : IsDescribed t → header_object new ≡ header_object t
  unfolding header_object
  header-kept is = rw (header-text-kept is) refl

  pub sum-kept : IsDescribed t → header_sum new ≡ header_sum t
  unfolding header_sum
  sum-kept is = rw (header-text-kept is) refl

  -- not all rows stand in the header
  pub not_first : IsDescribed t → IsFirstSchema new → ⊥
  not_first is first =
      let some : 1 ≤ length a.marks = marks_some a.marks a.order in
      let all = added-length t field plain entries new a in
      let marks = length-map a.marks (λ (m : MarkedData). m.node) in
      omega (arith, first, a.header_fields, is.header_fields, some, all, marks)
    where
      marks_some : (ms : List MarkedData) → AreMarked (length t.fields) (field ∷ []) ms → 1 ≤ length ms
      marks_some [] order = absurd (cc order)
      marks_some (m ∷ ms) order = omega arith
