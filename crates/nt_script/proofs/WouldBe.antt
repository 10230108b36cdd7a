-- What would be kept of clusters that aren't written yet.
use Rattle.std.proofs.Common.{◌≡◌, ◌∙◌, ap, sym, refl, inr, ℕ, zero, suc, ◌+◌, ◌<◌, Bool, true, List, [], ◌∷◌, ◌++◌, length, map, arith}
use Rattle.std.specs.List.{AllZip}
use Rattle.std.proofs.lemmas.List.{map-append}
use Rattle.nt_types.specs.ShapeData.{MemberData}
use Rattle.nt_types.specs.TreeData.{TreesData}
use Rattle.nt_types.specs.ColumnTable.{code_of}
use Rattle.nt_types.specs.declared.column_type.ColumnType.{ColumnType}
use Rattle.nt_grammar.specs.declared.rows.ColumnRow.{ColumnRow}
use Rattle.nt_grammar.specs.Added.{MarkedData, late_rows, first_of, added_rows, Added}
use Rattle.nt_grammar.specs.Columns.{column_types}
use Rattle.nt_grammar.specs.Rows.{NodeData, Rows, column_row, column_rows}
use Rattle.nt_grammar.specs.Table.{Table}
use Rattle.nt_book.specs.declared.meta.ClusterMeta.{ClusterMeta}
use Rattle.nt_column.specs.Column.{Column, elements_at}
use Rattle.nt_pages.specs.Metas.{cluster_meta}
use Rattle.nt_plans.specs.Place.{open_plans}
use Rattle.nt_trees.specs.Columns.{Cols}
use Rattle.nt_trees.specs.Described.{are_stored}
use Rattle.nt_dealing.specs.Limits.{put_entries, WouldBeKeptOf, IsCountedOf}

-- the codes of columns
abbrev pub codes_in : List ColumnRow → List ℕ
codes_in rows = map (λ (r : ColumnRow). r.code) rows

-- the columns of a table are of these types
pub record HasTypes (t : Table) : Type 0 where
  pub types : List ColumnType
  pub codes : map code_of types ≡ codes_in t.columns

row-codes : (id : ℕ) (types : List ColumnType) → map code_of types ≡ codes_in (map (column_row id) types)
row-codes id [] = refl
row-codes id (type ∷ types) = ap (λ (l : List ℕ). code_of type ∷ l) (row-codes id types)

joined : (xs ys : List ColumnType) (rows more : List ColumnRow) → map code_of xs ≡ codes_in rows → map code_of ys ≡ codes_in more
    → map code_of (xs ++ ys) ≡ codes_in (rows ++ more)
joined xs ys rows more one other =
    map-append code_of xs ys
    ∙ (ap (λ (l : List ℕ). l ++ map code_of ys) one
    ∙ (ap (λ (l : List ℕ). codes_in rows ++ l) other ∙ sym (map-append (λ (r : ColumnRow). r.code) rows more)))

-- of a description
abbrev node_types : Bool → List NodeData → List ColumnType
node_types plain [] = []
node_types plain (n ∷ ns) = column_types plain n.of ++ node_types plain ns

node-codes : (plain : Bool) (id : ℕ) (ns : List NodeData) → map code_of (node_types plain ns) ≡ codes_in (column_rows plain id ns)
node-codes plain id [] = refl
node-codes plain id (n ∷ ns) =
    joined (column_types plain n.of) (node_types plain ns) (map (column_row id) (column_types plain n.of)) (column_rows plain (id + 1) ns)
    (row-codes id (column_types plain n.of)) (node-codes plain (id + 1) ns)

pub types-described : (fields : List MemberData) (plain : Bool) (t : Table) → Rows fields plain t → HasTypes t
types-described fields plain t rows = record {
  types = node_types plain rows.nodes;
  codes = node-codes plain 0 rows.nodes ∙ ap codes_in (sym rows.columns_by_field);
}

-- of a field that is added
abbrev mark_types : Bool → List MarkedData → List ColumnType
mark_types plain [] = []
mark_types plain (m ∷ ms) = column_types plain m.node.of ++ mark_types plain ms

late-codes : (first id : ℕ) (types : List ColumnType) → map code_of types ≡ codes_in (late_rows first id types)
late-codes first id [] = refl
late-codes first id (type ∷ types) = ap (λ (l : List ℕ). code_of type ∷ l) (row-codes id types)

mark-codes : (plain : Bool) (entries id : ℕ) (ms : List MarkedData)
    → map code_of (mark_types plain ms) ≡ codes_in (added_rows plain entries id ms)
mark-codes plain entries id [] = refl
mark-codes plain entries id (m ∷ ms) =
    joined (column_types plain m.node.of) (mark_types plain ms)
    (late_rows (first_of entries m.principal) id (column_types plain m.node.of)) (added_rows plain entries (id + 1) ms)
    (late-codes (first_of entries m.principal) id (column_types plain m.node.of)) (mark-codes plain entries (id + 1) ms)

pub types-added : (t : Table) (field : MemberData) (plain : Bool) (entries : ℕ) (new : Table) → Added t field plain entries new
    → HasTypes t → HasTypes new
types-added t field plain entries new a has = record {
  types = has.types ++ mark_types plain a.marks;
  codes = joined has.types (mark_types plain a.marks) t.columns (added_rows plain entries (length t.fields) a.marks) has.codes
      (mark-codes plain entries (length t.fields) a.marks)
      ∙ ap codes_in (sym a.columns_by_field);
}

-- columns of these types that have these elements, from this number on
abbrev typed : ℕ → Cols → List ColumnType → List Column
typed k cols [] = []
typed k cols (type ∷ types) = record { kind = type; elements = cols k; zeros = 0 } ∷ typed (suc k) cols types

typed-codes : (k : ℕ) (cols : Cols) (types : List ColumnType)
    → map (λ (c : Column). code_of c.kind) (typed k cols types) ≡ map code_of types
typed-codes k cols [] = refl
typed-codes k cols (type ∷ types) = ap (λ (l : List ℕ). code_of type ∷ l) (typed-codes (suc k) cols types)

typed-stored : (k : ℕ) (cols : Cols) (types : List ColumnType) → are_stored (typed k cols types) ≡ true
typed-stored k cols [] = refl
typed-stored k cols (type ∷ types) = typed-stored (suc k) cols types

typed-at : (from k : ℕ) (cols : Cols) (types : List ColumnType) → k < length (typed from cols types)
    → elements_at (typed from cols types) k ≡ cols (from + k)
typed-at from k cols [] less = absurd (omega (arith, less))
typed-at from zero cols (type ∷ types) less = let here : from ≡ from + 0 = omega arith in ap cols here
typed-at from (suc k) cols (type ∷ types) less =
    let next : suc from + k ≡ from + suc k = omega arith in
    typed-at (suc from) k cols types (omega (arith, less)) ∙ ap cols next

module _ (t : Table) (page : ℕ) (has : HasTypes t) where
  abbrev cols : List TreesData → Cols
  cols chunk = put_entries (open_plans t) chunk (λ j. [])

  -- of a cluster
  abbrev pub would_be : List TreesData → ClusterMeta
  would_be chunk = cluster_meta page 0 (length chunk) (typed 0 (cols chunk) has.types)

  would-be-kept : (chunk : List TreesData) → WouldBeKeptOf t page chunk (would_be chunk)
  would-be-kept chunk = record {
    columns = typed 0 (cols chunk) has.types;
    set = record {
      described = typed-codes 0 (cols chunk) has.types ∙ has.codes;
      stored = typed-stored 0 (cols chunk) has.types;
    };
    put = λ k less. typed-at 0 k (cols chunk) has.types less ∙ (let same : 0 + k ≡ k = omega arith in ap (cols chunk) same);
    meta_is = refl;
  }

  -- and of each
  pub all-would-be : (chunks : List (List TreesData)) → AllZip (IsCountedOf t page) chunks (map would_be chunks)
  all-would-be [] = tt
  all-would-be (chunk ∷ chunks) = (inr (would-be-kept chunk), all-would-be chunks)
