-- The columns that a cluster leaves out are held as missing ones.
use Rattle.std.proofs.Common.{◌≡◌, ℕ, zero, suc, ◌+◌, ◌<◌, ◌≤◌, true, false, List, [], ◌∷◌, ◌++◌, length}
use Rattle.std.proofs.Common.{Option, Some, None, refl, sym, ap, subst, ◌∙◌, arith}
use Rattle.std.specs.Prelude.{slice_index_or}
use Rattle.std.proofs.lemmas.Bool.{le-leb}
use Rattle.nt_types.specs.declared.column_type.ColumnType.{ColumnType}
use Rattle.nt_encode.specs.Elements.{Element}
use Rattle.nt_grammar.specs.declared.rows.ColumnRow.{ColumnRow}
use Rattle.nt_grammar.specs.Table.{Table}
use Rattle.nt_plans.specs.Plan.{PlanData}
use Rattle.nt_plans.specs.Needs.{NeedData, entries, inside, under, need_in, need_of, is_entries}
use Rattle.nt_pagelists.specs.declared.column.KnownColumn.{KnownColumn}
use Rattle.nt_pagelists.specs.declared.page.PageItem.{PageItem}
use Rattle.nt_pagelists.specs.declared.cluster.ClusterList.{ClusterList}
use Rattle.nt_pagelists.specs.declared.cluster.ColumnList.{ColumnList}
use Rattle.nt_file_meaning.specs.Outlines.{known_column}
use Rattle.nt_file_meaning.specs.Clusters.{kind_of_code, no_list, pages_listed, begins_behind}
use Rattle.nt_file_meaning.specs.Holds.{HoldsPages, no_page, HoldsColumn, closed, not_begun, untyped, in_pages, HoldsColumns, no_column}
use Rattle.nt_file_meaning.specs.Holds.{and_column}
use Rattle.nt_finished.specs.LeftOut.{AllBeginBehind}
use Rattle.nt_finished.specs.Missing.{missing_elements}

-- the elements of columns whose ids go on from this one
abbrev pub missing_from : Table → ℕ → ℕ → List ColumnRow → List (List Element)
missing_from t n id [] = []
missing_from t n id (c ∷ cs) = missing_elements (need_of t id) n ∷ missing_from t n (id + 1) cs

past-columns : (ls : List ColumnList) (id : ℕ) → length ls ≤ id → slice_index_or ls id no_list ≡ no_list
past-columns [] id past = refl
past-columns (l ∷ ls) zero past = absurd (omega (arith, past))
past-columns (l ∷ ls) (suc id) past = past-columns ls id (omega (arith, past))

by-pages : (file : List ℕ) (k : ClusterList) (id : ℕ) (known : KnownColumn) (code : ℕ) (kind : Option ColumnType) → known.is_open ≡ true
    → begins_behind k known ≡ false → kind_of_code code ≡ kind → pages_listed k id ≡ [] → HoldsColumn file k id known code []
by-pages file k id known code None o b is none = untyped o b is
by-pages file k id known code (Some kind) o b is none =
    in_pages o b is (subst (λ (ps : List PageItem). HoldsPages file kind ps []) (sym none) no_page)

missing-held : (file : List ℕ) (k : ClusterList) (id : ℕ) (need : Option NeedData) (c : ColumnRow) → pages_listed k id ≡ []
    → (is_entries need ≡ true → k.first + k.entries ≤ c.first)
    → HoldsColumn file k id (known_column need c) c.code (missing_elements need k.entries)
missing-held file k id None c none behind = closed refl
missing-held file k id (Some entries) c none behind = not_begun refl (le-leb (k.first + k.entries) c.first (behind refl)) refl
missing-held file k id (Some (inside e)) c none behind =
    by-pages file k id (known_column (Some (inside e)) c) c.code (kind_of_code c.code) refl refl refl none
missing-held file k id (Some (under s tag)) c none behind =
    by-pages file k id (known_column (Some (under s tag)) c) c.code (kind_of_code c.code) refl refl refl none

-- ---- the columns of a table with more behind them

module _ (file : List ℕ) (k : ClusterList) (t new : Table) (p : PlanData) where
  pub rows-held : (id : ℕ) (rows : List ColumnRow) → length k.columns ≤ id
      → ((j : ℕ) → id ≤ j → need_of new j ≡ need_in entries p j) → AllBeginBehind (k.first + k.entries) p id rows
      → HoldsColumns file k new id rows (missing_from new k.entries id rows)
  rows-held id [] unlisted needs begin = no_column
  rows-held id (c ∷ cs) unlisted needs begin =
      and_column
      (missing-held file k id (need_of new id) c (ap (λ (l : ColumnList). l.pages) (past-columns k.columns id unlisted))
      (λ is. begin.0 (ap is_entries (sym (needs id (omega arith))) ∙ is)))
      (rows-held (id + 1) cs (omega (arith, unlisted)) (λ j from. needs j (omega (arith, from))) begin.1)

  pub all-held : (id : ℕ) (old rows : List ColumnRow) (es others : List (List Element))
      → ((j : ℕ) → j < id + length old → need_of new j ≡ need_of t j) → HoldsColumns file k t id old es
      → HoldsColumns file k new (id + length old) rows others → HoldsColumns file k new id (old ++ rows) (es ++ others)
  all-held id [] rows es others needs no_column more =
      let same : id + 0 ≡ id = omega arith in
      subst (λ (i : ℕ). HoldsColumns file k new i rows others) same more
  all-held id (c ∷ cs) rows es others needs (and_column {es = first} {others = left} one held) more =
      let next : id + length (c ∷ cs) ≡ id + 1 + length cs = omega arith in
      and_column
      (subst (λ (need : Option NeedData). HoldsColumn file k id (known_column need c) c.code first)
      (sym (needs id (omega arith))) one)
      (all-held (id + 1) cs rows left others (λ j less. needs j (omega (arith, less))) held
      (subst (λ (i : ℕ). HoldsColumns file k new i rows others) next more))

pub length-held : (file : List ℕ) (k : ClusterList) (t : Table) (id : ℕ) (rows : List ColumnRow) (es : List (List Element))
    → HoldsColumns file k t id rows es → length es ≡ length rows
length-held file k t id rows es no_column = refl
length-held file k t id rows es (and_column {others = left} one held) = ap suc (length-held file k t _ _ left held)

pub missing-at : (t : Table) (n id : ℕ) (rows : List ColumnRow) (j : ℕ) → j < length rows
    → slice_index_or (missing_from t n id rows) j [] ≡ missing_elements (need_of t (id + j)) n
missing-at t n id [] j less = absurd (omega (arith, less))
missing-at t n id (c ∷ cs) zero less =
    let same : id ≡ id + 0 = omega arith in
    ap (λ (i : ℕ). missing_elements (need_of t i) n) same
missing-at t n id (c ∷ cs) (suc j) less =
    let same : id + 1 + j ≡ id + suc j = omega arith in
    missing-at t n (id + 1) cs j (omega (arith, less)) ∙ ap (λ (i : ℕ). missing_elements (need_of t i) n) same
