-- What is known of the columns of a table that grew.
use Rattle.std.proofs.Common.{◌≡◌, ℕ, zero, suc, ◌+◌, ◌-◌, ◌<◌, ◌≤◌, true, List, [], ◌∷◌, length, refl, sym, ap, ◌∙◌}
use Rattle.std.proofs.Common.{◌⊎◌, inl, inr, Some, slice_get, add-zero, arith}
use Rattle.std.specs.Prelude.{slice_index_or}
use Rattle.std.proofs.lemmas.Bool.{cases_lt}
use Rattle.std.proofs.lemmas.List.{length-append, get_or_append_left, get_or-append_right}
use Rattle.nt_types.specs.TreeData.{TreesData}
use Rattle.nt_grammar.specs.declared.rows.ColumnRow.{ColumnRow}
use Rattle.nt_grammar.specs.Table.{Table}
use Rattle.nt_plans.specs.Plan.{PlanData}
use Rattle.nt_plans.specs.Needs.{entries, need_in, need_of, is_entries}
use Rattle.nt_plans.specs.Late.{GrowsBy}
use Rattle.nt_pagelists.specs.declared.column.KnownColumn.{KnownColumn}
use Rattle.nt_pagelists.specs.Columns.{unknown_column}
use Rattle.nt_file_meaning.specs.Outlines.{known_column, known_columns}
use Rattle.nt_finished.proofs.Needs.{known-at}
use Rattle.nt_finished.specs.LeftOut.{AllBeginBehind, IsLeftOut, LacksFields, lacks_none, lacks_one}

no_row : ColumnRow
no_row = record { code = 0; bits = 0; field = 0; flags = 0; representation = 0; first = 0 }

abbrev known : Table → ℕ → KnownColumn
known t j = slice_index_or (known_columns t) j unknown_column

abbrev row : Table → ℕ → ColumnRow
row t j = slice_index_or t.columns j no_row

known-is : (t : Table) (j : ℕ) → j < length t.columns → known t j ≡ known_column (need_of t j) (row t j)
known-is t j less =
    let same : 0 + j ≡ j = omega arith in
    known-at t 0 t.columns j no_row less ∙ ap (λ (i : ℕ). known_column (need_of t i) (row t j)) same

begin-at : (before : ℕ) (p : PlanData) (id : ℕ) (rows : List ColumnRow) (j : ℕ) → AllBeginBehind before p id rows → j < length rows
    → is_entries (need_in entries p (id + j)) ≡ true → before ≤ (slice_index_or rows j no_row).first
begin-at before p id [] j h less is = absurd (omega (arith, less))
begin-at before p id (c ∷ cs) zero h less is =
    let same : id ≡ id + 0 = omega arith in
    h.0 (ap (λ (i : ℕ). is_entries (need_in entries p i)) same ∙ is)
begin-at before p id (c ∷ cs) (suc j) h less is =
    let same : id + 1 + j ≡ id + suc j = omega arith in
    begin-at before p (id + 1) cs j h.1 (omega (arith, less)) (ap (λ (i : ℕ). is_entries (need_in entries p i)) same ∙ is)

pub all-begin : (low : ℕ) (p : PlanData) (id : ℕ) (rows : List ColumnRow)
    → ((k : ℕ) (c : ColumnRow) → slice_get rows k ≡ Some c → is_entries (need_in entries p (id + k)) ≡ true → low ≤ c.first)
    → AllBeginBehind low p id rows
all-begin low p id [] h = tt
all-begin low p id (c ∷ cs) h = (
  λ e. h 0 c refl (ap (λ (i : ℕ). is_entries (need_in entries p i)) (add-zero id) ∙ e),
  all-begin low p (id + 1) cs (λ k d at e.
      let next : id + suc k ≡ (id + 1) + k = omega arith in
      h (suc k) d at (ap (λ (i : ℕ). is_entries (need_in entries p i)) next ∙ e)),
)

-- ---- the columns of a table that grew

module _ (need_before : (t new : Table) (p : PlanData) → GrowsBy t new p → (k : ℕ) → k < length t.columns → need_of new k ≡ need_of t k)
    (need_behind : (t new : Table) (p : PlanData) → GrowsBy t new p → (k : ℕ) → length t.columns ≤ k
    → need_of new k ≡ need_in entries p k) where
  longer : (before : ℕ) (t s : Table) (p : PlanData) (out : IsLeftOut before t s p) → length s.columns ≡ length t.columns + length out.rows
  longer before t s p out = ap length out.columns_behind ∙ length-append t.columns out.rows

  known-old : (before : ℕ) (t s : Table) (p : PlanData) → IsLeftOut before t s p → (j : ℕ) → j < length t.columns → known s j ≡ known t j
  known-old before t s p out j less =
      let rows : row s j ≡ row t j =
      ap (λ (l : List ColumnRow). slice_index_or l j no_row) out.columns_behind ∙ get_or_append_left t.columns out.rows no_row j less in
      known-is s j (omega (arith, less, longer before t s p out))
      ∙ (ap (λ (need : _). known_column need (row s j)) (need_before t s p out.grows j less)
      ∙ (ap (λ (r : ColumnRow). known_column (need_of t j) r) rows ∙ sym (known-is t j less)))

  pub known-chain : (before : ℕ) (new t : Table) (zeros : TreesData) → LacksFields before new t zeros → (j : ℕ) → j < length t.columns
      → known new j ≡ known t j
  known-chain before new t zeros lacks_none j less = refl
  known-chain before new t zeros (lacks_one {s = s} {p = p} {zeros = zs} out more) j less =
      known-chain before new s zs more j (omega (arith, less, longer before t s p out)) ∙ known-old before t s p out j less

  pub behind-chain : (before : ℕ) (new t : Table) (zeros : TreesData) → LacksFields before new t zeros → (j : ℕ) → length t.columns ≤ j
      → j < length new.columns → (known new j).is_principal ≡ true → before ≤ (known new j).first
  behind-chain before new t zeros lacks_none j past less is = absurd (omega (arith, past, less))
  behind-chain before new t zeros (lacks_one {s = s} {p = p} {zeros = zs} out more) j past less is =
      by (λ high. behind-chain before new s zs more j high less is) (cases_lt j (length s.columns))
    where
      by : (length s.columns ≤ j → before ≤ (known new j).first) → (j < length s.columns) ⊎ (length s.columns ≤ j)
          → before ≤ (known new j).first
      by later (inr high) = later high
      by later (inl low) =
          let same : known new j ≡ known_column (need_of s j) (row s j) = known-chain before new s zs more j low ∙ known-is s j low in
          let place : length t.columns + (j - length t.columns) ≡ j = omega (arith, past) in
          let need : is_entries (need_in entries p (length t.columns + (j - length t.columns))) ≡ true =
          ap (λ (i : ℕ). is_entries (need_in entries p i)) place
          ∙ (ap (λ (n : _). is_entries n) (sym (need_behind t s p out.grows j past))
          ∙ (sym (ap (λ (c : KnownColumn). c.is_principal) same) ∙ is)) in
          let rows : row s j ≡ slice_index_or out.rows (j - length t.columns) no_row =
          ap (λ (l : List ColumnRow). slice_index_or l j no_row) out.columns_behind
          ∙ get_or-append_right t.columns out.rows (length t.columns) j no_row refl past in
          let first : (known new j).first ≡ (slice_index_or out.rows (j - length t.columns) no_row).first =
          ap (λ (c : KnownColumn). c.first) same ∙ ap (λ (r : ColumnRow). r.first) rows in
          omega (
            arith,
            first,
            begin-at before p (length t.columns) out.rows (j - length t.columns) out.begin
                (omega (arith, low, past, longer before t s p out)) need,
          )
