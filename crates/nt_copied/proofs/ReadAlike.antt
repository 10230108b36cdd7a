-- Schemas that differ in flags alone are read alike.
use Rattle.std.proofs.Common.{◌≡◌, ℕ, Bool, true, false, eqb, ◌&&◌, ◌||◌, List, [], ◌∷◌, map, refl, sym, ap, ◌∙◌}
use Rattle.std.specs.List.{list_any}
use Rattle.nt_types.specs.ColumnTable.{code_of, bits_of}
use Rattle.nt_grammar.specs.declared.rows.FieldRow.{FieldRow}
use Rattle.nt_grammar.specs.declared.rows.ColumnRow.{ColumnRow}
use Rattle.nt_grammar.specs.Table.{Table, in_header}
use Rattle.nt_plans.specs.Place.{open_plans}
use Rattle.nt_copied.specs.Copies.{ReadAlike}
use Rattle.nt_copied.specs.Alike.{without_flags, plain_column, bare, Alike, AllOpen}
use Rattle.nt_copied.proofs.Erased.{Keeps, plans-kept}

same-kept : Keeps (λ (c : ColumnRow). c)
same-kept = record { field = λ c. refl; fit = λ principal types c e. e }

first-of : (a b c d e : Bool) → (a && b && c && d && e) ≡ true → a ≡ true
first-of true b c d e h = refl
first-of false b c d e h = absurd cc

five : (a p : Bool) → a ≡ true → (a && true && true && true && (p || true)) ≡ true
five true true h = refl
five true false h = refl
five false p h = absurd cc

plain-kept : Keeps plain_column
plain-kept = record {
  field = λ c. refl;
  fit = λ principal types c e.
      five (list_any (λ t. eqb c.code (code_of t) && eqb c.bits (bits_of t)) types) principal (first-of _ _ _ _ _ e);
}

map-same : (cs : List ColumnRow) → map (λ (c : ColumnRow). c) cs ≡ cs
map-same [] = refl
map-same (c ∷ cs) = ap (λ (l : List ColumnRow). c ∷ l) (map-same cs)

bare-plans : (t : Table) → AllOpen t → open_plans (bare t) ≡ open_plans t
bare-plans t all =
    ap (λ (l : List ColumnRow). open_plans (in_header (map without_flags t.fields) l)) (sym (map-same t.columns))
    ∙ plans-kept (λ (c : ColumnRow). c) same-kept t all

codes-kept : (cs : List ColumnRow) → map (λ (c : ColumnRow). c.code) (map plain_column cs) ≡ map (λ (c : ColumnRow). c.code) cs
codes-kept [] = refl
codes-kept (c ∷ cs) = ap (λ (l : List ℕ). c.code ∷ l) (codes-kept cs)

pub read-alike : (s t : Table) → AllOpen s → AllOpen t → Alike s t → ReadAlike (bare s) t
read-alike s t s_open t_open alike = record {
  plans = bare-plans s s_open
      ∙ (sym (plans-kept plain_column plain-kept s s_open)
      ∙ (ap (λ (l : List FieldRow). open_plans (in_header l (map plain_column s.columns))) alike.fields
      ∙ (ap (λ (l : List ColumnRow). open_plans (in_header (map without_flags t.fields) l)) alike.columns
      ∙ plans-kept plain_column plain-kept t t_open)));
  codes = sym (codes-kept s.columns) ∙ (ap (map (λ (c : ColumnRow). c.code)) alike.columns ∙ codes-kept t.columns);
}
