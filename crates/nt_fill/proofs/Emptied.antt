-- Columns without elements give no entry.
use Rattle.std.proofs.Common.{◌≡◌, ◌∙◌, ap, sym, refl, subst, ℕ, zero, suc, true, List, [], ◌∷◌, map, arith}
use Rattle.std.specs.Prelude.{Result, Ok, Err, IfOk}
use Rattle.nt_types.specs.ColumnTable.{code_of}
use Rattle.nt_types.specs.declared.column_type.ColumnType.{ColumnType}
use Rattle.nt_grammar.specs.declared.rows.ColumnRow.{ColumnRow}
use Rattle.nt_grammar.specs.Table.{Table}
use Rattle.nt_column.specs.Elements.{AreElementsOf}
use Rattle.nt_column.specs.Column.{Column, empty, elements_at}
use Rattle.nt_plans.specs.Plan.{PlanData, PlansData, bool, number, text, list, maybe, record_of, choice, no_plans, plan}
use Rattle.nt_plans.specs.Place.{open_plans}
use Rattle.nt_trees.specs.Columns.{Cols}
use Rattle.nt_trees.specs.Described.{AreDescribed, are_stored}
use Rattle.nt_trees.specs.Sound.{Sound, AllSound, EachSound}
use Rattle.nt_trees.specs.Nones.{HaveZeroNones}
use Rattle.nt_trees.proofs.Nones.{all_empty-nones}
use Rattle.nt_layout.specs.Laid.{Gives}

abbrev none_at : Cols
none_at k = []

mutual
  pub none_sound : (p : PlanData) → Sound p none_at 0
  none_sound (bool k) = refl
  none_sound (number k bits signed) = refl
  none_sound (text e c) = (refl, λ i h. omega (arith, h), refl)
  none_sound (list e p) = (refl, λ i h. omega (arith, h), none_sound p)
  none_sound (maybe e p) = (refl, λ i h. omega (arith, h), λ i h. omega arith, none_sound p)
  none_sound (record_of ps) = all_none_sound ps
  none_sound (choice k ps) = (refl, λ i h. omega (arith, h), λ i h. absurd (omega (arith, h)), each_none_sound 0 ps)

  pub all_none_sound : (ps : PlansData) → AllSound ps none_at 0
  all_none_sound no_plans = tt
  all_none_sound (plan p ps) = (none_sound p, all_none_sound ps)

  each_none_sound : (before : ℕ) (ps : PlansData) → EachSound before ps [] none_at
  each_none_sound before no_plans = tt
  each_none_sound before (plan p ps) = (none_sound p, each_none_sound (suc before) ps)

emptied : List Column → List Column
emptied cs = map (λ (c : Column). empty c.kind) cs

no_elements : (cs : List Column) (k : ℕ) → elements_at (map (λ (c : Column). empty c.kind) cs) k ≡ []
no_elements [] k = refl
no_elements (c ∷ cs) zero = refl
no_elements (c ∷ cs) (suc k) = no_elements cs k

same_codes : (cs : List Column) → map (λ (c : Column). code_of c.kind) (map (λ (c : Column). empty c.kind) cs)
    ≡ map (λ (c : Column). code_of c.kind) cs
same_codes [] = refl
same_codes (c ∷ cs) = ap (λ l. code_of c.kind ∷ l) (same_codes cs)

all_stored : (cs : List Column) → are_stored (map (λ (c : Column). empty c.kind) cs) ≡ true
all_stored [] = refl
all_stored (c ∷ cs) = all_stored cs

-- a set that was emptied gives none
pub emptied_gives : (t : Table) (cs : List Column) → AreDescribed cs t.columns → Gives t (map (λ (c : Column). empty c.kind) cs) []
emptied_gives t cs described =
    let none : (k : ℕ) → elements_at (map (λ (c : Column). empty c.kind) cs) k ≡ [] = no_elements cs in
    record {
      set = record { described = same_codes cs ∙ described; stored = all_stored cs };
      in_range = λ k kind is. subst (λ es. AreElementsOf kind es) (sym (none k)) (λ i d h. absurd (omega (arith, h)));
      sound = subst (λ (cols : Cols). AllSound (open_plans t) cols 0) (λ i k. sym (none k) i) (all_none_sound (open_plans t));
      nones = subst (HaveZeroNones (open_plans t)) (λ i k. sym (none k) i) (all_empty-nones (open_plans t));
      trees = refl;
    }

emptied_again : (kinds : List ColumnType) → map (λ (c : Column). empty c.kind) (map empty kinds) ≡ map empty kinds
emptied_again [] = refl
emptied_again (k ∷ kinds) = ap (λ l. empty k ∷ l) (emptied_again kinds)

codes_kept : (kinds : List ColumnType) → map (λ (c : Column). code_of c.kind) (map empty kinds) ≡ map code_of kinds
codes_kept [] = refl
codes_kept (k ∷ kinds) = ap (λ l. code_of k ∷ l) (codes_kept kinds)

-- what follows from an answer that is Ok
pub if_ok : {T E : Type 0} (P Q : T → Type 0) (r : Result T E) → ((x : T) → P x → Q x) → IfOk r P → IfOk r Q
if_ok P Q (Ok x) f h = f x h
if_ok P Q (Err e) f h = h

-- new columns of these types give none
pub new_gives : (t : Table) (cs : List Column) (kinds : List ColumnType) → cs ≡ map empty kinds
    → map code_of kinds ≡ map (λ (r : ColumnRow). r.code) t.columns → Gives t cs []
new_gives t cs kinds is codes =
    subst (λ (l : List Column). Gives t l []) (emptied_again kinds ∙ sym is) (emptied_gives t (map empty kinds) (codes_kept kinds ∙ codes))
