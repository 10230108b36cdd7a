-- What is kept of a column is what its plans say.
use Rattle.std.proofs.Common.{ℕ, suc, Bool, true, false, ◌≡◌, ◌<◌, ◌+◌, List, [], ◌∷◌, length, Option, Some, None, ◌==◌, ◌||◌, refl, sym}
use Rattle.std.proofs.Common.{ap, ap₂, ◌∙◌, if◌then◌else◌}
use Rattle.std.specs.Prelude.{option_map}
use Rattle.std.specs.Option.{option_or, is_some}
use Rattle.nt_types.specs.ShapeData.{ShapeData}
use Rattle.nt_grammar.specs.declared.rows.FieldRow.{FieldRow}
use Rattle.nt_grammar.specs.declared.rows.ColumnRow.{ColumnRow}
use Rattle.nt_plans.specs.Plan.{PlanData, PlansData, bool, number, text, list, maybe, record_of, choice, no_plans, plan, has, has_any}
use Rattle.nt_plans.specs.Place.{place, place_from}
use Rattle.nt_plans.specs.Needs.{NeedData, entries, inside, under, need_at, need_in, need_in_any, need_under, is_entries, top_from}
use Rattle.nt_open.specs.Uses.{principal_at, principal_in, principal_in_any, use_in, use_from, use_at, HaveUses, principal_of, top_field_of}
use Rattle.nt_open.specs.declared.uses.ColumnUse.{ColumnUse}

-- whether a need is that of a principal column
abbrev of_entries : NeedData → Bool
of_entries n = is_entries (Some n)

map-or : {A B : Type 0} (f : A → B) (a b : Option A) → option_map f (option_or a b) ≡ option_or (option_map f a) (option_map f b)
map-or f None b = refl
map-or f (Some x) b = refl

need-at : (above : NeedData) (k j : ℕ) → option_map of_entries (need_at above k j) ≡ principal_at (of_entries above) k j
need-at above k j = one (j == k)
  where
    one : (b : Bool) → option_map of_entries (if b then Some above else None) ≡ (if b then Some (of_entries above) else None)
    one true = refl
    one false = refl

both : (a b : Option NeedData) (p q : Option Bool) → option_map of_entries a ≡ p → option_map of_entries b ≡ q
    → option_map of_entries (option_or a b) ≡ option_or p q
both a b p q e f = map-or of_entries a b ∙ ap₂ (λ (x y : Option Bool). option_or x y) e f

mutual
  need-principal : (above : NeedData) (p : PlanData) (j : ℕ) → option_map of_entries (need_in above p j)
      ≡ principal_in (of_entries above) p j
  need-principal above (bool k) j = need-at above k j
  need-principal above (number k bits signed) j = need-at above k j
  need-principal above (text ends bytes) j =
      both (need_at above ends j) (need_at (inside ends) bytes j) (principal_at (of_entries above) ends j) (principal_at false bytes j)
      (need-at above ends j) (need-at (inside ends) bytes j)
  need-principal above (list ends p) j =
      both (need_at above ends j) (need_in (inside ends) p j) (principal_at (of_entries above) ends j) (principal_in false p j)
      (need-at above ends j) (need-principal (inside ends) p j)
  need-principal above (maybe ends p) j =
      both (need_at above ends j) (need_in (inside ends) p j) (principal_at (of_entries above) ends j) (principal_in false p j)
      (need-at above ends j) (need-principal (inside ends) p j)
  need-principal above (record_of ps) j = needs-principal above ps j
  need-principal above (choice tags ps) j =
      both (need_at above tags j) (need_under tags 1 ps j) (principal_at (of_entries above) tags j) (principal_in_any false ps j)
      (need-at above tags j) (under-principal tags 1 ps j)

  needs-principal : (above : NeedData) (ps : PlansData) (j : ℕ)
      → option_map of_entries (need_in_any above ps j) ≡ principal_in_any (of_entries above) ps j
  needs-principal above no_plans j = refl
  needs-principal above (plan p ps) j =
      both (need_in above p j) (need_in_any above ps j) (principal_in (of_entries above) p j) (principal_in_any (of_entries above) ps j)
      (need-principal above p j) (needs-principal above ps j)

  under-principal : (tags tag : ℕ) (ps : PlansData) (j : ℕ) → option_map of_entries (need_under tags tag ps j) ≡ principal_in_any false ps j
  under-principal tags tag no_plans j = refl
  under-principal tags tag (plan p ps) j =
      both (need_in (under tags tag) p j) (need_under tags (suc tag) ps j) (principal_in false p j) (principal_in_any false ps j)
      (need-principal (under tags tag) p j) (under-principal tags (suc tag) ps j)

entries-of : (o : Option NeedData) (top : ℕ) → principal_of (use_in top (option_map of_entries o)) ≡ is_entries o
entries-of None top = refl
entries-of (Some n) top = refl

pub use-principal : (fs : List FieldRow) (cs : List ColumnRow) (id : ℕ) (shapes : List (Option ShapeData)) (k : ℕ)
    → principal_of (use_from fs cs id shapes k) ≡ is_entries (need_in_any entries (place_from fs cs id shapes) k)
use-principal fs cs id [] k = refl
use-principal fs cs id (None ∷ shapes) k = use-principal fs cs (id + 1) shapes k
use-principal fs cs id (Some s ∷ shapes) k =
    ap (λ (o : Option Bool). principal_of (option_or (use_in id o) (use_from fs cs (id + 1) shapes k)))
    (sym (need-principal entries (place fs cs s id) k))
    ∙ one (need_in entries (place fs cs s id) k) (use-principal fs cs (id + 1) shapes k)
  where
    one : (o : Option NeedData)
        → principal_of (use_from fs cs (id + 1) shapes k) ≡ is_entries (need_in_any entries (place_from fs cs (id + 1) shapes) k)
        → principal_of (option_or (use_in id (option_map of_entries o)) (use_from fs cs (id + 1) shapes k))
        ≡ is_entries (option_or o (need_in_any entries (place_from fs cs (id + 1) shapes) k))
    one None later = later
    one (Some n) later = refl

some-or : {A : Type 0} (a b : Option A) → is_some (option_or a b) ≡ (is_some a || is_some b)
some-or None b = refl
some-or (Some x) b = refl

some-at : (up : Bool) (k j : ℕ) → is_some (principal_at up k j) ≡ (j == k)
some-at up k j = one (j == k)
  where
    one : (b : Bool) → is_some (if b then Some up else None) ≡ b
    one true = refl
    one false = refl

mutual
  some-principal : (up : Bool) (p : PlanData) (j : ℕ) → is_some (principal_in up p j) ≡ has p j
  some-principal up (bool k) j = some-at up k j
  some-principal up (number k bits signed) j = some-at up k j
  some-principal up (text ends bytes) j = some-or (principal_at up ends j) (principal_at false bytes j)
      ∙ ap₂ (λ (x y : Bool). x || y) (some-at up ends j) (some-at false bytes j)
  some-principal up (list ends p) j = some-or (principal_at up ends j) (principal_in false p j)
      ∙ ap₂ (λ (x y : Bool). x || y) (some-at up ends j) (some-principal false p j)
  some-principal up (maybe ends p) j = some-or (principal_at up ends j) (principal_in false p j)
      ∙ ap₂ (λ (x y : Bool). x || y) (some-at up ends j) (some-principal false p j)
  some-principal up (record_of ps) j = some-principals up ps j
  some-principal up (choice tags ps) j = some-or (principal_at up tags j) (principal_in_any false ps j)
      ∙ ap₂ (λ (x y : Bool). x || y) (some-at up tags j) (some-principals false ps j)

  some-principals : (up : Bool) (ps : PlansData) (j : ℕ) → is_some (principal_in_any up ps j) ≡ has_any ps j
  some-principals up no_plans j = refl
  some-principals up (plan p ps) j = some-or (principal_in up p j) (principal_in_any up ps j)
      ∙ ap₂ (λ (x y : Bool). x || y) (some-principal up p j) (some-principals up ps j)

some-in : (top : ℕ) (o : Option Bool) → is_some (use_in top o) ≡ is_some o
some-in top None = refl
some-in top (Some b) = refl

pub use-some : (fs : List FieldRow) (cs : List ColumnRow) (id : ℕ) (shapes : List (Option ShapeData)) (k : ℕ)
    → is_some (use_from fs cs id shapes k) ≡ has_any (place_from fs cs id shapes) k
use-some fs cs id [] k = refl
use-some fs cs id (None ∷ shapes) k = use-some fs cs (id + 1) shapes k
use-some fs cs id (Some s ∷ shapes) k =
    some-or (use_in id (principal_in true (place fs cs s id) k)) (use_from fs cs (id + 1) shapes k)
    ∙ ap₂ (λ (x y : Bool). x || y) (some-in id (principal_in true (place fs cs s id) k) ∙ some-principal true (place fs cs s id) k)
    (use-some fs cs (id + 1) shapes k)

pub use-top : (fs : List FieldRow) (cs : List ColumnRow) (id : ℕ) (shapes : List (Option ShapeData)) (k : ℕ)
    → option_map top_field_of (use_from fs cs id shapes k) ≡ top_from fs cs id shapes k
use-top fs cs id [] k = refl
use-top fs cs id (None ∷ shapes) k = use-top fs cs (id + 1) shapes k
use-top fs cs id (Some s ∷ shapes) k =
    one (principal_in true (place fs cs s id) k) (has (place fs cs s id) k) (some-principal true (place fs cs s id) k)
    (use-top fs cs (id + 1) shapes k)
  where
    one : (o : Option Bool) (b : Bool) → is_some o ≡ b
        → option_map top_field_of (use_from fs cs (id + 1) shapes k) ≡ top_from fs cs (id + 1) shapes k
        → option_map top_field_of (option_or (use_in id o) (use_from fs cs (id + 1) shapes k))
        ≡ (if b then Some id else top_from fs cs (id + 1) shapes k)
    one None b e later = rw (← e) later
    one (Some up) b e later = rw (← e) refl

-- what is kept of a column of a schema

kept : (fs : List FieldRow) (cs : List ColumnRow) (shapes : List (Option ShapeData)) (uses : List (Option ColumnUse)) (k : ℕ)
    → HaveUses fs cs shapes uses → k < length cs → use_at uses k ≡ use_from fs cs 0 shapes k
kept fs cs shapes uses k h few = h.each k few

pub kept-open : (fs : List FieldRow) (cs : List ColumnRow) (shapes : List (Option ShapeData)) (uses : List (Option ColumnUse)) (k : ℕ)
    → HaveUses fs cs shapes uses → k < length cs → is_some (use_at uses k) ≡ has_any (place_from fs cs 0 shapes) k
kept-open fs cs shapes uses k h few = ap is_some (kept fs cs shapes uses k h few) ∙ use-some fs cs 0 shapes k

pub kept-principal : (fs : List FieldRow) (cs : List ColumnRow) (shapes : List (Option ShapeData)) (uses : List (Option ColumnUse)) (k : ℕ)
    → HaveUses fs cs shapes uses → k < length cs
    → principal_of (use_at uses k) ≡ is_entries (need_in_any entries (place_from fs cs 0 shapes) k)
kept-principal fs cs shapes uses k h few = ap principal_of (kept fs cs shapes uses k h few) ∙ use-principal fs cs 0 shapes k

pub kept-top : (fs : List FieldRow) (cs : List ColumnRow) (shapes : List (Option ShapeData)) (uses : List (Option ColumnUse)) (k : ℕ)
    → HaveUses fs cs shapes uses → k < length cs → option_map top_field_of (use_at uses k) ≡ top_from fs cs 0 shapes k
kept-top fs cs shapes uses k h few = ap (option_map top_field_of) (kept fs cs shapes uses k h few) ∙ use-top fs cs 0 shapes k
