-- What a plan writes keeps the rules of fields.
use Rattle.std.proofs.Common.{◌≡◌, ◌∙◌, ap, refl, subst, ℕ, suc, ◌+◌, ◌<◌, ◌≤◌, ◌&&◌, Bool, true, false, List, [], ◌∷◌, map, length}
use Rattle.std.proofs.Common.{Option, Some, None, Result, Ok, Err, arith}
use Rattle.std.specs.Prelude.{nat_le, not, IfOk, if◌then◌else◌}
use Rattle.std.proofs.lemmas.Bool.{and_parts, and_from, leb-true}
use Rattle.std.proofs.lemmas.List.{length-map}
use Rattle.nt_lists.proofs.Chaining.{bind_ok}
use Rattle.nt_lists.proofs.Variants.{ok_is}
use Rattle.nt_types.specs.ShapeData.{ShapeData, MemberData, parts_of}
use Rattle.nt_types.specs.Names.{has_name, are_new}
use Rattle.nt_types.specs.Limits.{max_depth, max_fields}
use Rattle.nt_types.specs.Rules.{AreFields, IsField}
use Rattle.nt_types.specs.Schema.{field_count, parts_count}
use Rattle.nt_types.specs.Spelling.{AreMoreParts, deepest_part}
use Rattle.nt_grammar.specs.Open.{open_shape}
use Rattle.nt_grammar.specs.Table.{Table}
use Rattle.nt_schema.specs.ByName.{find_from}
use Rattle.nt_writable.specs.Written.{as_written}
use Rattle.nt_writable.specs.Fields.{is_field}
use Rattle.nt_skim.specs.declared.error.PlanError.{PlanError}
use Rattle.nt_skim.specs.declared.error.PlanError.TheVariants.{Twice, NotWritable}
use Rattle.nt_skim.specs.declared.selection.SkimPlan.{SkimPlan}
use Rattle.nt_skim.specs.Planning.{ChosenField, NameTest, field_written, writable_field, found_field, fields_chosen, chosen_parts}
use Rattle.nt_skim.specs.Planning.{IsPlannedAs, parts_chosen, test_chosen, planned}
use Rattle.nt_skim.specs.Select.{Selection, selection_of}

-- a field that was chosen for a name, beside these names and so many fields
record IsChosenFor (seen : List (List ℕ)) (before : ℕ) (n : List ℕ) (f : ChosenField) : Type 0 where
  named : f.field.name ≡ n
  fresh : has_name seen n ≡ false
  kept : is_field f.field ≡ true
  few : before + field_count f.field.of ≤ max_fields

module _ (seen : List (List ℕ)) (before : ℕ) (n : List ℕ) (f : ChosenField) where
  for-last : (id : ℕ) (k : ShapeData) (b : Bool) → has_name seen n ≡ false
      → (is_field (field_written n k) && nat_le (before + field_count (as_written k)) max_fields) ≡ b
      → (if b then Ok (record { id = id; field = field_written n k }) else Err (NotWritable n)) ≡ Ok f → IsChosenFor seen before n f
  for-last id k true fresh e h =
      let p = and_parts (is_field (field_written n k)) (nat_le (before + field_count (as_written k)) max_fields) e in
      subst (λ (x : ChosenField). IsChosenFor seen before n x) (ok_is (record { id = id; field = field_written n k }) f h)
      (record { named = refl; fresh = fresh; kept = p.0; few = leb-true (before + field_count (as_written k)) max_fields p.1 })
  for-last id k false fresh e h = absurd cc

  for-open : (id : ℕ) (o : Option ShapeData) → has_name seen n ≡ false → writable_field n before id o ≡ Ok f
      → IsChosenFor seen before n f
  for-open id None fresh h = absurd cc
  for-open id (Some k) fresh h =
      for-last id k (is_field (field_written n k) && nat_le (before + field_count (as_written k)) max_fields) fresh refl h

  for-fresh : (t : Table) (id : ℕ) (b : Bool) → has_name seen n ≡ b
      → (if b then Err (Twice n) else writable_field n before id (open_shape t id)) ≡ Ok f → IsChosenFor seen before n f
  for-fresh t id true e h = absurd cc
  for-fresh t id false e h = for-open id (open_shape t id) e h

  for-found : (t : Table) (found : Option ℕ) → found_field t seen before n found ≡ Ok f → IsChosenFor seen before n f
  for-found t None h = absurd cc
  for-found t (Some id) h = for-fresh t id (has_name seen n) refl h

-- fields beside these names and so many fields
record KeepRules (seen : List (List ℕ)) (before : ℕ) (ps : List MemberData) : Type 0 where
  new : are_new seen ps ≡ true
  rules : AreMoreParts (parts_of ps)
  shallow : deepest_part (parts_of ps) ≤ max_depth
  few : before + parts_count (parts_of ps) ≤ max_fields

one-more : (tested : (p : MemberData) → is_field p ≡ true → IsField p) (seen : List (List ℕ)) (before : ℕ) (n : List ℕ)
    (f : ChosenField) (ps : List MemberData) → IsChosenFor seen before n f
    → KeepRules (n ∷ seen) (before + field_count f.field.of) ps → KeepRules seen before (f.field ∷ ps)
one-more tested seen before n f ps own rest =
    let kept = tested f.field own.kept in
    record {
      new = and_from (not (has_name seen f.field.name)) (are_new (f.field.name ∷ seen) ps)
          (ap (λ (m : List ℕ). not (has_name seen m)) own.named ∙ ap not own.fresh)
          (ap (λ (m : List ℕ). are_new (m ∷ seen) ps) own.named ∙ rest.new);
      rules = (kept.named, kept.typed, rest.rules);
      shallow = omega (arith, kept.shallow, rest.shallow);
      few = omega (arith, rest.few);
    }

all-kept : (t : Table) → ((p : MemberData) → is_field p ≡ true → IsField p) → (names seen : List (List ℕ)) (before : ℕ)
    (fs : List ChosenField) → before ≤ max_fields → fields_chosen t seen before names ≡ Ok fs
    → KeepRules seen before (map (λ (f : ChosenField). f.field) fs) × (length fs ≡ length names)
all-kept t tested [] seen before fs few h =
    subst (λ (l : List ChosenField). KeepRules seen before (map (λ (f : ChosenField). f.field) l) × (length l ≡ 0)) (ok_is [] fs h)
    (record { new = refl; rules = tt; shallow = omega arith; few = omega (arith, few) }, refl)
all-kept t tested (n ∷ ns) seen before fs few h =
    let first = bind_ok (found_field t seen before n (find_from 0 t.fields n)) _ fs h in
    let rest = bind_ok (fields_chosen t (n ∷ seen) (before + field_count first.0.field.of) ns) _ fs first.2 in
    let own = for-found seen before n first.0 t (find_from 0 t.fields n) first.1 in
    let others = all-kept t tested ns (n ∷ seen) (before + field_count first.0.field.of) rest.0 own.few rest.1 in
    subst (λ (l : List ChosenField). KeepRules seen before (map (λ (f : ChosenField). f.field) l) × (length l ≡ length (n ∷ ns)))
    (ok_is (first.0 ∷ rest.0) fs rest.2)
    (one-more tested seen before n first.0 (map (λ (f : ChosenField). f.field) rest.0) own others.0, ap suc others.1)

planned-rules : (t : Table) → ((p : MemberData) → is_field p ≡ true → IsField p) → (names : List (List ℕ)) (test : Option NameTest)
    (s : Selection) → planned t names test ≡ Ok s → 0 < length names → AreFields s.fields
planned-rules t tested names test s h some =
    let parts = bind_ok (parts_chosen t names) _ s h in
    let asked = bind_ok (test_chosen t test) _ s parts.2 in
    let fields = bind_ok (fields_chosen t [] 0 names) _ parts.0 parts.1 in
    let split = ok_is (chosen_parts t fields.0) parts.0 fields.2 in
    let whole = ok_is (record { places = parts.0.0; test = asked.0; fields = parts.0.1 }) s asked.2 in
    let kept = all-kept t tested names [] 0 fields.0 (omega arith) fields.1 in
    let are : AreFields (map (λ (f : ChosenField). f.field) fields.0) =
    record {
      some = omega (arith, some, kept.1, length-map fields.0 (λ (f : ChosenField). f.field));
      differ = kept.0.new;
      rules = kept.0.rules;
      shallow = kept.0.shallow;
      few = omega (arith, kept.0.few);
    } in
    subst (λ (x : Selection). AreFields x.fields) whole (subst (λ (x : List ℕ × List MemberData). AreFields x.1) split are)

-- the same of an answer
pub answer-rules : (t : Table) → ((p : MemberData) → is_field p ≡ true → IsField p) → (names : List (List ℕ)) (test : Option NameTest)
    (r : Result SkimPlan PlanError) → IsPlannedAs selection_of r (planned t names test) → 0 < length names
    → IfOk r (λ p. AreFields (selection_of p).fields)
answer-rules t tested names test (Ok p) is some = planned-rules t tested names test (selection_of p) is some
answer-rules t tested names test (Err e) is some = tt
