-- Fields that are chosen one after the other.
use Rattle.std.proofs.Common.{◌≡◌, ◌∙◌, ap, sym, refl, subst, ℕ, ◌+◌, ◌<◌, ◌≤◌, ◌&&◌, min, Bool, true, false, List, [], ◌∷◌, ◌++◌, map}
use Rattle.std.proofs.Common.{drop, length}
use Rattle.std.proofs.Common.{Option, Some, None, Result, Ok, Err, get_or, append_assoc, arith, Bor}
use Rattle.std.specs.Prelude.{nat_le, not, if◌then◌else◌}
use Rattle.std.specs.BTreeSet.{BTreeSet}
use Rattle.std.proofs.lemmas.Bool.{and_parts, leb-true}
use Rattle.std.proofs.lemmas.List.{drop_more, drop_all, map-append, append-nil}
use Rattle.nt_lists.specs.Chaining.{◌>>=◌}
use Rattle.nt_lists.proofs.Variants.{ok_is}
use Rattle.nt_types.specs.ShapeData.{ShapeData, MemberData}
use Rattle.nt_types.specs.Names.{has_name}
use Rattle.nt_types.specs.Seen.{KnowsNames}
use Rattle.nt_types.specs.Limits.{max_fields}
use Rattle.nt_types.specs.Schema.{field_count}
use Rattle.nt_grammar.specs.Open.{open_shape}
use Rattle.nt_grammar.specs.Table.{Table}
use Rattle.nt_schema.specs.ByName.{find_from}
use Rattle.nt_writable.specs.Written.{as_written}
use Rattle.nt_writable.specs.Fields.{is_field}
use Rattle.nt_skim.specs.declared.error.PlanError.{PlanError}
use Rattle.nt_skim.specs.declared.error.PlanError.TheVariants.{UnknownField, Twice, NotWritable, NotANumber, Memory}
use Rattle.nt_skim.specs.Planning.{ChosenField, field_written, writable_field, found_field, fields_chosen, chosen_parts, parts_chosen}
use Rattle.nt_skim.specs.Planning.{open_place}
use Rattle.nt_skim.specs.Planning.{IsPlannedAs}

-- ---- there are few enough fields

few-last : (n : List ℕ) (before id : ℕ) (f : ChosenField) (k : ShapeData) (b : Bool)
    → (is_field (field_written n k) && nat_le (before + field_count (as_written k)) max_fields) ≡ b
    → (if b then Ok (record { id = id; field = field_written n k }) else Err (NotWritable n)) ≡ Ok f
    → before + field_count f.field.of ≤ max_fields
few-last n before id f k true e h =
    subst (λ (x : ChosenField). before + field_count x.field.of ≤ max_fields) (ok_is (record { id = id; field = field_written n k }) f h)
    (leb-true (before + field_count (as_written k)) max_fields
    (and_parts (is_field (field_written n k)) (nat_le (before + field_count (as_written k)) max_fields) e).1)
few-last n before id f k false e h = absurd cc

few-open : (n : List ℕ) (before id : ℕ) (f : ChosenField) (o : Option ShapeData) → writable_field n before id o ≡ Ok f
    → before + field_count f.field.of ≤ max_fields
few-open n before id f None h = absurd cc
few-open n before id f (Some k) h =
    few-last n before id f k (is_field (field_written n k) && nat_le (before + field_count (as_written k)) max_fields) refl h

few-fresh : (t : Table) (n : List ℕ) (before id : ℕ) (f : ChosenField) (b : Bool)
    → (if b then Err (Twice n) else writable_field n before id (open_shape t id)) ≡ Ok f → before + field_count f.field.of ≤ max_fields
few-fresh t n before id f true h = absurd cc
few-fresh t n before id f false h = few-open n before id f (open_shape t id) h

few-found : (t : Table) (seen : List (List ℕ)) (before : ℕ) (n : List ℕ) (found : Option ℕ) (f : ChosenField)
    → found_field t seen before n found ≡ Ok f → before + field_count f.field.of ≤ max_fields
few-found t seen before n None f h = absurd cc
few-found t seen before n (Some id) f h = few-fresh t n before id f (has_name seen n) h

-- ---- so far

-- these, and what is chosen behind them
abbrev pub prefixed : List ChosenField → Result (List ChosenField) PlanError → Result (List ChosenField) PlanError
prefixed done (Ok fs) = Ok (done ++ fs)
prefixed done (Err e) = Err e

prefixed-none : (r : Result (List ChosenField) PlanError) → r ≡ prefixed [] r
prefixed-none (Ok fs) = refl
prefixed-none (Err e) = refl

prefixed-more : (done : List ChosenField) (f : ChosenField) (r : Result (List ChosenField) PlanError)
    → prefixed done (r >>= λ fs. Ok (f ∷ fs)) ≡ prefixed (done ++ f ∷ []) r
prefixed-more done f (Ok fs) = ap (λ (l : List ChosenField). Ok l) (sym (append_assoc done (f ∷ []) fs))
prefixed-more done f (Err e) = refl

-- the fields of the names before this one were chosen
pub record HasChosen (t : Table) (names : List (List ℕ)) (i count : ℕ) (places : List ℕ) (fields : List MemberData)
    (seen : BTreeSet (Bor (List ℕ))) : Type 0 where
  pub done : List ChosenField
  pub before : List (List ℕ)
  pub reads : fields_chosen t [] 0 names ≡ prefixed done (fields_chosen t before count (drop i names))
  pub places_are : places ≡ map (λ (f : ChosenField). open_place t f.id) done
  pub fields_are : fields ≡ map (λ (f : ChosenField). f.field) done
  pub knows : KnowsNames seen before
  pub few : count ≤ max_fields

pub chosen-none : (t : Table) (names : List (List ℕ)) (places : List ℕ) (fields : List MemberData) (seen : BTreeSet (Bor (List ℕ)))
    → places ≡ [] → fields ≡ [] → KnowsNames seen [] → HasChosen t names 0 0 places fields seen
chosen-none t names places fields seen no_place no_field knows = record {
  done = [];
  before = [];
  reads = prefixed-none (fields_chosen t [] 0 names);
  places_are = no_place;
  fields_are = no_field;
  knows = knows;
  few = omega arith;
}

module _ (t : Table) (names : List (List ℕ)) (i count : ℕ) (places : List ℕ) (fields : List MemberData) (seen : BTreeSet (Bor (List ℕ)))
    (so-far : HasChosen t names i count places fields seen) where
  pub chosen-all : length names ≤ i → parts_chosen t names ≡ Ok (places, fields)
  chosen-all past =
      let whole : fields_chosen t [] 0 names ≡ Ok so-far.done =
      so-far.reads ∙ ap (λ (l : List (List ℕ)). prefixed so-far.done (fields_chosen t so-far.before count l)) (drop_all i names past)
      ∙ ap (λ (l : List ChosenField). Ok l) (append-nil so-far.done) in
      ap (λ (r : Result (List ChosenField) PlanError). r >>= λ fs. Ok (chosen_parts t fs)) whole
      ∙ ap (λ (l : List ℕ). Ok (l, (chosen_parts t so-far.done).1)) (sym so-far.places_are)
      ∙ ap (λ (l : List MemberData). Ok (places, l)) (sym so-far.fields_are)

  module _ (name : List ℕ) (less : i < length names) (at : name ≡ get_or names i name) where
    abbrev found : Result ChosenField PlanError
    found = found_field t so-far.before count name (find_from 0 t.fields name)

    next-name : drop i names ≡ name ∷ drop (i + 1) names
    next-name = drop_more names i name less ∙ ap (λ (n : List ℕ). n ∷ drop (i + 1) names) (sym at)

    behind : fields_chosen t [] 0 names
        ≡ prefixed so-far.done (found >>= λ f. fields_chosen t (name ∷ so-far.before) (count + field_count f.field.of) (drop (i + 1) names)
        >>= λ fs. Ok (f ∷ fs))
    behind = so-far.reads ∙ ap (λ (l : List (List ℕ)). prefixed so-far.done (fields_chosen t so-far.before count l)) next-name

    pub chosen-more : (f : ChosenField) (more : ℕ) (places' : List ℕ) (fields' : List MemberData) (seen' : BTreeSet (Bor (List ℕ)))
        → found ≡ Ok f → more ≡ min 4097 (count + field_count f.field.of) → places' ≡ places ++ open_place t f.id ∷ []
        → fields' ≡ fields ++ f.field ∷ [] → KnowsNames seen' (name ∷ so-far.before)
        → HasChosen t names (i + 1) more places' fields' seen'
    chosen-more f more places' fields' seen' is counted put_place put_field knows =
        let few : count + field_count f.field.of ≤ max_fields =
        few-found t so-far.before count name (find_from 0 t.fields name) f is in
        let same : count + field_count f.field.of ≡ more = omega (arith, few, counted) in
        record {
          done = so-far.done ++ f ∷ [];
          before = name ∷ so-far.before;
          reads = behind
              ∙ ap (λ (r : Result ChosenField PlanError). prefixed so-far.done (r >>= λ g. fields_chosen t (name ∷ so-far.before)
              (count + field_count g.field.of) (drop (i + 1) names) >>= λ fs. Ok (g ∷ fs))) is
              ∙ prefixed-more so-far.done f (fields_chosen t (name ∷ so-far.before) (count + field_count f.field.of) (drop (i + 1) names))
              ∙ ap (λ (n : ℕ). prefixed (so-far.done ++ f ∷ []) (fields_chosen t (name ∷ so-far.before) n (drop (i + 1) names))) same;
          places_are = put_place ∙ ap (λ (l : List ℕ). l ++ open_place t f.id ∷ []) so-far.places_are
              ∙ sym (map-append (λ (g : ChosenField). open_place t g.id) so-far.done (f ∷ []));
          fields_are = put_field ∙ ap (λ (l : List MemberData). l ++ f.field ∷ []) so-far.fields_are
              ∙ sym (map-append (λ (g : ChosenField). g.field) so-far.done (f ∷ []));
          knows = knows;
          few = omega (arith, few, same);
        }

    refused : (e : PlanError) → found ≡ Err e → parts_chosen t names ≡ Err e
    refused e is =
        let whole : fields_chosen t [] 0 names ≡ Err e =
        behind
        ∙ ap (λ (r : Result ChosenField PlanError). prefixed so-far.done (r >>= λ g. fields_chosen t (name ∷ so-far.before)
        (count + field_count g.field.of) (drop (i + 1) names) >>= λ fs. Ok (g ∷ fs))) is in
        ap (λ (r : Result (List ChosenField) PlanError). r >>= λ fs. Ok (chosen_parts t fs)) whole

    pub chosen-refused : {V W : Type 0} (one : V → ChosenField) (all : W → List ℕ × List MemberData) (e : PlanError)
        → IsPlannedAs one (Err e) found → IsPlannedAs all (Err e) (parts_chosen t names)
    chosen-refused one all (UnknownField n) is = refused (UnknownField n) is
    chosen-refused one all (Twice n) is = refused (Twice n) is
    chosen-refused one all (NotWritable n) is = refused (NotWritable n) is
    chosen-refused one all (NotANumber n) is = refused (NotANumber n) is
    chosen-refused one all Memory is = tt

-- ---- names that were seen

pub not-not : (b : Bool) → not (not b) ≡ b
not-not true = refl
not-not false = refl
