-- What is chosen by a plan fits its fields.
use Rattle.std.proofs.Common.{◌≡◌, ◌∙◌, ap, sym, refl, subst, ℕ, zero, suc, ◌+◌, ◌&&◌, Bool, true, false, List, [], ◌∷◌, slice_get}
use Rattle.std.proofs.Common.{Option, Some, None, Result, Ok, Err, arith}
use Rattle.std.specs.Prelude.{option_and_then, nat_le, IfOk, if◌then◌else◌}
use Rattle.std.proofs.lemmas.Bool.{and_parts, and_from}
use Rattle.nt_lists.proofs.Chaining.{bind_ok}
use Rattle.nt_lists.proofs.Variants.{ok_is, some_is}
use Rattle.nt_types.specs.ShapeData.{ShapeData, MemberData, parts_of}
use Rattle.nt_types.specs.TreeData.{TreeData, TreesData, no_trees, tree}
use Rattle.nt_types.specs.Fits.{fits, fit_parts, fit_kinds}
use Rattle.nt_types.specs.Names.{has_name}
use Rattle.nt_types.specs.Limits.{max_fields}
use Rattle.nt_types.specs.Schema.{field_count}
use Rattle.nt_grammar.specs.Open.{open_shapes, open_shape, top_shape}
use Rattle.nt_grammar.specs.Table.{Table}
use Rattle.nt_grammar.specs.declared.rows.FieldRow.{FieldRow}
use Rattle.nt_schema.specs.ByName.{find_from}
use Rattle.nt_trees.specs.Fits.{some_shapes, fits_entry}
use Rattle.nt_join.specs.Chosen.{tree_in, chosen}
use Rattle.nt_writable.specs.Written.{as_written}
use Rattle.nt_writable.specs.Fields.{is_field}
use Rattle.nt_skim.specs.declared.error.PlanError.{PlanError}
use Rattle.nt_skim.specs.declared.error.PlanError.TheVariants.{Twice, NotWritable}
use Rattle.nt_skim.specs.Planning.{ChosenField, NameTest, field_written, writable_field, found_field, fields_chosen, chosen_parts}
use Rattle.nt_skim.specs.Planning.{parts_chosen}
use Rattle.nt_skim.specs.Planning.{IsPlannedAs, test_chosen, planned, shapes_before, open_place}
use Rattle.nt_skim.specs.Select.{Selection, FitsFields, selection_of}
use Rattle.nt_skim.specs.declared.selection.SkimPlan.{SkimPlan}

-- the tree at the place of an open field fits its shape
fits-at : (shapes : List (Option ShapeData)) (e : TreesData) (id : ℕ) (k : ShapeData) → fit_kinds (some_shapes shapes) e ≡ true
    → slice_get shapes id ≡ Some (Some k) → fits k (tree_in e (shapes_before shapes id)) ≡ true
fits-at [] e id k fit at = absurd cc
fits-at (None ∷ shapes) e zero k fit at = absurd cc
fits-at (Some q ∷ shapes) no_trees id k fit at = absurd cc
fits-at (Some q ∷ shapes) (tree t ts) zero k fit at =
    let same : q ≡ k = some_is q k (some_is (Some q) (Some k) at) in
    ap (λ (s : ShapeData). fits s t) (sym same) ∙ (and_parts (fits q t) (fit_kinds (some_shapes shapes) ts) fit).0
fits-at (None ∷ shapes) e (suc id) k fit at = fits-at shapes e id k fit at
fits-at (Some q ∷ shapes) (tree t ts) (suc id) k fit at =
    fits-at shapes ts id k (and_parts (fits q t) (fit_kinds (some_shapes shapes) ts) fit).1 at

module _ (t : Table) where
  listed-from : (id j i : ℕ) (rs : List FieldRow) (k : ShapeData) → j ≡ id + i
      → option_and_then (top_shape t.fields t.columns j) (slice_get rs i) ≡ Some k
      → slice_get (open_shapes t.fields t.columns id rs) i ≡ Some (Some k)
  listed-from id j i [] k is at = absurd cc
  listed-from id j zero (r ∷ rs) k is at =
      let same : id ≡ j = omega (arith, is) in
      ap (λ (n : ℕ). Some (top_shape t.fields t.columns n r)) same ∙ ap (λ (o : Option ShapeData). Some o) at
  listed-from id j (suc i) (r ∷ rs) k is at = listed-from (id + 1) j i rs k (omega (arith, is)) at

  -- a field that was chosen is open, and written with its shape
  abbrev IsChosen : ChosenField → Type 0
  IsChosen f = (k : ShapeData) × (open_shape t f.id ≡ Some k) × (f.field.of ≡ as_written k)

  abbrev AreChosen : List ChosenField → Type 0
  AreChosen [] = Unit {0}
  AreChosen (f ∷ fs) = IsChosen f × AreChosen fs

  chosen-last : (n : List ℕ) (id : ℕ) (f : ChosenField) (k : ShapeData) (b : Bool) → open_shape t id ≡ Some k
      → (if b then Ok (record { id = id; field = field_written n k }) else Err (NotWritable n)) ≡ Ok f → IsChosen f
  chosen-last n id f k true at h = subst IsChosen (ok_is (record { id = id; field = field_written n k }) f h) (k, at, refl)
  chosen-last n id f k false at h = absurd cc

  chosen-open : (n : List ℕ) (before id : ℕ) (f : ChosenField) (o : Option ShapeData) → open_shape t id ≡ o
      → writable_field n before id o ≡ Ok f → IsChosen f
  chosen-open n before id f None at h = absurd cc
  chosen-open n before id f (Some k) at h =
      chosen-last n id f k (is_field (field_written n k) && nat_le (before + field_count (as_written k)) max_fields) at h

  chosen-fresh : (n : List ℕ) (before id : ℕ) (f : ChosenField) (b : Bool)
      → (if b then Err (Twice n) else writable_field n before id (open_shape t id)) ≡ Ok f → IsChosen f
  chosen-fresh n before id f true h = absurd cc
  chosen-fresh n before id f false h = chosen-open n before id f (open_shape t id) refl h

  chosen-found : (seen : List (List ℕ)) (before : ℕ) (n : List ℕ) (found : Option ℕ) (f : ChosenField)
      → found_field t seen before n found ≡ Ok f → IsChosen f
  chosen-found seen before n None f h = absurd cc
  chosen-found seen before n (Some id) f h = chosen-fresh n before id f (has_name seen n) h

  all-chosen : (names seen : List (List ℕ)) (before : ℕ) (fs : List ChosenField) → fields_chosen t seen before names ≡ Ok fs → AreChosen fs
  all-chosen [] seen before fs h = subst AreChosen (ok_is [] fs h) tt
  all-chosen (n ∷ ns) seen before fs h =
      let first = bind_ok (found_field t seen before n (find_from 0 t.fields n)) _ fs h in
      let rest = bind_ok (fields_chosen t (n ∷ seen) (before + field_count first.0.field.of) ns) _ fs first.2 in
      subst AreChosen (ok_is (first.0 ∷ rest.0) fs rest.2) (
        chosen-found seen before n (find_from 0 t.fields n) first.0 first.1,
        all-chosen ns (n ∷ seen) (before + field_count first.0.field.of) rest.0 rest.1,
      )

  -- the trees at the places of chosen fields fit these
  module _ (same : (k : ShapeData) (u : TreeData) → fits (as_written k) u ≡ fits k u) (e : TreesData) (fit : fits_entry t e ≡ true) where
    one-fits : (f : ChosenField) → IsChosen f → fits f.field.of (tree_in e (open_place t f.id)) ≡ true
    one-fits f is =
        let u = tree_in e (open_place t f.id) in
        ap (λ (k : ShapeData). fits k u) is.2 ∙ same is.0 u
        ∙ fits-at (open_shapes t.fields t.columns 0 t.fields) e f.id is.0 fit
        (listed-from 0 f.id f.id t.fields is.0 (omega arith) is.1)

    all-fit : (fs : List ChosenField) → AreChosen fs → fit_parts (parts_of (chosen_parts t fs).1) (chosen (chosen_parts t fs).0 e) ≡ true
    all-fit [] are = refl
    all-fit (f ∷ fs) are =
        and_from (fits f.field.of (tree_in e (open_place t f.id)))
        (fit_parts (parts_of (chosen_parts t fs).1) (chosen (chosen_parts t fs).0 e))
        (one-fits f are.0) (all-fit fs are.1)

  pub planned-fits : ((k : ShapeData) (u : TreeData) → fits (as_written k) u ≡ fits k u) → (names : List (List ℕ)) (test : Option NameTest)
      (s : Selection) → planned t names test ≡ Ok s → FitsFields t s
  planned-fits same names test s h e fit =
      let parts = bind_ok (parts_chosen t names) _ s h in
      let tested = bind_ok (test_chosen t test) _ s parts.2 in
      let fields = bind_ok (fields_chosen t [] 0 names) _ parts.0 parts.1 in
      let split : chosen_parts t fields.0 ≡ parts.0 = ok_is (chosen_parts t fields.0) parts.0 fields.2 in
      let whole = ok_is (record { places = parts.0.0; test = tested.0; fields = parts.0.1 }) s tested.2 in
      subst (λ (x : Selection). fit_parts (parts_of x.fields) (chosen x.places e) ≡ true) whole
      (subst (λ (x : List ℕ × List MemberData). fit_parts (parts_of x.1) (chosen x.0 e) ≡ true) split
      (all-fit same e fit fields.0 (all-chosen names [] 0 fields.0 fields.1)))

  -- the same of an answer
  pub answer-fits : ((k : ShapeData) (u : TreeData) → fits (as_written k) u ≡ fits k u) → (names : List (List ℕ)) (test : Option NameTest)
      (r : Result SkimPlan PlanError) → IsPlannedAs selection_of r (planned t names test) → IfOk r (λ p. FitsFields t (selection_of p))
  answer-fits same names test (Ok p) is = planned-fits same names test (selection_of p) is
  answer-fits same names test (Err e) is = tt
