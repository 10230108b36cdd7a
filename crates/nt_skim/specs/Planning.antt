-- The plan of a selection: the fields that are chosen by their names, and the test.
use Rattle.std.specs.Prelude.{ℕ, zero, suc, ℤ, ◌+◌, ◌≡◌, Bool, true, false, ◌&&◌, nat_le, List, [], ◌∷◌, map, Option, Some, None}
use Rattle.std.specs.Prelude.{Result, Ok, Err}
use Rattle.std.specs.Prelude.{if◌then◌else◌}
use Rattle.nt_lists.specs.Chaining.{◌>>=◌}
use Rattle.nt_types.specs.ShapeData.{ShapeData, MemberData, char, byte, int}
use Rattle.nt_types.specs.Names.{has_name}
use Rattle.nt_types.specs.Limits.{max_fields}
use Rattle.nt_types.specs.Schema.{field_count}
use Rattle.nt_grammar.specs.Table.{Table}
use Rattle.nt_grammar.specs.Open.{open_shape, open_shapes}
use Rattle.nt_schema.specs.ByName.{find_from}
use Rattle.nt_writable.specs.Written.{as_written}
use Rattle.nt_writable.specs.Fields.{is_field}
use Rattle.nt_skim.specs.declared.error.PlanError.{PlanError}
use Rattle.nt_skim.specs.declared.error.PlanError.TheVariants.{UnknownField, Twice, NotWritable, NotANumber, Memory}
use Rattle.nt_skim.specs.declared.selection.PlaceTest.{PlaceTest}
use Rattle.nt_skim.specs.Select.{Selection}

-- the number in the field of this name lies from the least to the greatest
pub record NameTest : Type 0 where
  pub name : List ℕ
  pub least : ℤ
  pub greatest : ℤ

-- how many of the first shapes are there
abbrev pub shapes_before : List (Option ShapeData) → ℕ → ℕ
shapes_before shapes zero = 0
shapes_before [] (suc n) = 0
shapes_before (None ∷ shapes) (suc n) = shapes_before shapes n
shapes_before (Some k ∷ shapes) (suc n) = suc (shapes_before shapes n)

-- the place of an open field among the open fields at the top level
abbrev pub open_place : Table → ℕ → ℕ
open_place t id = shapes_before (open_shapes t.fields t.columns 0 t.fields) id

-- a field that is chosen: its id, and as what field it is written
pub record ChosenField : Type 0 where
  pub id : ℕ
  pub field : MemberData

-- the field that a shape is written as
abbrev pub field_written : List ℕ → ShapeData → MemberData
field_written name k = record { name = name; of = as_written k }

-- a field, where it can be written beside so many others
abbrev pub writable_field : List ℕ → ℕ → ℕ → Option ShapeData → Result ChosenField PlanError
writable_field name before id None = Err (NotWritable name)
writable_field name before id (Some k) =
    if is_field (field_written name k) && nat_le (before + field_count (as_written k)) max_fields
    then Ok (record { id = id; field = field_written name k }) else Err (NotWritable name)

-- a field of this id, if one has the name, beside those of other names
abbrev pub found_field : Table → List (List ℕ) → ℕ → List ℕ → Option ℕ → Result ChosenField PlanError
found_field t seen before name None = Err (UnknownField name)
found_field t seen before name (Some id) =
    if has_name seen name then Err (Twice name) else writable_field name before id (open_shape t id)

-- the fields of these names, beside those of other names and so many fields
abbrev pub fields_chosen : Table → List (List ℕ) → ℕ → List (List ℕ) → Result (List ChosenField) PlanError
fields_chosen t seen before [] = Ok []
fields_chosen t seen before (n ∷ ns) =
    found_field t seen before n (find_from 0 t.fields n) >>= λ f.
    fields_chosen t (n ∷ seen) (before + field_count f.field.of) ns >>= λ fs. Ok (f ∷ fs)

-- integers, characters and bytes are numbers
abbrev pub is_number : ShapeData → Bool
is_number char = true
is_number byte = true
is_number (int bits signed) = true
is_number _ = false

-- a test of a field of numbers at this place
abbrev pub number_test : NameTest → ℕ → Option ShapeData → Result PlaceTest PlanError
number_test test place None = Err (NotANumber test.name)
number_test test place (Some k) =
    if is_number k then Ok (record { place = place; least = test.least; greatest = test.greatest }) else Err (NotANumber test.name)

-- the test of the field of this id, if one has the name
abbrev pub found_test : Table → NameTest → Option ℕ → Result PlaceTest PlanError
found_test t test None = Err (UnknownField test.name)
found_test t test (Some id) = number_test test (open_place t id) (open_shape t id)

-- the test of a plan, if there is one
abbrev pub test_chosen : Table → Option NameTest → Result (Option PlaceTest) PlanError
test_chosen t None = Ok None
test_chosen t (Some test) = found_test t test (find_from 0 t.fields test.name) >>= λ x. Ok (Some x)

-- the places of chosen fields, and the fields that they are written as
abbrev pub chosen_parts : Table → List ChosenField → List ℕ × List MemberData
chosen_parts t fs = (map (λ (f : ChosenField). open_place t f.id) fs, map (λ (f : ChosenField). f.field) fs)

-- those of the fields of these names
abbrev pub parts_chosen : Table → List (List ℕ) → Result (List ℕ × List MemberData) PlanError
parts_chosen t names = fields_chosen t [] 0 names >>= λ fs. Ok (chosen_parts t fs)

-- what is chosen by these names and this test, or the first that stands against it
abbrev pub planned : Table → List (List ℕ) → Option NameTest → Result Selection PlanError
planned t names test =
    parts_chosen t names >>= λ parts. test_chosen t test >>= λ x. Ok (record { places = parts.0; test = x; fields = parts.1 })

-- the answer is that, but for want of memory
abbrev pub IsPlannedAs : {V W : Type 0} → (V → W) → Result V PlanError → Result W PlanError → Type 0
IsPlannedAs view (Ok v) reading = reading ≡ Ok (view v)
IsPlannedAs view (Err Memory) reading = Unit {0}
IsPlannedAs view (Err (UnknownField name)) reading = reading ≡ Err (UnknownField name)
IsPlannedAs view (Err (Twice name)) reading = reading ≡ Err (Twice name)
IsPlannedAs view (Err (NotWritable name)) reading = reading ≡ Err (NotWritable name)
IsPlannedAs view (Err (NotANumber name)) reading = reading ≡ Err (NotANumber name)
