-- Rows by the field that they belong to, as the code keeps them.
use Rattle.std.specs.Prelude.{ℕ, zero, suc, ◌≡◌, ◌<◌, List, [], ◌∷◌, length, Vec}
use Rattle.std.specs.declared.alloc.Global.{Global}
use Rattle.nt_grammar.specs.declared.rows.FieldRow.{FieldRow}
use Rattle.nt_grammar.specs.declared.rows.ColumnRow.{ColumnRow}
use Rattle.nt_grammar.specs.Open.{ids_inside, columns_of_field}
use Rattle.nt_plans.specs.Place.{column_ids}

-- the list at an index
abbrev pub items_at : {T : Type 0} → List (Vec T Global) → ℕ → List T
items_at [] i = []
items_at (v ∷ vs) zero = v.items
items_at (v ∷ vs) (suc i) = items_at vs i

-- the ids of the fields inside each of these fields
pub record HaveInside (fs : List FieldRow) (lists : List (Vec ℕ Global)) : Type 0 where
  pub count : length lists ≡ length fs
  pub each : (id : ℕ) → id < length fs → items_at lists id ≡ ids_inside id 0 fs

-- the columns of each of so many fields
pub record HaveColumns (count : ℕ) (cs : List ColumnRow) (lists : List (Vec ColumnRow Global)) : Type 0 where
  pub fields : length lists ≡ count
  pub each : (id : ℕ) → id < count → items_at lists id ≡ columns_of_field id cs

-- the ids of the columns of each of so many fields
pub record HaveColumnIds (count : ℕ) (cs : List ColumnRow) (lists : List (Vec ℕ Global)) : Type 0 where
  pub fields : length lists ≡ count
  pub each : (id : ℕ) → id < count → items_at lists id ≡ column_ids id 0 cs
