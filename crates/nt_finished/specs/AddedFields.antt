-- Tables to which fields were added, one after the other.
use Rattle.std.specs.Prelude.{ℕ, ◌<◌, ◌≤◌, ◌^◌, Bool, List, [], ◌∷◌}
use Rattle.nt_types.specs.ShapeData.{MemberData}
use Rattle.nt_types.specs.Rules.{IsField}
use Rattle.nt_grammar.specs.Table.{Table}
use Rattle.nt_grammar.specs.Added.{Added}

-- a field that keeps its rules was added to a table behind so many entries at least
pub record AddsField (before : ℕ) (t : Table) (field : MemberData) (new : Table) : Type 0 where
  pub plain : Bool
  pub written : ℕ
  pub late : before ≤ written
  pub short : written < 2 ^ 63
  pub is : IsField field
  pub added : Added t field plain written new

-- a table grew to another by these fields, each added behind so many entries at least
pub data AddsFields (before : ℕ) (new : Table) : Table → List MemberData → Type 0 where
  adds_none : AddsFields before new new []
  adds_one : {t s : Table} {field : MemberData} {fields : List MemberData} → AddsField before t field s
      → AddsFields before new s fields → AddsFields before new t (field ∷ fields)
