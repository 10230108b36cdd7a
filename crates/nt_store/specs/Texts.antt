-- The texts of a host that a file is written of.
use Rattle.std.specs.Prelude.{◌≡◌, ℕ, List, map, Some, Ok}
use Rattle.nt_types.specs.ShapeData.{MemberData}
use Rattle.nt_types.specs.Schema.{schema_text}
use Rattle.nt_outside.specs.World.{World, file}
use Rattle.nt_store.specs.Worlds.{IsThereWith}

-- a host has a schema text of these fields, and these texts under the names of the inputs
pub record AreTexts (w : World) (schema : List ℕ) (inputs : List (List ℕ)) (fields : List MemberData) (texts : List (List ℕ)) : Type 0 where
  pub schema_is : IsThereWith (λ text. schema_text text ≡ Ok fields) (file w schema)
  pub inputs_are : map (file w) inputs ≡ map (λ (text : List ℕ). Some text) texts
