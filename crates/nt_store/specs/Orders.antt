-- The line that tells in which order the clusters of a file were committed.
use Rattle.std.specs.Prelude.{◌≡◌, ℕ, List, [], ◌∷◌, ◌++◌, codes, decimal}
use Rattle.std.specs.List.{flat_map}
use Rattle.nt_types.specs.ShapeData.{MemberData}
use Rattle.nt_outside.specs.World.{World}
use Rattle.nt_machine.specs.Deal.{UsesFor}
use Rattle.nt_book.specs.declared.params.Params.{Params}
use Rattle.nt_dealing.specs.Texts.{AreSound, chunks_of}
use Rattle.nt_store.specs.Texts.{AreTexts}

-- a number behind a space
abbrev pub number_text : ℕ → List ℕ
number_text number = 32 ∷ decimal number

-- the word `order`, the context of each cluster, and a line feed
abbrev pub order_line : List ℕ → List ℕ
order_line order = (codes "order" ++ flat_map number_text order) ++ 10 ∷ []

-- the chunks of these texts, none of which has a bad line, may be committed in this order: each text stands in it as often as it has
-- chunks, at one place where clusters are staged
pub record IsOrderOf (p : Params) (fields : List MemberData) (texts : List (List ℕ)) (order : List ℕ) : Type 0 where
  pub sound : AreSound fields texts
  pub uses : UsesFor p.staged order (chunks_of p.cluster fields texts)

-- out gained this of the line of an order of all chunks of the texts
pub record GainsOrderPart (schema : List ℕ) (inputs : List (List ℕ)) (p : Params) (w w' : World) (printed behind : List ℕ) : Type 0 where
  pub fields : List MemberData
  pub texts : List (List ℕ)
  pub are : AreTexts w schema inputs fields texts
  pub order : List ℕ
  pub of : IsOrderOf p fields texts order
  pub line : order_line order ≡ printed ++ behind
  pub gained : w'.out ≡ w.out ++ printed
