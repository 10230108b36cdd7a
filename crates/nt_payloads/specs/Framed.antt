-- Texts in frames (RNTuple Binary Format Specification 1.0.0.0, section Frames). A grammar is told here as a relation of the place at which
-- a text begins, the text, and what it stands for.
use Rattle.std.specs.Prelude.{ℕ, ◌≡◌, ◌+◌, ◌^◌, ◌<◌, List, [], ◌∷◌, ◌++◌, length}
use Rattle.nt_format.specs.Frames.{record_frame, list_frame}

-- a record frame, in which such a text stands, and then any bytes
pub record InRecord {V : Type 0} (Inside : ℕ → List ℕ → V → Type 0) (place : ℕ) (text : List ℕ) (value : V) : Type 0 where
  pub known : List ℕ
  pub more : List ℕ
  pub frame : text ≡ record_frame (known ++ more)
  pub size : 8 + length (known ++ more) < 2 ^ 63
  pub is : Inside (place + 8) known value

-- a list frame of so many items, in which such a text of as many stands behind their number, and then any bytes
pub record InList {V : Type 0} (Inside : ℕ → ℕ → List ℕ → V → Type 0) (place : ℕ) (text : List ℕ) (value : V) : Type 0 where
  pub count : ℕ
  pub known : List ℕ
  pub more : List ℕ
  pub frame : text ≡ list_frame count (known ++ more)
  pub few : count < 2 ^ 32
  pub size : 12 + length (known ++ more) < 2 ^ 63
  pub is : Inside count (place + 12) known value

-- items of one kind, one behind the other
pub data Series {V : Type 0} (Item : ℕ → List ℕ → V → Type 0) : ℕ → List ℕ → List V → Type 0 where
  no_item : {place : ℕ} → Series Item place [] []
  and_item : {place : ℕ} {text texts : List ℕ} {item : V} {items : List V} → Item place text item
      → Series Item (place + length text) texts items → Series Item place (text ++ texts) (item ∷ items)

-- so many of them
pub record Items {V : Type 0} (Item : ℕ → List ℕ → V → Type 0) (count place : ℕ) (text : List ℕ) (items : List V) : Type 0 where
  pub len : length items ≡ count
  pub series : Series Item place text items
