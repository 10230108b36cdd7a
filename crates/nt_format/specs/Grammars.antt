-- Grammars: relations of a text and the value that it stands for, and readings that agree with them both ways.
use Rattle.std.specs.Prelude.{ℕ, ◌≡◌, ◌+◌, Bool, true, false, List, [], ◌++◌, length, Result, Ok}
use Rattle.nt_num.specs.Place.{At}
use Rattle.nt_format.specs.Reading.{standing, IsBytes, Takes}

-- what stands in the grammar is read, whatever follows it, and what is read stands in the grammar
pub record IsRead {V E : Type 0} (reading : At → Result (V × At) E) (Text : List ℕ → V → Type 0) : Type 0 where
  pub reads : (text : List ℕ) (value : V) → Text text value → (place : ℕ) (rest : List ℕ)
      → reading (standing place (text ++ rest)) ≡ Ok (value, standing (place + length text) rest)
  pub finds : (here after : At) (value : V) → IsBytes here.left → reading here ≡ Ok (value, after)
      → (text : List ℕ) × Takes here text after × Text text value

-- a text of two parts, of which the second may depend on what the first stands for
pub record Then {V W : Type 0} (First : List ℕ → V → Type 0) (Second : V → List ℕ → W → Type 0) (text : List ℕ) (value : W) : Type 0 where
  pub head : V
  pub first : List ℕ
  pub second : List ℕ
  pub parts : text ≡ first ++ second
  pub is_first : First first head
  pub is_second : Second head second value

-- nothing more, for this value
pub record Makes {V : Type 0} (made : V) (text : List ℕ) (value : V) : Type 0 where
  pub none : text ≡ []
  pub is : value ≡ made

-- the spelling of a value that has one
pub record Spelled {V : Type 0} (spelling : V → List ℕ) (Fits : V → Type 0) (text : List ℕ) (value : V) : Type 0 where
  pub is : text ≡ spelling value
  pub fits : Fits value

-- so many bytes, as they are
abbrev pub Bytes : ℕ → List ℕ → List ℕ → Type 0
Bytes n = Spelled (λ bytes. bytes) (λ bytes. length bytes ≡ n)

-- one of two grammars
abbrev pub Choice : {V : Type 0} → Bool → (List ℕ → V → Type 0) → (List ℕ → V → Type 0) → List ℕ → V → Type 0
Choice true One Other = One
Choice false One Other = Other
