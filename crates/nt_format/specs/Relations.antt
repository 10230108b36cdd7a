-- Relations of a value: results that agree with them both ways, and the relations of which a file's are made.
use Rattle.std.specs.Prelude.{ℕ, ◌≡◌, ◌≤◌, Bool, true, List, length, take, drop, Option, Some, Result, Ok}
use Rattle.nt_num.specs.Place.{At}
use Rattle.nt_format.specs.Reading.{standing, IsBytes, Takes}
use Rattle.nt_format.specs.Pieces.{piece}

-- a result is this value exactly where that holds of it
pub record Agrees {V E : Type 0} (result : Result V E) (Holds : V → Type 0) : Type 0 where
  pub reads : (value : V) → Holds value → result ≡ Ok value
  pub finds : (value : V) → result ≡ Ok value → Holds value

-- there is a value of which the first holds, and with it the second
pub record With {V W : Type 0} (First : V → Type 0) (Second : V → W → Type 0) (value : W) : Type 0 where
  pub middle : V
  pub first : First middle
  pub second : Second middle value

-- this value and no other
abbrev pub Is : {V : Type 0} → V → V → Type 0
Is made value = value ≡ made

-- a test passes
abbrev pub Passes : Bool → Unit {0} → Type 0
Passes test u = test ≡ true

-- the value that is there
abbrev pub IsThere : {V : Type 0} → Option V → V → Type 0
IsThere there value = there ≡ Some value

-- a text of the grammar stands here, and this value and place are what it stands for and what follows it
pub record Stands {V : Type 0} (Text : List ℕ → V → Type 0) (here : At) (read : V × At) : Type 0 where
  pub text : List ℕ
  pub takes : Takes here text read.1
  pub is : Text text read.0

-- a text of the grammar stands at a place of these bytes, for this value
pub record StandsAt {V : Type 0} (Text : List ℕ → V → Type 0) (file : List ℕ) (at : ℕ) (value : V) : Type 0 where
  pub text : List ℕ
  pub there : take (length text) (drop at file) ≡ text
  pub is : Text text value

-- the beginning of so many bytes of the file
pub record IsPiece (file : List ℕ) (at size : ℕ) (here : At) : Type 0 where
  pub is : piece file at size ≡ Some here.left
  pub begins : here.place ≡ 0

-- the next so many bytes, and what follows them
pub record IsPart (n : ℕ) (here : At) (read : At × At) : Type 0 where
  pub place : read.0.place ≡ here.place
  pub len : length read.0.left ≡ n
  pub takes : Takes here read.0.left read.1
  pub bytes : IsBytes read.0.left
