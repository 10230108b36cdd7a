-- How what a call answers stands to what is defined.
use Rattle.std.specs.Prelude.{◌≡◌, Option, Some, None, Result, Ok, Err}

-- what is defined is this fault; of want of memory, which is no fault, nothing is said
abbrev pub Refuses : {W F : Type 0} → Option F → Result W F → Type 0
Refuses None defined = Unit {0}
Refuses (Some fault) defined = defined ≡ Err fault

-- a call answers what is defined, or want of memory: the value seen so, or the error that means this fault
abbrev pub Answers : {V W E F : Type 0} → (V → W) → (E → Option F) → Result V E → Result W F → Type 0
Answers value fault (Ok v) defined = defined ≡ Ok (value v)
Answers value fault (Err e) defined = Refuses (fault e) defined
