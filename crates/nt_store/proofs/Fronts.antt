-- What the front of a schema text says of the text.
use Rattle.std.proofs.Common.{◌≡◌, ◌∙◌, ap, ◌≤◌, ℕ, List, ◌++◌, length, length-append, Option, Some, None, Result, Ok, Err, refl, Bool}
use Rattle.std.proofs.Common.{true, false, arith}
use Rattle.std.specs.Prelude.{IsSome, nat_lt, ◌^◌}
use Rattle.std.proofs.lemmas.List.{append-nil}
use Rattle.std.proofs.lemmas.Bool.Decides.{nat_tests}
use Rattle.nt_outside.specs.Source.{IsFrontOf, TakesFront}
use Rattle.nt_types.specs.Schema.{schema_text}
use Rattle.nt_types.specs.declared.shape.Members.{Members}
use Rattle.nt_store.specs.declared.error.StoreError.{StoreError}
use Rattle.nt_store.specs.declared.error.StoreError.TheVariants.{Outside, Memory, Schema, Line, Limit}
use Rattle.nt_store.specs.Schemas.{TellsFields, TellsSchema}

-- a front that isn't longer than asked for is the whole text
whole_front : (most : ℕ) (bytes left : List ℕ) → IsFrontOf most bytes left → length bytes ≤ most → left ≡ bytes
whole_front most bytes left front short =
    front.joined ∙ ap (λ (l : List ℕ). bytes ++ l) (front.whole short) ∙ append-nil bytes

-- a text that is too long and its front are refused alike
both_long : (bytes left : List ℕ) → nat_lt (2 ^ 20) (length bytes) ≡ true → nat_lt (2 ^ 20) (length left) ≡ true
    → schema_text left ≡ schema_text bytes
both_long bytes left long longer = rw (long, longer) refl

schema_by : (b : Bool) (bytes left : List ℕ) → nat_lt (2 ^ 20) (length bytes) ≡ b → IsFrontOf (2 ^ 20) bytes left
    → schema_text left ≡ schema_text bytes
schema_by true bytes left long front =
    both_long bytes left long (grind (arith, nat_tests, long, ap length front.joined, length-append bytes front.rest))
schema_by false bytes left short front = ap schema_text (whole_front (2 ^ 20) bytes left front (grind (arith, nat_tests, short)))

-- the front of a schema text says what the text says
schema_of_front : (bytes left : List ℕ) → IsFrontOf (2 ^ 20) bytes left → schema_text left ≡ schema_text bytes
schema_of_front bytes left front = schema_by (nat_lt (2 ^ 20) (length bytes)) bytes left refl front

schema_tells : (text bytes : List ℕ) (result : Result Members StoreError) → IsFrontOf (2 ^ 20) bytes text → TellsFields bytes result
    → TellsSchema (Some text) result
schema_tells text bytes (Ok value) front told = schema_of_front bytes text front ∙ told
schema_tells text bytes (Err (Schema line kind)) front told = schema_of_front bytes text front ∙ told
schema_tells text bytes (Err Outside) front told = tt
schema_tells text bytes (Err Memory) front told = tt
schema_tells text bytes (Err (Line input line kind)) front told = told
schema_tells text bytes (Err (Limit reached limit)) front told = told

-- what the front of a text says of it
pub schema_is_told : (found left : Option (List ℕ)) (bytes : List ℕ) (result : Result Members StoreError) → IsSome found → left ≡ found
    → TakesFront left (2 ^ 20) bytes → TellsFields bytes result → TellsSchema found result
schema_is_told None left bytes result some is front told = absurd (cc some)
schema_is_told (Some text) left bytes result some is front told = schema_tells text bytes result (front.front text is) told
