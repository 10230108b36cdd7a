-- Types that nest too deep, and texts that spell no type.
use Rattle.std.proofs.Common.{ℕ, List, [], ◌≡◌, ◌<◌, ◌≤◌, ◌+◌, refl, sym, ◌∙◌, ap, true, false, Option, Some, None, Ok, Err, arith}
use Rattle.std.proofs.lemmas.Bool.Decides.{nat_tests}
use Rattle.std.specs.Prelude.{is_some, nat_le}
use Rattle.nt_types.specs.ShapeData.{ShapeData}
use Rattle.nt_types.specs.Reading.{read, read_kind, start}
use Rattle.nt_types.specs.Lines.{most_open, within_depth, type_of}
use Rattle.nt_types.specs.Spelling.{depth}
use Rattle.nt_types.specs.FaultViews.{or_malformed}
use Rattle.nt_types.specs.declared.fault.SchemaKind.TheVariants.{TooDeep, BadType}
use Rattle.nt_types.proofs.Malformed.{some_read, none_read}
use Rattle.nt_types.proofs.Forget.{read_some, read_none}
use Rattle.nt_types.proofs.Sound.{read_kind-sound}
use Rattle.nt_types.proofs.Nesting.{most_open-spell}

-- the depth of a type is one more than the most constructs that are open in its text
depth_read : (bytes : List ℕ) (k : ShapeData) → read_kind bytes ≡ Some k → depth k ≡ most_open 0 0 bytes + 1
depth_read bytes k e =
    let sound = read_kind-sound bytes k e in
    sym (most_open-spell k sound.1) ∙ ap (λ (l : List ℕ). most_open 0 0 l + 1) sound.0

shallow : (k : ShapeData) → depth k ≤ 32 → within_depth (Some k) ≡ Ok k
shallow k h = let e : nat_le (depth k) 32 ≡ true = grind (arith, nat_tests) in rw e refl

deep : (k : ShapeData) → 32 < depth k → within_depth (Some k) ≡ Err TooDeep
deep k h = let e : nat_le (depth k) 32 ≡ false = grind (arith, nat_tests) in rw e refl

pub type_shallow : (bytes : List ℕ) (k : ShapeData) → most_open 0 0 bytes < 32 → or_malformed (read true start [] bytes) ≡ Ok k
    → type_of bytes ≡ Ok k
type_shallow bytes k h e =
    let read : read_kind bytes ≡ Some k = some_read (read_kind bytes) k e in
    let d : depth k ≡ most_open 0 0 bytes + 1 = depth_read bytes k read in
    rw read (shallow k (omega arith))

pub type_deep : (bytes : List ℕ) (k : ShapeData) → 32 ≤ most_open 0 0 bytes → or_malformed (read false start [] bytes) ≡ Ok k
    → type_of bytes ≡ Err TooDeep
type_deep bytes k h e = found (read_kind bytes) refl (read_some bytes k (some_read (read false start [] bytes) k e))
  where
    found : (r : Option ShapeData) → read_kind bytes ≡ r → is_some r ≡ true → within_depth r ≡ Err TooDeep
    found None is s = cc
    found (Some j) is s = let d : depth j ≡ most_open 0 0 bytes + 1 = depth_read bytes j is in deep j (omega arith)

pub type_malformed : (bytes : List ℕ) → or_malformed (read false start [] bytes) ≡ Err tt → type_of bytes ≡ Err BadType
type_malformed bytes e = rw (read_none bytes (none_read (read false start [] bytes) e)) refl
