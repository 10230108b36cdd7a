-- Which bytes stand at known places, of a front of them and of what lies behind.
use Rattle.std.proofs.Common.{◌≡◌, ap, refl, ℕ, zero, suc, ◌+◌, ◌≤◌, ◌&&◌, Bool, true, false, List, [], ◌∷◌, ◌++◌, length, take, arith}
use Rattle.std.specs.Prelude.{IsTrue, min}
use Rattle.nt_outside.specs.Reads.{Known, unknown, allows, all_allowed}

pub first_part : (a b : Bool) → (a && b) ≡ true → a ≡ true
first_part true b h = refl
first_part false b h = h

pub second_part : (a b : Bool) → (a && b) ≡ true → b ≡ true
second_part true b h = h
second_part false b h = absurd (cc)

pub both_parts : (a b : Bool) → a ≡ true → b ≡ true → (a && b) ≡ true
both_parts true b p q = q
both_parts false b p q = p

pub allowed-take : (n : ℕ) (known : List Known) (bytes : List ℕ) → IsTrue (all_allowed known bytes)
    → IsTrue (all_allowed (take n known) (take n bytes))
allowed-take zero known bytes h = refl
allowed-take (suc n) [] [] h = refl
allowed-take (suc n) [] (y ∷ bytes) h = absurd (cc)
allowed-take (suc n) (x ∷ known) [] h = absurd (cc)
allowed-take (suc n) (x ∷ known) (y ∷ bytes) h =
    both_parts (allows x y) _ (first_part (allows x y) _ h) (allowed-take n known bytes (second_part (allows x y) _ h))

pub take-front : (left more : List Known) (n least : ℕ) → least ≡ min (length left) n → take (length left) (take n (left ++ more))
    ≡ take least left
take-front [] more n zero is = refl
take-front [] more n (suc least) is = refl
take-front (x ∷ left) more zero zero is = refl
take-front (x ∷ left) more zero (suc least) is = absurd (omega arith)
take-front (x ∷ left) more (suc n) zero is = absurd (omega arith)
take-front (x ∷ left) more (suc n) (suc least) is = ap (λ (l : List Known). x ∷ l) (take-front left more n least (omega arith))

pub any_allowed : (more : ℕ) (bytes : List ℕ) → length bytes ≤ more → IsTrue (all_allowed (take (length bytes) (unknown more)) bytes)
any_allowed zero [] few = refl
any_allowed zero (y ∷ bytes) few = absurd (omega (arith, few))
any_allowed (suc more) [] few = refl
any_allowed (suc more) (y ∷ bytes) few = any_allowed more bytes (omega (arith, few))

pub allowed-behind : (left : List Known) (more : ℕ) (bytes : List ℕ) → length bytes ≤ length left + more
    → IsTrue (all_allowed (take (length (take (length left) bytes)) left) (take (length left) bytes))
    → IsTrue (all_allowed (take (length bytes) (left ++ unknown more)) bytes)
allowed-behind [] more bytes few h = any_allowed more bytes (omega (arith, few))
allowed-behind (x ∷ left) more [] few h = refl
allowed-behind (x ∷ left) more (y ∷ bytes) few h =
    both_parts (allows x y) _ (first_part (allows x y) _ h)
    (allowed-behind left more bytes (omega (arith, few)) (second_part (allows x y) _ h))
