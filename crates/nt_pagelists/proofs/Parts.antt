-- Parts of a payload that are read back, whatever follows them.
use Rattle.std.proofs.Common.{◌≡◌, ℕ, ◌+◌, ◌<◌, ◌^◌, true, eqb, List, ◌++◌, length, Ok, refl, ap, ◌∙◌, eq-eqb, arith}
use Rattle.std.specs.Int.{w64, to_le_bytes}
use Rattle.std.proofs.lemmas.List.{length-append}
use Rattle.nt_format.specs.Reading.{standing, ReadsAs}
use Rattle.nt_format.specs.Frames.{list_frame, list_at}
use Rattle.nt_format.proofs.Placed.{u64_at, u64-reads}
use Rattle.nt_pagelists.specs.PageLists.{header_sum_at}
use Rattle.nt_format.proofs.Frames.{list_again}

-- a list frame, and the place behind it
pub list-reads : (n place : ℕ) (inside rest : List ℕ) → n < 2 ^ 32 → 12 + length inside < 2 ^ 63
    → list_at (standing place (list_frame n inside ++ rest))
    ≡ Ok ((n, standing (place + 12) inside), standing (place + length (list_frame n inside)) rest)
list-reads n place inside rest few small =
    let end : place + (12 + length inside) ≡ place + length (list_frame n inside) = omega arith in
    list_again n inside rest place few small ∙ ap (λ (k : ℕ). Ok ((n, standing (place + 12) inside), standing k rest)) end

-- the checksum of the header
pub sum-reads : (sum : ℕ) → sum < 2 ^ 64 → ReadsAs (header_sum_at sum) (to_le_bytes w64 sum) sum
unfolding header_sum_at u64_at
sum-reads sum fits place rest =
    let same : eqb sum sum ≡ true = eq-eqb _ _ refl in
    rw (u64-reads sum fits place rest, same) refl

pub front-below : (a b : List ℕ) (n : ℕ) → length (a ++ b) < n → length a < n
front-below a b n h = omega (arith, length-append a b, h)

pub back-below : (a b : List ℕ) (n : ℕ) → length (a ++ b) < n → length b < n
back-below a b n h = omega (arith, length-append a b, h)
