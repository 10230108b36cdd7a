-- Steps that are left.
use Rattle.std.proofs.Common.{◌≡◌, ℕ, suc, ◌+◌, ◌-◌, ◌<◌, ◌≤◌, arith}

-- one of those that are left
pub one_less : (n i : ℕ) → i < n → n - i ≡ suc (n - (i + 1))
one_less n i lt = omega arith

pub none_left : (n i : ℕ) → n ≤ i → n - i ≡ 0
none_left n i le = omega arith
