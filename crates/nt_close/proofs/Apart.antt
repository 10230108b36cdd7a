-- Places that nobody else writes.
use Rattle.std.proofs.Common.{◌≡◌, sym, subst, arith, ℕ, List, []}
use Rattle.std.specs.Prelude.{All}
use Rattle.nt_outside.specs.declared.range.Range.{Range}
use Rattle.nt_outside.specs.Range.{IsApart}

-- where no range is out, each place is apart from them
pub nothing_out : (at len : ℕ) (out : List Range) → out ≡ [] → All (IsApart at len) out
nothing_out at len out none = subst (All (IsApart at len)) (sym none) (λ k d low. absurd (omega arith))
