-- in the planes so far all bytes but the first are 0
use Rattle.std.proofs.Common.{◌≡◌, ℕ, ◌+◌, ◌*◌, ◌<◌, get_or}
use Rattle.nt_encode.proofs.split.go_on_low.Given as goal

abbrev pub invariant-loop-j : goal.invariant-loop-j
invariant-loop-j l = (i j : ℕ) → 0 < i → i < l.count → 0 < j → j < l.j → get_or l.bytes (j * l.count + i) 0 ≡ 0
