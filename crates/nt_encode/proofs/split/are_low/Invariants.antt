-- what is above the lowest bytes so far is bounded, and where it is nothing, so far all words are low
use Rattle.std.proofs.Common.{◌≡◌, ℕ, ◌*◌, ◌<◌, ◌≤◌, ◌^◌, get_or}
use Rattle.nt_encode.proofs.split.are_low.Given as goal

abbrev pub invariant-loop-word : goal.invariant-loop-word
invariant-loop-word l = (l.above ≤ l.word-index * 2 ^ 56) × (l.above ≡ 0 → (k : ℕ) → k < l.word-index → get_or l.words k 0 < 256)
