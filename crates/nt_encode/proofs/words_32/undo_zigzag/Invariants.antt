-- the numbers stand in the places of the words so far
use Rattle.std.proofs.Common.{◌≡◌, ℕ, ◌<◌, ◌≤◌, get_or}
use Rattle.nt_encode.specs.Zigzag.{zigzag_value}
use Rattle.nt_encode.proofs.words_32.undo_zigzag.Given as goal

abbrev pub invariant-loop-word : goal.invariant-loop-word
invariant-loop-word l =
    ((k : ℕ) → k < l.word-index → get_or l.words k 0 ≡ zigzag_value 32 (get_or l.fn.words k 0))
    × ((k : ℕ) → l.word-index ≤ k → get_or l.words k 0 ≡ get_or l.fn.words k 0)
