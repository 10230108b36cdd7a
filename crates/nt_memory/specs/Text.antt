-- A text in memory.
use Rattle.std.specs.Prelude.{ℕ, drop, Some}
use Rattle.nt_outside.specs.Source.{SourceState}
use Rattle.nt_memory.specs.declared.tally.Tally.{Tally}
use Rattle.nt_memory.specs.declared.text.MemSource.{MemSource}

-- what is left of it, and its faults
abbrev pub state_of : MemSource → SourceState
state_of text = record { left = Some (drop text.at text.bytes); faults = text.tally.faults }

-- the most bytes that a read gives
abbrev pub most_of : MemSource → ℕ
most_of text = text.most

-- its calls
abbrev pub tally_of : MemSource → Tally
tally_of text = text.tally
