-- A pen in memory.
use Rattle.nt_outside.specs.Range.{PenState}
use Rattle.nt_memory.specs.declared.tally.Tally.{Tally}
use Rattle.nt_memory.specs.declared.range.MemPen.{MemPen}

-- its faults
abbrev pub state_of : MemPen → PenState
state_of pen = record { faults = pen.tally.faults }

-- its calls
abbrev pub tally_of : MemPen → Tally
tally_of pen = pen.tally
