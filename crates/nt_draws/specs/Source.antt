-- A source that makes the lines of events.
use Rattle.std.specs.Prelude.{◌++◌, drop, Some}
use Rattle.nt_outside.specs.Source.{SourceState}
use Rattle.nt_draws.specs.declared.source.EventSource.{EventSource}
use Rattle.nt_draws.specs.Lines.{events_text}

-- the rest of a line, and the lines of the events that are left; it never fails
abbrev pub state_of : EventSource → SourceState
state_of source = record { left = Some (drop source.at source.line.items ++ events_text source.events source.number); faults = 0 }
