-- The totals of events that are made.
use Rattle.std.specs.Prelude.{ℕ, List, map}
use Rattle.std.specs.Int.{div_ceil}
use Rattle.std.specs.List.{range_with_len}
use Rattle.nt_draws.specs.Events.{events_behind}
use Rattle.nt_draws.specs.Making.{max_events}
use Rattle.nt_generate.specs.declared.total.Total.{Total}
use Rattle.nt_generate.specs.Numbers.{entries_sum}
use Rattle.nt_generate.specs.Lines.{total_lines}

-- the most events of a context
abbrev pub most_events : ℕ
most_events = max_events

-- of so many events behind a number, of which a cluster has at most so many: the clusters, the events, and the sum of their runs and ids
abbrev pub made_total : ℕ → ℕ → ℕ → Total
made_total most events number = record {
  clusters = div_ceil events most;
  entries = events;
  sum = entries_sum (events_behind events number);
}

-- the same of each of so many contexts
abbrev pub made_totals : ℕ → ℕ → ℕ → ℕ → List Total
made_totals most contexts events seed = map (made_total most events) (range_with_len seed contexts)

-- their lines
abbrev pub made_totals_lines : ℕ → ℕ → ℕ → ℕ → List ℕ
made_totals_lines most contexts events seed = total_lines (made_totals most contexts events seed)
