-- The lines of events.
use Rattle.std.specs.Prelude.{ℕ, zero, suc, Bool, List, [], ◌∷◌, ◌++◌, map}
use Rattle.serde_json.specs.Written.{items_text}
use Rattle.nt_types.specs.TreeData.{trees_of}
use Rattle.nt_event.specs.Json.{datas_of, line_of}
use Rattle.nt_draws.specs.Events.{number_tree, event_behind, after_event}

-- the ids of a line and the bracket behind them; where others stand before, each has a comma
abbrev pub ids_text : Bool → List ℕ → List ℕ
ids_text later ids = items_text later (datas_of (trees_of (map number_tree ids)))

-- the line of the event behind a number, with its LF
abbrev pub made_line : ℕ → List ℕ
made_line s = line_of (event_behind s) ++ 10 ∷ []

-- the lines of so many events behind a number
abbrev pub events_text : ℕ → ℕ → List ℕ
events_text zero s = []
events_text (suc n) s = made_line s ++ events_text n (after_event s)
