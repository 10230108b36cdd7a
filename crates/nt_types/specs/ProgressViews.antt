-- What is read of a schema text, as its definition has it.
use Rattle.std.specs.Prelude.{ℕ, ◌≡◌, map, Result, Ok, Err}
use Rattle.nt_types.specs.Views.{member_view}
use Rattle.nt_types.specs.Seen.{KnowsNames}
use Rattle.nt_types.specs.Schema as schema
use Rattle.nt_types.specs.Schema.{at_line}
use Rattle.nt_types.specs.declared.fault.SchemaFault.{SchemaFault}
use Rattle.nt_types.specs.declared.fault.LineError.{LineError}
use Rattle.nt_types.specs.declared.fault.LineError.TheVariants as lines
use Rattle.nt_types.specs.declared.progress.Progress.{Progress}

-- the names, the count and the members are these
pub record Follows (p : Progress) (s : schema.ProgressData) : Type 0 where
  pub seen : KnowsNames p.seen s.seen
  pub count : p.count ≡ s.count
  pub parts : map member_view p.members.items ≡ s.parts

-- a line is taken so, unless memory runs out
abbrev pub TakesLine : ℕ → Progress → Result (Unit {0}) LineError → Result schema.ProgressData SchemaFault → Type 0
TakesLine line after (Ok u) read = (t : schema.ProgressData) × (read ≡ Ok t) × Follows after t
TakesLine line after (Err (lines.Kind k)) read = read ≡ Err (at_line line k)
TakesLine line after (Err lines.Memory) read = Unit {0}
