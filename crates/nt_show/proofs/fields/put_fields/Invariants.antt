use Rattle.std.proofs.Common.{◌≡◌, ◌≤◌, ℕ, Bool, List, ◌++◌, length, drop}
use Rattle.nt_types.specs.TreeData.{TreesData}
use Rattle.nt_grammar.specs.Table.{Table}
use Rattle.nt_outside.specs.World.{HostState}
use Rattle.nt_show.specs.Ranges.{entry_lines}
use Rattle.nt_show.specs.Fields.{fields_from, fields_told}
use Rattle.nt_show.specs.Gathering.{PrintsSome, OnlyPrints}
use Rattle.nt_show.proofs.fields.put_fields.Given as goal

-- the fields before this one were shown
pub record HasShown (t : Table) (known : List Bool) (k : ℕ) (old : HostState) (waiting : List ℕ) (new : HostState) (left : List ℕ) : Type
    0 where
  pub shown : List TreesData
  pub all : fields_told t ≡ shown ++ fields_from t known (drop k t.fields)
  pub count : length known ≡ k
  pub gathers : PrintsSome (entry_lines shown) old.world waiting new.world left
  pub later : old.faults ≤ new.faults
  pub rest : OnlyPrints old new

abbrev pub invariant-loop-id : goal.invariant-loop-id
invariant-loop-id g l =
    HasShown l.schema l.known.items l.id (g.H.Host.state l.initial.host) l.initial.waiting.items (g.H.Host.state l.host) l.waiting.items
