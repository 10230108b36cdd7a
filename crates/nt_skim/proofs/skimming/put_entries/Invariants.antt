use Rattle.nt_skim.specs.Select.{selection_of}
use Rattle.nt_reader.specs.Columns.{given_entries}
use Rattle.nt_skim.proofs.Selecting.{HasTaken}
use Rattle.nt_skim.proofs.skimming.put_entries.Given as goal

-- the entries before this one were taken
abbrev pub invariant-loop-i : goal.invariant-loop-i
invariant-loop-i g l =
    HasTaken (selection_of l.plan) (given_entries l.cluster) l.i l.total (g.E.EntrySink.state l.initial.out) (g.E.EntrySink.state l.out)
