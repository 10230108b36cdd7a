use Rattle.nt_machine.proofs.Grouping.{few}
use Rattle.nt_machine.proofs.StagedStay.{named}
use Rattle.nt_machine.proofs.laws.clusters_are_ranges.Goals as goal

pub returns-clause-named : goal.returns-clause-named
returns-clause-named g c = named

pub returns-clause-few : goal.returns-clause-few
returns-clause-few g c = few
