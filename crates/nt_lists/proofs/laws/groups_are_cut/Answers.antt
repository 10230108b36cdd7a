use Rattle.nt_lists.proofs.Groups.{chunks-joined, chunk-full, chunk-last}
use Rattle.nt_lists.proofs.laws.groups_are_cut.Goals as goal

pub returns-clause-joined : goal.returns-clause-joined
returns-clause-joined g c = chunks-joined

pub returns-clause-full : goal.returns-clause-full
returns-clause-full g c = chunk-full

pub returns-clause-last : goal.returns-clause-last
returns-clause-last g c = chunk-last
