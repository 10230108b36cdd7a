use Rattle.nt_lists.proofs.Places.{put_at-before, put_at-there, put_at-behind}
use Rattle.nt_lists.proofs.laws.writes_keep_the_rest.Goals as goal

pub returns-clause-before : goal.returns-clause-before
returns-clause-before g c = put_at-before

pub returns-clause-there : goal.returns-clause-there
returns-clause-there g c = put_at-there

pub returns-clause-behind : goal.returns-clause-behind
returns-clause-behind g c = put_at-behind
