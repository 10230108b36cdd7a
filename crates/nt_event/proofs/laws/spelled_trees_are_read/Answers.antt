use Rattle.std.proofs.Common.{arith}
use Rattle.nt_event.proofs.Fast.{spelled_entry}
use Rattle.nt_event.proofs.laws.spelled_trees_are_read.Goals as goal

pub returns : goal.returns
returns c ps ts line rules h fit = spelled_entry ps ts line (omega (arith, rules.shallow)) h fit
