use Rattle.nt_column.proofs.Stores.{no_tag}
use Rattle.nt_column.proofs.store.Store.tag.Goals as goal

pub returns-in_default : goal.returns-in_default
returns-in_default c = no_tag _ c.args.i c.in_default.not-Pairs
