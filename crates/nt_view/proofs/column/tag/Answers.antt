use Rattle.nt_view.proofs.Elements.{no-tag}
use Rattle.nt_view.proofs.column.tag.Goals as goal

pub returns-in_default : goal.returns-in_default
returns-in_default c = no-tag c.args.kind c.args.store.now c.args.pages.now c.args.i c.in_default.not-Switch
