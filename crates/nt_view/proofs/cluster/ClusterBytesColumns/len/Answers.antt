use Rattle.std.proofs.Common.{◌∙◌, ap, length}
use Rattle.nt_view.proofs.Answered.{elements-are}
use Rattle.nt_view.proofs.cluster.ClusterBytesColumns.len.Goals as goal

pub returns : goal.returns
returns c =
    c.len.ensures ∙ ap length (elements-are c.args.self.now c.deref.result.now c.self.inside.store.items c.self.inside.pages.items
    c.self.inside.zeros.items c.self.inside.table c.args.column c.deref.ensures.value c.self.invariant c.self.view_is)
