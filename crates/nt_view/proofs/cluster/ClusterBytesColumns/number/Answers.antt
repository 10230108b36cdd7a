use Rattle.std.proofs.Common.{◌∙◌, List, ap, get_or}
use Rattle.nt_encode.specs.Elements.{Element, numbers}
use Rattle.nt_view.proofs.Answered.{elements-are}
use Rattle.nt_view.proofs.cluster.ClusterBytesColumns.number.Goals as goal

pub number-requires-clause-within : goal.number-requires-clause-within
number-requires-clause-within c =
    rw (elements-are c.args.self.now c.deref.result.now c.self.inside.store.items c.self.inside.pages.items
    c.self.inside.zeros.items c.self.inside.table c.args.column c.deref.ensures.value c.self.invariant c.self.view_is) c.requires

pub returns : goal.returns
returns c =
    c.number.ensures ∙ ap (λ (es : List Element). get_or (numbers es) c.args.i 0)
    (elements-are c.args.self.now c.deref.result.now c.self.inside.store.items c.self.inside.pages.items
    c.self.inside.zeros.items c.self.inside.table c.args.column c.deref.ensures.value c.self.invariant c.self.view_is)
