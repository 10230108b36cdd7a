use Rattle.std.proofs.Common.{◌∙◌, List, ap, get_or}
use Rattle.nt_encode.specs.Elements.{Element, tags}
use Rattle.nt_view.proofs.Answered.{elements-are}
use Rattle.nt_view.proofs.cluster.ClusterBytesColumns.tag.Goals as goal

pub tag-requires-clause-within : goal.tag-requires-clause-within
tag-requires-clause-within c =
    rw (elements-are c.args.self.now c.deref.result.now c.self.inside.store.items c.self.inside.pages.items
    c.self.inside.zeros.items c.self.inside.table c.args.column c.deref.ensures.value c.self.invariant c.self.view_is) c.requires

pub returns : goal.returns
returns c =
    c.tag.ensures ∙ ap (λ (es : List Element). get_or (tags es) c.args.i 0)
    (elements-are c.args.self.now c.deref.result.now c.self.inside.store.items c.self.inside.pages.items
    c.self.inside.zeros.items c.self.inside.table c.args.column c.deref.ensures.value c.self.invariant c.self.view_is)
