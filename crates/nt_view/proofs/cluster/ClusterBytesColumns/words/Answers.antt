use Rattle.nt_view.proofs.Answered.{elements-are}
use Rattle.nt_view.proofs.cluster.ClusterBytesColumns.words.Goals as goal

pub words-requires-clause-part : goal.words-requires-clause-part
words-requires-clause-part c = record {
  order = c.requires.order;
  within =
      rw (elements-are c.args.self.now c.deref.result.now c.self.inside.store.items c.self.inside.pages.items
      c.self.inside.zeros.items c.self.inside.table c.args.column c.deref.ensures.value c.self.invariant c.self.view_is) c.requires.within;
}

pub returns : goal.returns
returns c = record {
  words =
      rw (elements-are c.args.self.now c.deref.result.now c.self.inside.store.items c.self.inside.pages.items
      c.self.inside.zeros.items c.self.inside.table c.args.column c.deref.ensures.value c.self.invariant c.self.view_is) at c.words.ensures;
}
