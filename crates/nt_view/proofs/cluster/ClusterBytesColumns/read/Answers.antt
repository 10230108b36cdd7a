use Rattle.nt_view.proofs.Answered.{elements-are}
use Rattle.nt_view.proofs.cluster.ClusterBytesColumns.read.Goals as goal

pub read-requires-clause-room : goal.read-requires-clause-room
read-requires-clause-room c = (
  rw (elements-are c.args.self.now c.deref.result.now c.self.inside.store.items c.self.inside.pages.items
      c.self.inside.zeros.items c.self.inside.table c.args.column c.deref.ensures.value c.self.invariant c.self.view_is) c.requires.within,
  c.requires.room,
)

pub returns-clause-within : goal.returns-clause-within
returns-clause-within c =
    rw (elements-are c.args.self.now c.deref.result.now c.self.inside.store.items c.self.inside.pages.items
    c.self.inside.zeros.items c.self.inside.table c.args.column c.deref.ensures.value c.self.invariant c.self.view_is) at
    c.read.ensures.within

pub returns-clause-read : goal.returns-clause-read
returns-clause-read c =
    rw (elements-are c.args.self.now c.deref.result.now c.self.inside.store.items c.self.inside.pages.items
    c.self.inside.zeros.items c.self.inside.table c.args.column c.deref.ensures.value c.self.invariant c.self.view_is) at
    c.read.ensures.read
