use Rattle.std.proofs.lemmas.Result.{IfOk-weaker}
use Rattle.nt_view.proofs.Answered.{elements-are, lent-loaded, loaded-lent}
use Rattle.nt_view.proofs.cluster.ClusterBytesColumns.text.Goals as goal

pub text-requires-clause-part : goal.text-requires-clause-part
text-requires-clause-part c = record {
  order = c.requires.order;
  within =
      rw (elements-are c.args.self.now c.deref.result.now c.self.inside.store.items c.self.inside.pages.items
      c.self.inside.zeros.items c.self.inside.table c.args.column c.deref.ensures.value c.self.invariant c.self.view_is) c.requires.within;
}

pub returns-clause-text : goal.returns-clause-text
returns-clause-text c =
    rw (elements-are c.args.self.now c.deref.result.now c.self.inside.store.items c.self.inside.pages.items
    c.self.inside.zeros.items c.self.inside.table c.args.column c.deref.ensures.value c.self.invariant c.self.view_is) at
    c.text.ensures.text

pub returns-clause-lent : goal.returns-clause-lent
returns-clause-lent c lies =
    c.text.ensures.lent (loaded-lent c.args.self.now c.self.inside.store.items c.self.inside.pages.items c.self.inside.zeros.items
    c.self.inside.table
    c.args.column c.args.from c.args.to c.self.invariant c.self.view_is lies)

pub returns-clause-only : goal.returns-clause-only
returns-clause-only c =
    IfOk-weaker c.text.result _ _ (λ t only is. lent-loaded c.args.self.now c.self.inside.store.items c.self.inside.pages.items
    c.self.inside.zeros.items c.self.inside.table
    c.args.column c.args.from c.args.to c.self.invariant c.self.view_is (only is))
    c.text.ensures.only
