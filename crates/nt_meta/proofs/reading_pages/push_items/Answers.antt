use Rattle.std.proofs.Common.{arith}
use Rattle.std.proofs.lemmas.Result.{err_from_is_err_and}
use Rattle.nt_meta.proofs.PageSteps.{items-next, items-fail, elements-more}
use Rattle.nt_meta.proofs.reading_pages.push_items.Goals as goal

pub returns-in_err-page-clause-told : goal.returns-in_err-page-clause-told
returns-in_err-page-clause-told c =
    let p = err_from_is_err_and c.from_residual.result c.from_residual.ensures.1 in
    rw (p.1, p.2) (items-fail c.args.cluster c.args.column c.args.count c.loop.counter c.loop.pages.items c.loop.cur _ _
    c.loop-test.true c.in_err-page.ensures c.loop.invariant.read)

pub loop-preserved : goal.loop-preserved
loop-preserved c = record {
  read = items-next c.args.cluster c.args.column c.args.count c.loop.counter c.loop.pages.items c.push.new.self.items c.loop.cur
      c.read_item.new.cur c.in_ok-page.page _ c.loop-test.true c.in_ok-page.ensures c.in_ok-push.ensures.items c.loop.invariant.read;
  elements = elements-more c.loop.elements c.from-elements.result c.loop.pages.items c.push.new.self.items c.in_ok-page.page
      c.loop.invariant.elements c.from-elements.ensures c.in_ok-push.ensures.items;
  few = omega arith;
}
