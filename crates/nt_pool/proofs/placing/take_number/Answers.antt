use Rattle.std.proofs.Common.{◌<◌, ◌≤◌, length, arith, ap, sym, subst, ◌∙◌}
use Rattle.nt_pool.specs.declared.work.Answer.{Answer}
use Rattle.nt_pool.specs.Placing.{answers_of, Removes}
use Rattle.nt_pool.proofs.Placed.{skips, found, removes, same_at}
use Rattle.nt_pool.proofs.placing.take_number.Goals as goal

pub returns-then-index-number : goal.returns-then-index-number
returns-then-index-number g c =
    let xs = c.loop-at.left.items in
    let inside : c.loop-at.at < length xs = omega (arith, c.loop-at-test.true, c.len.ensures) in
    let same = same_at c.loop-at.at xs c.remove-done.result c.index.result.now inside c.remove-done.ensures.value c.index.ensures in
    subst (λ l. Removes c.args.number l c.remove-done.new.self.items c.remove-done.result.done) c.loop-at.invariant.2
    (removes c.args.number c.loop-at.at xs c.remove-done.new.self.items c.remove-done.result inside c.remove-done.ensures.value
    c.remove-done.ensures.items
    (ap (λ (a : Answer _). a.number) same ∙ c.if-index-number.true))

pub loop-at-preserved : goal.loop-at-preserved
loop-at-preserved g c =
    let xs = c.loop-at.left.items in
    let inside : c.loop-at.at < length xs = omega (arith, c.loop-at-test.true, c.len.ensures) in (
      skips c.args.number c.loop-at.at xs c.index.result.now inside c.loop-at.invariant.0
          (λ e. c.if-index-number.false (ap (λ (a : Answer _). a.number) c.index.ensures ∙ e)),
      omega (arith, c.loop-at-test.true, c.len.ensures),
      c.loop-at.invariant.2,
    )

pub unreachable-requires : goal.unreachable-requires
unreachable-requires g c =
    let xs = c.loop-at.left.items in
    let past : length xs ≤ c.loop-at.at = omega (arith, c.loop-at-test.false, c.len.ensures) in
    let there : 0 < answers_of c.args.number xs = subst (λ l. 0 < answers_of c.args.number l) (sym c.loop-at.invariant.2) c.requires in
    found c.args.number c.loop-at.at xs past c.loop-at.invariant.0 there
