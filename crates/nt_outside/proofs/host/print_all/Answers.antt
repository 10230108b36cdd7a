use Rattle.std.proofs.Common.{◌≡◌, ◌∙◌, ap, arith, length-drop, take, rules, Some, List, ℕ}
use Rattle.std.proofs.lemmas.Grind.{common_steps}
use Rattle.std.proofs.lemmas.List.{take_all}
use Rattle.std.proofs.lemmas.Result.{err_from_is_err_and}
use Rattle.nt_outside.specs.World.{prints}
use Rattle.nt_outside.proofs.Printing.{print_more}
use Rattle.nt_outside.proofs.host.print_all.Goals as goal

pub returns-in_err-at : goal.returns-in_err-at
returns-in_err-at g c =
    let p = err_from_is_err_and c.from_residual.result c.from_residual.ensures.1 in
    let failed = c.in_err-at.ensures in
    rw p.1
    (record {
      ok = tt;
      front = λ w is. (c.loop-at.at, c.loop-at.invariant.within, failed.err ∙ c.loop-at.invariant.world w is);
      asked = c.print.ensures.asked ∙ c.loop-at.invariant.asked;
      cause = record {
        later = omega (arith, c.loop-at.invariant.later, failed.cause.later);
        failed = omega (arith, c.loop-at.invariant.later, failed.cause.failed);
      };
      other = c.print.ensures.other ∙ c.loop-at.invariant.other;
      opened = c.print.ensures.opened ∙ c.loop-at.invariant.opened;
    })

pub loop-at-preserved : goal.loop-at-preserved
loop-at-preserved g c = record {
  within = omega (arith, length-drop c.loop-at.at c.args.bytes.now, c.in_ok-at.ensures.count.1);
  world = print_more c.args.stream _ _ _ c.args.bytes.now _ c.loop-at.at _ (grind (arith, common_steps)) c.loop-at.invariant.world
      c.in_ok-at.ensures.ok;
  asked = c.print.ensures.asked ∙ c.loop-at.invariant.asked;
  later = omega (arith, c.loop-at.invariant.later, c.print.ensures.cause.later);
  other = c.print.ensures.other ∙ c.loop-at.invariant.other;
  opened = c.print.ensures.opened ∙ c.loop-at.invariant.opened;
}

pub returns : goal.returns
returns g c =
    let whole : take c.loop-at.at c.args.bytes.now ≡ c.args.bytes.now =
    take_all c.loop-at.at c.args.bytes.now (omega arith) in
    record {
      ok = λ w is. c.loop-at.invariant.world w is ∙ ap (λ (l : List ℕ). Some (prints c.args.stream l w)) whole;
      front = λ w is. (c.loop-at.at, c.loop-at.invariant.within, c.loop-at.invariant.world w is);
      asked = c.loop-at.invariant.asked;
      cause = search rules;
      other = c.loop-at.invariant.other;
      opened = c.loop-at.invariant.opened;
    }
