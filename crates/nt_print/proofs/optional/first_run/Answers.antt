use Rattle.std.proofs.Common.{ℕ, ◌≡◌, ◌+◌, suc, drop, get_or, ap, subst, arith}
use Rattle.std.proofs.lemmas.List.{drop_more}
use Rattle.nt_print.specs.Optionals.{CountsOn}
use Rattle.nt_print.proofs.Optionals.{counts-more, steps-behind}
use Rattle.nt_print.proofs.optional.first_run.Goals as goal

pub loop-end-preserved : goal.loop-end-preserved
loop-end-preserved c =
    let v = c.loop-end.invariant in
    let ends = c.args.ends.now in
    let i = c.loop-end.end-index in
    let n = c.loop-end.count in
    let x = get_or ends i 0 in
    let s = steps-behind c.loop-end.last x (drop i ends) (drop (i + 1) ends) (drop_more ends i 0 c.loop-end-test.true) v.steps in
    let one : x ≡ c.loop-end.last + 1 = omega (arith, s.0, s.1, c.if-end-last.false) in
    let place : get_or ends n 0 ≡ x = ap (λ (j : ℕ). get_or ends j 0) v.place in
    let more : suc n ≡ n + 1 = omega arith in
    record {
      counted = subst (λ (k : ℕ). CountsOn c.args.begin k ends) more
          (counts-more n c.args.begin ends v.counted (omega (arith, v.place, c.loop-end-test.true)) (omega (arith, place, one, v.last)));
      place = omega (arith, v.place);
      last = omega (arith, one, v.last);
      steps = s.2;
    }
