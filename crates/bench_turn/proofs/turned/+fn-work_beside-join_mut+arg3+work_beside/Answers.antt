use Rattle.std.proofs.Common.{rules, ◌≡◌, ap, arith}
use Rattle.nt_turn.specs.Pass.{JoinsSince}
use Rattle.nt_turn.proofs.Joining.{joins_since}
use Rattle.bench_turn.proofs.turned.+fn-work_beside-join_mut+arg3+work_beside.Goals as goal

pub returns : goal.returns
returns g t c =
    let between = c.first-1.given.0 in
    let since : JoinsSince c.split-pass.new.first between = search rules in
    let number : c.pass-2-1.given.0.number ≡ c.args.first.now.splits = search rules in
    let splits : c.join.new.first.splits ≡ between.splits = ap (λ p. p.splits) c.join.ensures.first in
    record {
      first = search rules;
      splits = grind (arith, rules);
      joined = joins_since _ c.split-pass.new.first between _ _ _ c.split-pass.ensures.first since number splits
          (ap (λ p. p.kept) c.join.ensures.first);
    }
