use Rattle.std.proofs.Common.{◌≡◌, codes, ◌∙◌, ap, sym, subst, arith, Option, ℕ, true, false}
use Rattle.std.specs.Prelude.{unwrap_or}
use Rattle.nt_command_line.specs.MergeWords.{merge_app}
use Rattle.nt_command_line.specs.Options.{AreLimitsSaid}
use Rattle.nt_command_line.proofs.Spoken.{number_by, in_range_or}
use Rattle.nt_command_line.proofs.merge.params_in.Goals as goal

pub overflow_cast-group : goal.overflow_cast-group
overflow_cast-group c =
    let group = in_range_or 1 10000 c.number_in.result 1000 c.unwrap_or-group.result c.unwrap_or-group.ensures
    (c.number_in.ensures 1 10000 c.requires.group).1 (omega arith) (omega arith) in
    omega arith

pub unreachable-requires : goal.unreachable-requires
unreachable-requires c =
    let group = in_range_or 1 10000 c.number_in.result 1000 c.unwrap_or-group.result c.unwrap_or-group.ensures
    (c.number_in.ensures 1 10000 c.requires.group).1 (omega arith) (omega arith) in
    let bad : false ≡ true = c.in-None.ensures.exact.1 ((omega arith, omega arith), (omega arith, omega arith), group) in
    cc

pub returns : goal.returns
returns c = λ words rows.
    let m = c.args.matches.now in
    record {
      cluster = c.in-Some.ensures.numbers.0;
      page = c.in-Some.ensures.numbers.1;
      group = c.in-Some.ensures.numbers.2 ∙ (c.unwrap_or-group.ensures ∙ ap (λ (o : Option ℕ). unwrap_or o 1000)
          (number_by merge_app words m (codes "group") c.number_in.result rows (c.number_in.ensures 1 10000 c.requires.group).0));
      plain = c.in-Some.ensures.others.0;
      staged = c.in-Some.ensures.others.1;
      limits = subst (AreLimitsSaid merge_app words) (sym c.in-Some.ensures.others.2) (c.limits_in.ensures merge_app words rows);
    }
