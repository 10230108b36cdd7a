use Rattle.std.proofs.Common.{◌≡◌, codes, ◌∙◌, ap, sym, subst, arith, Option, ℕ, true, false}
use Rattle.std.specs.Prelude.{unwrap_or}
use Rattle.nt_command_line.specs.Options.{AreLimitsSaid}
use Rattle.nt_command_line.proofs.Spoken.{number_by, flag_by, in_range_or}
use Rattle.nt_command_line.proofs.options.params_in.Goals as goal

pub overflow_cast-cluster : goal.overflow_cast-cluster
overflow_cast-cluster c =
    let cluster = in_range_or 1 1000000 c.number_in.result 10000 c.unwrap_or-cluster.result c.unwrap_or-cluster.ensures
    (c.number_in.ensures 1 1000000 c.requires.cluster).1 (omega arith) (omega arith) in
    omega arith

pub overflow_cast-page : goal.overflow_cast-page
overflow_cast-page c =
    let page = in_range_or 1 1048576 c.number_in-2.result 4096 c.unwrap_or-page.result c.unwrap_or-page.ensures
    (c.number_in-2.ensures 1 1048576 c.requires.page).1 (omega arith) (omega arith) in
    omega arith

pub overflow_cast-group : goal.overflow_cast-group
overflow_cast-group c =
    let group = in_range_or 1 10000 c.number_in-3.result 1000 c.unwrap_or-group.result c.unwrap_or-group.ensures
    (c.number_in-3.ensures 1 10000 c.requires.group).1 (omega arith) (omega arith) in
    omega arith

pub unreachable-requires : goal.unreachable-requires
unreachable-requires c =
    let cluster = in_range_or 1 1000000 c.number_in.result 10000 c.unwrap_or-cluster.result c.unwrap_or-cluster.ensures
    (c.number_in.ensures 1 1000000 c.requires.cluster).1 (omega arith) (omega arith) in
    let page = in_range_or 1 1048576 c.number_in-2.result 4096 c.unwrap_or-page.result c.unwrap_or-page.ensures
    (c.number_in-2.ensures 1 1048576 c.requires.page).1 (omega arith) (omega arith) in
    let group = in_range_or 1 10000 c.number_in-3.result 1000 c.unwrap_or-group.result c.unwrap_or-group.ensures
    (c.number_in-3.ensures 1 10000 c.requires.group).1 (omega arith) (omega arith) in
    let bad : false ≡ true = c.in-None.ensures.exact.1 (cluster, page, group) in
    cc

pub returns : goal.returns
returns c = λ a words rows.
    let m = c.args.matches.now in
    record {
      cluster = c.in-Some.ensures.numbers.0 ∙ (c.unwrap_or-cluster.ensures ∙ ap (λ (o : Option ℕ). unwrap_or o 10000)
          (number_by a words m (codes "cluster") c.number_in.result rows (c.number_in.ensures 1 1000000 c.requires.cluster).0));
      page = c.in-Some.ensures.numbers.1 ∙ (c.unwrap_or-page.ensures ∙ ap (λ (o : Option ℕ). unwrap_or o 4096)
          (number_by a words m (codes "page") c.number_in-2.result rows (c.number_in-2.ensures 1 1048576 c.requires.page).0));
      group = c.in-Some.ensures.numbers.2 ∙ (c.unwrap_or-group.ensures ∙ ap (λ (o : Option ℕ). unwrap_or o 1000)
          (number_by a words m (codes "group") c.number_in-3.result rows (c.number_in-3.ensures 1 10000 c.requires.group).0));
      plain = c.in-Some.ensures.others.0 ∙ flag_by a words m (codes "plain") c.flag_in-plain.result rows c.flag_in-plain.ensures;
      staged = c.in-Some.ensures.others.1;
      limits = subst (AreLimitsSaid a words) (sym c.in-Some.ensures.others.2) (c.limits_in.ensures a words rows);
    }
