use Rattle.nt_trees.specs.Views.{plans_in}
use Rattle.nt_shred.proofs.Whole.{line-whole}
use Rattle.nt_shred.proofs.line.put_entry.Goals as goal

pub returns-in-Some-each : goal.returns-in-Some-each
returns-in-Some-each c =
    line-whole (plans_in c.args.plans.now) c.args.line.now c.in-Some.first c.in-Some-each.end c.after_blanks.result c.args.out.now
    c.each.new.out c.in-Some.ensures c.in-Some-each.ensures c.after_blanks.ensures
