use Rattle.std.proofs.Common.{◌∙◌}
use Rattle.nt_trees.specs.Views.{plans_in, trees_in}
use Rattle.nt_shred.proofs.Sets.{frame-kept}
use Rattle.nt_shred.proofs.Entries.{entry-ready}
use Rattle.nt_shred.proofs.entry.shred_by.Goals as goal

pub returns-in_err-reserve-clause-frame : goal.returns-in_err-reserve-clause-frame
returns-in_err-reserve-clause-frame c = frame-kept c.args.out.now c.reserve.new.out c.reserve.ensures.columns

pub put_trees-requires : goal.put_trees-requires
put_trees-requires c = entry-ready (plans_in c.args.plans.now) (trees_in c.args.trees.now) c.args.out.now c.reserve.new.out
    c.in_ok-more.more c.requires.entry c.reserve.ensures.columns c.in_ok-more.ensures c.in_ok-reserve.ensures.ok

pub returns-clause-frame : goal.returns-clause-frame
returns-clause-frame c = c.put_trees.ensures.frame ∙ frame-kept c.args.out.now c.reserve.new.out c.reserve.ensures.columns
