use Rattle.std.proofs.Common.{◌∙◌}
use Rattle.test_close.proofs.files.fill.Goals as goal

pub add-requires-clause-columns : goal.add-requires-clause-columns
add-requires-clause-columns c = (c.in_ok-put_due.ensures.notes _ _ c.loop-k.invariant.notes).columns

pub loop-k-preserved : goal.loop-k-preserved
loop-k-preserved c = record {
  notes = c.in_ok-add.ensures.notes _ _ (c.in_ok-put_due.ensures.notes _ _ c.loop-k.invariant.notes);
  out = c.add.ensures.out ∙ c.put_due.ensures.out ∙ c.loop-k.invariant.out;
}
