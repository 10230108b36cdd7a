use Rattle.test_close.proofs.staged.fill_staged.Goals as goal

pub add_range-requires-clause-book : goal.add_range-requires-clause-book
add_range-requires-clause-book c = (c.loop-context.invariant.unpublished, c.loop-context.invariant.notes.columns)

pub loop-context-preserved : goal.loop-context-preserved
loop-context-preserved c = record {
  unpublished = c.in_ok-add_range.ensures.unpublished;
  notes = c.in_ok-add_range.ensures.notes _ _ c.loop-context.invariant.notes;
  out = c.in_ok-add_range.ensures.out;
}

pub close_at-requires-clause-notes : goal.close_at-requires-clause-notes
close_at-requires-clause-notes c = c.in_ok-publish_in_turn.ensures _ _ c.loop-context.invariant.notes
