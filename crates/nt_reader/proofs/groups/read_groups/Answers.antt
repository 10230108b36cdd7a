use Rattle.std.proofs.Common.{◌∙◌, arith}
use Rattle.nt_reader.proofs.GroupSteps.{counted-next, few-next, listed-next, groups-more}
use Rattle.nt_reader.proofs.groups.read_groups.Goals as goal

pub loop-i-preserved : goal.loop-i-preserved
loop-i-preserved g c = record {
  same = c.in_ok-push_group.ensures.file.same ∙ c.loop-i.invariant.same;
  later = omega (arith, c.in_ok-push_group.ensures.file.later, c.loop-i.invariant.later);
  columns = c.in_ok-push_group.ensures.counted.columns ∙ c.loop-i.invariant.columns;
  counted = counted-next c.loop-i.i c.args.groups.now _ c.loop-i.so_far.progress _ _ _ (omega arith) c.loop-i.invariant.counted
      c.in_ok-push_group.ensures.counted;
  listed = listed-next _ _ _ _ _ c.loop-i.invariant.listed c.in_ok-push_group.ensures.counted;
  few = few-next c.loop-i.i c.args.groups.now _ c.loop-i.so_far.progress _ _ _ (omega arith) c.loop-i.invariant.counted
      c.in_ok-push_group.ensures.counted;
  read = λ told is.
      c.loop-i.invariant.read told is
      ∙ groups-more told c.args.known.now.sum c.args.known.now.columns.now c.loop-i.i c.args.groups.now _ c.loop-i.so_far.progress _
      c.loop-i.so_far.clusters.items _
      (omega arith)
      (c.in_ok-push_group.ensures.read told (c.loop-i.invariant.same ∙ is));
}
