use Rattle.std.proofs.Common.{◌≤◌, ◌<◌, length, map, take, ◌-◌}
use Rattle.nt_types.specs.Views.{shape_view, member_view}
use Rattle.nt_types.specs.TreeViews.{tree_view}
use Rattle.nt_event.specs.Standing.{AllGood, EachGood, kinds_in}
use Rattle.nt_event.proofs.Texts.{OpenStands}
use Rattle.nt_event.proofs.scan.+value.Given as goal

abbrev pub invariant-items-loop-next : goal.invariant-items-loop-next
invariant-items-loop-next l = record {
  some : 0 < length l.list.items;
  within : l.i ≤ length l.text;
  past : l.at < l.i;
  stands : OpenStands (map tree_view l.list.items) l.text l.at l.i;
  good : AllGood l.deep (shape_view l.of) (map tree_view l.list.items);
}

abbrev pub decreases-items-loop-next : goal.decreases-items-loop-next
decreases-items-loop-next l = length l.text - l.i

abbrev pub invariant-each-loop-shape : goal.invariant-each-loop-shape
invariant-each-loop-shape l = record {
  within : l.i ≤ length l.text;
  past : l.at ≤ l.i;
  stands : OpenStands (map tree_view l.list.items) l.text l.at l.i;
  good : EachGood l.deep (take l.shape-index (map shape_view l.shapes)) (map tree_view l.list.items);
}

abbrev pub invariant-each_member-loop-member : goal.invariant-each_member-loop-member
invariant-each_member-loop-member l = record {
  within : l.i ≤ length l.text;
  past : l.at ≤ l.i;
  stands : OpenStands (map tree_view l.list.items) l.text l.at l.i;
  good : EachGood l.deep (take l.member-index (kinds_in (map member_view l.members))) (map tree_view l.list.items);
}
