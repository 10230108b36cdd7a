use Rattle.std.proofs.Common.{◌≡◌, ◌++◌, false, length, map, drop, take}
use Rattle.serde_json.specs.Written.{items_text}
use Rattle.nt_event.specs.Json.{datas_of}
use Rattle.nt_types.specs.TreeViews.{tree_view}
use Rattle.nt_types.specs.TreeData.{trees_of}
use Rattle.nt_event.proofs.printing.+print.Given as goal

abbrev pub invariant-put_items-loop-item : goal.invariant-put_items-loop-item
invariant-put_items-loop-item l = record {
  text : l.out.items ++ items_text l.later (datas_of (trees_of (map tree_view (drop l.item-index l.list)))) ≡ l.initial.out.items ++
      items_text false (datas_of (trees_of (map tree_view l.list)));
  kept : take (length l.initial.out.items) l.out.items ≡ l.initial.out.items;
}
