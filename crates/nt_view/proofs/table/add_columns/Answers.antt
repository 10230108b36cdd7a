use Rattle.std.proofs.Common.{◌≡◌, length, get_or, refl, arith}
use Rattle.std.proofs.lemmas.List.{get_or_default}
use Rattle.nt_view.specs.declared.table.Table.{Table}
use Rattle.nt_view.proofs.Laid.{no_page}
use Rattle.nt_view.proofs.Grouped.{lens-slice, group-column, group-laid, group-behind}
use Rattle.nt_view.proofs.table.add_columns.Goals as goal

pub add_column-requires : goal.add_column-requires
add_column-requires c =
    group-column c.args.store.now c.args.pages.now c.loop-i.i c.group_end-end.result c.loop-i.at c.requires.listed c.group_end-end.ensures
    c.loop-i.invariant.place c.requires.len

pub loop-i-preserved : goal.loop-i-preserved
loop-i-preserved c =
    let inv = c.loop-i.invariant in
    let g = c.group_end-end.ensures in
    let t = c.loop-i.table in
    let filled : Table = record { places = t.places; columns = c.fill_up.new.columns; sums = t.sums; spare = t.spare } in
    let len : length filled.columns.items ≡ (get_or c.args.pages.now c.loop-i.i no_page).column =
    c.in_ok-fill_up.ensures.len (inv.next no_page c.loop-i-test.true) in
    record {
      within = g.within;
      place = omega (
        arith,
        c.in_ok-at.ensures.end,
        inv.place,
        lens-slice c.args.pages.now c.loop-i.i c.group_end-end.result
            (omega (arith, g.some)),
      );
      laid =
          group-laid c.args.store.now c.args.pages.now c.loop-i.i c.group_end-end.result c.loop-i.at no_page c.loop-i.table filled
          c.add_column.new.table g inv.place inv.laid refl refl c.in_ok-fill_up.ensures.same len c.in_ok-at.ensures.gains;
      next = λ d lt. rw (get_or_default c.args.pages.now c.group_end-end.result d no_page lt)
          (group-behind c.args.store.now c.args.pages.now c.loop-i.i c.group_end-end.result c.loop-i.at no_page filled
          c.add_column.new.table
          c.requires.listed g len c.in_ok-at.ensures.gains lt);
    }
