use Rattle.std.proofs.Common.{◌<◌, length, get_or, arith}
use Rattle.nt_view.specs.declared.page_place.ZeroColumn.{ZeroColumn}
use Rattle.nt_view.proofs.Zeroed.{zero-step, pages-step}
use Rattle.nt_view.proofs.table.set_zeros.Goals as goal

pub loop-zero-preserved : goal.loop-zero-preserved
loop-zero-preserved c =
    let d : ZeroColumn = record { column = 0; count = 0 } in
    let zs = c.args.zeros.now in
    let i = c.loop-zero.zero-index in
    let z = get_or zs i d in
    let there : z.column < length c.fill_up.new.columns.items = omega (arith, c.in_ok-fill_up.ensures.enough) in
    record {
      zero = λ k.
          zero-step zs i k d c.loop-zero.columns.items c.fill_up.new.columns.items c.loop-zero-test.true
          (c.in_ok-fill_up.ensures.same k) there
          (c.loop-zero.invariant.zero k);
      pages = λ k.
          pages-step k z.column z.count c.args.columns.now.items c.loop-zero.columns.items c.fill_up.new.columns.items
          (c.requires.apart i d c.loop-zero-test.true) (c.in_ok-fill_up.ensures.same k) there (c.loop-zero.invariant.pages k);
    }
