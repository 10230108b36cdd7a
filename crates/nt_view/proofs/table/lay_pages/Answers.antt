use Rattle.std.proofs.Common.{arith}
use Rattle.nt_view.proofs.Columns.{end-laid}
use Rattle.nt_view.proofs.Laid.{no_page, places-more, counted-more, lens-taken}
use Rattle.nt_view.proofs.table.lay_pages.Goals as goal

pub overflow_add-here : goal.overflow_add-here
overflow_add-here c =
    omega (
      arith,
      c.loop-page.invariant.here,
      c.stored_len.ensures.len,
      end-laid c.args.pages.now c.loop-page.page-index no_page
          c.loop-page-test.true,
      c.requires,
    )

pub loop-page-preserved : goal.loop-page-preserved
loop-page-preserved c =
    let inv = c.loop-page.invariant in
    let ps = c.args.pages.now in
    let i = c.loop-page.page-index in
    let lt = c.loop-page-test.true in
    record {
      places =
          places-more c.args.places.now.items c.loop-page.places.items c.push.new.self.items ps i c.args.at c.loop-page.first
          c.loop-page.here lt
          inv.places inv.first inv.here c.in_ok-push.ensures.items;
      first = omega (arith, c.in-Some.ensures, c.from.ensures, inv.first, counted-more ps i lt);
      here = omega (arith, inv.here, c.stored_len.ensures.len, lens-taken ps i lt);
    }
