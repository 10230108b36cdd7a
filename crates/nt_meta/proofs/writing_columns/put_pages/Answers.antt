use Rattle.std.proofs.Common.{◌+◌, ◌<◌, ◌^◌}
use Rattle.nt_book.specs.declared.meta.PageMeta.{PageMeta}
use Rattle.nt_pagelists.specs.Writing.{page_item_text}
use Rattle.nt_pagelists.specs.Books.{page_item}
use Rattle.nt_meta.proofs.Appended.{made-next, all-next}
use Rattle.nt_meta.proofs.writing_columns.put_pages.Goals as goal

no_page : PageMeta
no_page = record { count = 0; place = 0; size = 0 }

pub loop-page-preserved : goal.loop-page-preserved
loop-page-preserved c =
    let low : PageMeta → Type 0 = λ p. c.args.payload + p.place < 2 ^ 64 in
    record {
      low = all-next low c.args.pages.now c.loop-page.page-index no_page c.loop-page-test.true c.loop-page.invariant.low;
      written = made-next (page_item c.args.payload) page_item_text c.args.pages.now c.loop-page.page-index _ c.loop-page.out
          c.put_page.new.out _ c.loop-page-test.true c.in_ok-put_page.ensures c.loop-page.invariant.written;
    }
