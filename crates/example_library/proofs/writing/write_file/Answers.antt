use Rattle.std.proofs.Common.{◌∙◌, ap}
use Rattle.nt_book.specs.Books.{BookData}
use Rattle.nt_schema.proofs.WholeRows.{described_whole}
use Rattle.example_library.proofs.writing.write_file.Goals as goal

pub close-requires : goal.close-requires
close-requires g c =
    let run = c.run_contexts-done.ensures in
    let begun = c.in-Ok.ensures.begun in
    record {
      begin = run.book_on.begin ∙ ap (λ (b : BookData). b.begin) begun.book_is;
      noted = run.noted;
      end = run.end;
      out = run.out;
      whole = described_whole _ _ _ begun.rows;
    }
