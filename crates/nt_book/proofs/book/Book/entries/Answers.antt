use Rattle.std.proofs.Common.{◌∙◌, ap, sym}
use Rattle.nt_book.specs.Books.{BookData}
use Rattle.nt_book.proofs.Telling.{entries-book}
use Rattle.nt_book.proofs.book.Book.entries.Goals as goal

pub returns : goal.returns
returns c =
    let h = c.self.invariant.0 in
    let told = ap (λ (b : BookData). b.history) c.self.view_is in
    let kept = c.self.invariant.5 in
    let stages = ap (λ (b : BookData). b.staged) c.self.view_is in
    c.self.invariant.2.summed
    ∙ sym (entries-book _ _ _ h c.args.self.now told _ _ _ _ kept stages)
