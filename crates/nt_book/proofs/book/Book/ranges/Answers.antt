use Rattle.std.proofs.Common.{ap, arith}
use Rattle.nt_book.specs.Books.{BookData}
use Rattle.nt_book.proofs.Telling.{length-book}
use Rattle.nt_book.proofs.book.Book.ranges.Goals as goal

pub overflow_cast-result : goal.overflow_cast-result
overflow_cast-result c =
    let few = c.self.invariant.1.few in
    let bound = c.self.invariant.1.bound in
    omega (arith, few, bound, c.len.ensures, c.self.inside.rows.ok)

pub returns : goal.returns
returns c =
    let h = c.self.invariant.0 in
    let told = ap (λ (b : BookData). b.history) c.self.view_is in
    omega (arith, c.len.ensures, c.self.inside.rows.ok, length-book _ _ _ h c.args.self.now told)
