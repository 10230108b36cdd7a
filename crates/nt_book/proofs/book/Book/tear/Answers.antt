use Rattle.std.proofs.Common.{arith}
use Rattle.nt_book.proofs.Noted.{lists-few}
use Rattle.nt_book.proofs.book.Book.tear.Goals as goal

pub overflow_cast-self : goal.overflow_cast-self
overflow_cast-self c =
    let few = c.self.invariant.1.few in
    let bound = c.self.invariant.1.bound in
    omega (arith, few, bound, lists-few _ _ _ _ _ _ _ _ _ c.self.invariant.4, c.len.ensures, c.self.inside.lists.ok)
