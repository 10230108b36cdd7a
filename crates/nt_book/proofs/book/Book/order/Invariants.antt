use Rattle.std.proofs.Common.{◌≡◌, ◌≤◌, take, length, vec_capacity}
use Rattle.nt_machine.specs.History.{order_of}
use Rattle.nt_book.specs.Books.{book_clusters}
use Rattle.nt_book.proofs.book.Book.order.Given as goal

abbrev pub invariant-loop-cluster : goal.invariant-loop-cluster
invariant-loop-cluster l =
    (l.order.items ≡ order_of (take l.cluster (book_clusters l.self))) × (length (book_clusters l.self) ≤ vec_capacity l.order)
