use Rattle.std.proofs.Common.{ap, sym, subst, List}
use Rattle.nt_machine.specs.declared.entry.Entry.{Entry}
use Rattle.nt_machine.specs.History.{ranges_of}
use Rattle.nt_machine.specs.Legal.{IsOut}
use Rattle.nt_book.specs.declared.meta.ClusterMeta.{ClusterMeta}
use Rattle.nt_book.specs.Books.{BookData, book_end}
use Rattle.nt_append.proofs.Entered.{out-committed, gains}
use Rattle.nt_append.proofs.ranges.enter.Goals as goal

pub settle-requires : goal.settle-requires
settle-requires c =
    subst (λ (h : List (Entry ClusterMeta)). IsOut (ranges_of h) c.args.meta.now.context c.append-cluster.result)
    (sym (ap (λ (b : BookData). b.history) c.append-cluster.ensures.book))
    (out-committed c.args.book.now.history (book_end c.args.book.now) c.args.meta.now c.append-cluster.result
    c.append-cluster.ensures.number)

pub returns : goal.returns
returns c =
    gains c.args.book.now c.append-cluster.new.self c.settle.new.self c.args.meta.now c.append-cluster.result
    c.append-cluster.ensures.number c.requires.not_staged c.keeps.ensures.legal c.append-cluster.ensures.allowed
    c.append-cluster.ensures.book
    c.settle.ensures.book
