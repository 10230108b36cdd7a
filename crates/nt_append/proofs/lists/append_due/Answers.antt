use Rattle.std.proofs.Common.{arith, rules}
use Rattle.nt_append.proofs.ListAppended.{none-appended}
use Rattle.nt_append.proofs.lists.append_due.Goals as goal

pub returns-then-is_empty-clause-ok : goal.returns-then-is_empty-clause-ok
returns-then-is_empty-clause-ok g c =
    none-appended (g.D.Disk.state c.args.disk.now) c.args.book.now c.args.list.items c.requires (search rules)
