use Rattle.std.proofs.Common.{arith}
use Rattle.nt_view.proofs.Stores.{next-found}
use Rattle.nt_view.proofs.reading.bring_page.Goals as goal

pub returns-then-has_next-clause-read : goal.returns-then-has_next-clause-read
returns-then-has_next-clause-read g c told is =
    let h = c.has_next.ensures c.if-has_next.true in
    let seen = c.requires.seen in
    next-found told c.args.store.now.bytes.items c.args.i c.args.page.now c.args.store.now.taken c.args.store.now.place h.here h.room
    (omega (arith, seen.within, seen.sized told is)) (seen.ahead told is)
