use Rattle.std.proofs.Common.{◌≡◌, ◌<◌, ◌∷◌, sym, ap, subst, length, arith, rules}
use Rattle.nt_contexts.specs.Seating.{HasOpened}
use Rattle.nt_contexts.proofs.Lists.{first_removed}
use Rattle.nt_contexts.proofs.Opens.{StillOpens, opening-begins, opening-goes-on, opening-stops}
use Rattle.nt_contexts.proofs.opening.open_all.Goals as goal

pub loop-alloc-init : goal.loop-alloc-init
loop-alloc-init g c = record {
  opens = opening-begins c.args.committer.now g.S.Source.state c.args.sources.now.items c.args.seats.now.items c.args.first.now
      c.requires.letting.1 c.requires.letting.0;
  room = omega (arith, c.requires.room.0, ap length c.requires.letting.1);
  few = omega (arith, c.requires.room.1, ap length c.requires.letting.1);
}

pub loop-alloc-preserved : goal.loop-alloc-preserved
loop-alloc-preserved g c =
    let i = c.loop-alloc.invariant in
    let ws = c.loop-alloc.sources.items in
    let some : 0 < length ws = search rules in
    let is : ws ≡ c.remove-source.result ∷ c.remove-source.new.self.items =
    first_removed ws c.remove-source.new.self.items c.remove-source.result some c.remove-source.ensures.value
    c.remove-source.ensures.items in
    record {
      opens = subst (λ l. StillOpens c.args.committer.now g.S.Source.state c.args.sources.now.items c.remove-source.new.self.items l
          c.open_seat.new.first)
          (sym c.push_reserved.ensures.items)
          (opening-goes-on c.args.committer.now g.S.Source.state c.args.sources.now.items ws c.remove-source.new.self.items
          c.remove-source.result c.loop-alloc.seats.items
          c.in-Ok.seat c.loop-alloc.first c.open_seat.new.first is i.opens c.in-Ok.ensures.ok);
      room = omega (arith, i.room, c.remove-source.ensures.len, c.push_reserved.ensures.len, c.push_reserved.ensures.capacity);
      few = omega (arith, i.few, c.remove-source.ensures.len, c.push_reserved.ensures.len);
    }

pub returns-in-Err-clause-opened : goal.returns-in-Err-clause-opened
returns-in-Err-clause-opened g c =
    let ws = c.loop-alloc.sources.items in
    let some : 0 < length ws = search rules in
    let is : ws ≡ c.remove-source.result ∷ c.remove-source.new.self.items =
    first_removed ws c.remove-source.new.self.items c.remove-source.result some c.remove-source.ensures.value
    c.remove-source.ensures.items in
    let stops = opening-stops c.args.committer.now g.S.Source.state c.args.sources.now.items ws c.remove-source.new.self.items
    c.remove-source.result c.in-Err.source
    c.loop-alloc.seats.items c.loop-alloc.first c.open_seat.new.first c.in-Err.refused is c.loop-alloc.invariant.opens
    c.in-Err.ensures.err.0 c.in-Err.ensures.err.1 in
    subst (λ l. HasOpened c.args.committer.now g.S.Source.state c.args.sources.now.items l c.loop-alloc.seats.items
    c.open_seat.new.first) (sym c.in-Ok-put.ensures.items) stops
