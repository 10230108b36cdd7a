use Rattle.std.proofs.Common.{◌≡◌, ◌<◌, ◌∷◌, ◌++◌, ◌∙◌, length, arith, subst, sym, ap, List, refl}
use Rattle.std.specs.List.{AllByRecursion}
use Rattle.nt_pool.specs.Pool.{AreNumbered}
use Rattle.nt_contexts.specs.declared.seats.Context.{Context}
use Rattle.nt_contexts.specs.Jobs.{seats_in, IsContextOf}
use Rattle.nt_contexts.proofs.Lists.{first_removed, All-snoc}
use Rattle.nt_contexts.proofs.Jobs.{numbered-more, moved}
use Rattle.nt_contexts.proofs.seats.contexts_of.Goals as goal

pub loop-seats-preserved : goal.loop-seats-preserved
loop-seats-preserved g c =
    let i = c.loop-seats.invariant in
    let ws = c.loop-seats.seats.items in
    let some : 0 < length ws = omega (arith, c.remove-seat.ensures.len) in
    let is : ws ≡ c.remove-seat.result ∷ c.remove-seat.new.self.items =
    first_removed ws c.remove-seat.new.self.items c.remove-seat.result some c.remove-seat.ensures.value c.remove-seat.ensures.items in
    let one : Context _ _ _ = record {
      number = c.loop-seats.number;
      seat = c.remove-seat.result;
      committer = c.args.committer;
      shared = c.args.shared;
    } in
    let pushed = c.push_reserved.ensures.items in
    let count = i.count in
    record {
      numbered = subst (λ l. AreNumbered (λ (j : Context _ _ _). j.number) l) (sym pushed)
          (numbered-more (λ (j : Context _ _ _). j.number) c.loop-seats.contexts.items one i.numbered (omega (arith, count)));
      seats = subst (λ l. seats_in l ++ c.remove-seat.new.self.items ≡ c.args.seats.items) (sym pushed)
          (moved (λ (j : Context _ _ _). j.seat) c.loop-seats.contexts.items one c.remove-seat.new.self.items c.args.seats.items
          (ap (λ (l : List _). seats_in c.loop-seats.contexts.items ++ l) (sym is) ∙ i.seats));
      all = subst (λ l. AllByRecursion (IsContextOf c.args.committer.now c.args.shared.now) l) (sym pushed)
          (All-snoc (IsContextOf c.args.committer.now c.args.shared.now) c.loop-seats.contexts.items one i.all
          (record { committer_is = refl; shared_is = refl }));
      count = let l = c.push_reserved.ensures.len in omega (arith, count, l);
      few = let f = i.few in let l = c.push_reserved.ensures.len in omega (arith, f, l, c.remove-seat.ensures.len);
      room =
          let f = i.room in
          let l = c.push_reserved.ensures.len in
          omega (arith, f, l, c.remove-seat.ensures.len, c.push_reserved.ensures.capacity);
    }
