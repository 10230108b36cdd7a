use Rattle.std.proofs.Common.{◌∙◌, refl, sym, arith}
use Rattle.std.proofs.lemmas.Result.{err_from_is_err_and}
use Rattle.nt_show.proofs.Listing.{begins, fault_told, entries_told, ends_early, ends_whole}
use Rattle.nt_show.proofs.entries.put_clusters.Goals as goal

pub loop-k-init : goal.loop-k-init
loop-k-init g c = record {
  told = λ b is. begins b c.args.reader.now c.args.pending.now.range _ _;
  bytes = refl;
  later = omega arith;
  file_later = omega arith;
  rest = record { asked = refl; err_faults = refl; opened = refl };
}

pub returns-in_err-fault-clause-told : goal.returns-in_err-fault-clause-told
returns-in_err-fault-clause-told g c b is =
    let p = err_from_is_err_and c.from_residual.result c.from_residual.ensures.1 in
    let first = c.args.pending.now in
    let old = c.loop-k.pending in
    rw p.1
    (ends_early b c.args.reader.now first.range old.range c.loop-k.k _ _ _ first.waiting.items old.waiting.items
    (omega (arith, c.loop-k-test.true, c.clusters-k-end.ensures)) (c.loop-k.invariant.told b is)
    (c.in_err-fault.ensures.told b (c.loop-k.invariant.bytes ∙ is)))

pub returns-then-is_some-clause-told : goal.returns-then-is_some-clause-told
returns-then-is_some-clause-told g c b is =
    let first = c.args.pending.now in
    let old = c.loop-k.pending in
    let new = c.put_cluster.new.pending in
    fault_told b c.args.reader.now first.range old.range new.range c.loop-k.k _ _ _ first.waiting.items old.waiting.items
    new.waiting.items c.in_ok-fault.fault
    (omega (arith, c.loop-k-test.true, c.clusters-k-end.ensures)) (sym c.is_some.ensures ∙ c.if-is_some.true)
    (c.loop-k.invariant.told b is) (c.in_ok-fault.ensures.told b (c.loop-k.invariant.bytes ∙ is))

pub loop-k-preserved : goal.loop-k-preserved
loop-k-preserved g c =
    let first = c.args.pending.now in
    let old = c.loop-k.pending in
    let new = c.put_cluster.new.pending in
    record {
      told = λ b is.
          entries_told b c.args.reader.now first.range old.range new.range c.loop-k.k _ _ _ first.waiting.items old.waiting.items
          new.waiting.items c.in_ok-fault.fault
          (omega (arith, c.loop-k-test.true, c.clusters-k-end.ensures)) (sym c.is_some.ensures ∙ c.if-is_some.false)
          (c.loop-k.invariant.told b is) (c.in_ok-fault.ensures.told b (c.loop-k.invariant.bytes ∙ is));
      bytes = c.put_cluster.ensures.bytes ∙ c.loop-k.invariant.bytes;
      later = omega (arith, c.loop-k.invariant.later, c.put_cluster.ensures.cause.later);
      file_later = omega (arith, c.loop-k.invariant.file_later, c.put_cluster.ensures.cause.file_later);
      rest = record {
        asked = c.put_cluster.ensures.rest.asked ∙ c.loop-k.invariant.rest.asked;
        err_faults = c.put_cluster.ensures.rest.err_faults ∙ c.loop-k.invariant.rest.err_faults;
        opened = c.put_cluster.ensures.rest.opened ∙ c.loop-k.invariant.rest.opened;
      };
    }

pub returns-clause-told : goal.returns-clause-told
returns-clause-told g c b is =
    let first = c.args.pending.now in
    let old = c.loop-k.pending in
    ends_whole b c.args.reader.now first.range old.range c.loop-k.k _ _ first.waiting.items old.waiting.items
    (omega (arith, c.loop-k-test.false, c.clusters-k-end.ensures)) (c.loop-k.invariant.told b is)
