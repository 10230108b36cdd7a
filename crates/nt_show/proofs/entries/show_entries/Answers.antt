use Rattle.std.proofs.Common.{◌∙◌, ap, sym, refl, subst, inl, inr, arith, ℕ, List, Ok, Err}
use Rattle.std.proofs.lemmas.Result.{err_from_is_err_and}
use Rattle.nt_outside.specs.declared.stream.Stream.TheVariants.{ToOut}
use Rattle.nt_outside.specs.World.{Turns, PrintsFront, prints}
use Rattle.nt_tfile.specs.declared.failure.ReadFailure.{ReadFailure}
use Rattle.nt_show.specs.Shown.{entries_shown, ShowsFile}
use Rattle.nt_show.proofs.Showing.{entries_unattached, entries_refused, told_from, listed_unprinted, listed_whole, listed_faulty, failed_of}
use Rattle.nt_show.proofs.Showing.{fault_again, no_fault, defect_is_no_fault, rose_later}
use Rattle.nt_show.proofs.entries.show_entries.Goals as goal

pub returns-in_err-reader : goal.returns-in_err-reader
returns-in_err-reader g c =
    let p = err_from_is_err_and c.from_residual.result c.from_residual.ensures.1 in
    let attached = c.in_err-reader.ensures in
    subst (ShowsFile (entries_shown c.args.range) _ _ _ _) (sym (p.1 ∙ ap (λ (e : ReadFailure). Err e) p.2))
    (record {
      told = λ w b is is-file. entries_unattached c.args.range b w _ c.in_err-reader.field-0.0 (attached.read b is-file) is;
      later = omega arith;
      file_later = attached.file.later;
      fault = λ fault. inr (attached.file.fault (fault_again c.in_err-reader.field-0.0 fault));
      rest = record { asked = refl; err_faults = refl; opened = refl };
    })

pub returns-in_err-fault : goal.returns-in_err-fault
returns-in_err-fault g c =
    let p = err_from_is_err_and c.from_residual-in_err-fault.result c.from_residual-in_err-fault.ensures.1 in
    let attached = c.in_ok-reader.ensures in
    let listed = c.in_err-fault.ensures in
    subst (ShowsFile (entries_shown c.args.range) _ _ _ _) (sym (p.1 ∙ ap (λ (e : ReadFailure). Err e) p.2))
    (record {
      told = λ w b is is-file.
          entries_refused c.args.range b c.in_ok-reader.reader c.in_err-fault.field-0.0 _ _ w is (attached.read b is-file)
          (told_from b c.in_ok-reader.reader c.args.range (g.H.Host.state c.args.host.now).world
          (g.H.Host.state c.put_clusters.new.host).world c.new.result.items c.put_clusters.new.pending.waiting.items
          (Err c.in_err-fault.field-0.0) c.new.ensures.items
          (listed.told b (attached.file.same ∙ is-file)));
      later = listed.cause.later;
      file_later = omega (arith, attached.file.later, listed.cause.file_later);
      fault = λ fault. elim (listed.cause.failed (failed_of c.in_err-fault.field-0.0 fault)) [
        | inl rose ↦ inl rose
        | inr rose ↦ inr (rose_later _ _ _ attached.file.later rose)
      ];
      rest = listed.rest;
    })

pub returns-in_err-print_all : goal.returns-in_err-print_all
returns-in_err-print_all g c =
    let p = err_from_is_err_and c.from_residual-in_err-print_all.result c.from_residual-in_err-print_all.ensures.1 in
    let attached = c.in_ok-reader.ensures in
    let listed = c.in_ok-fault.ensures in
    let printed = c.print_all.ensures in
    let front = subst (λ (l : List ℕ). PrintsFront ToOut l (g.H.Host.state c.put_clusters.new.host).world
    (g.H.Host.state c.print_all.new.host).world) c.deref.ensures.value printed.front in
    subst (ShowsFile (entries_shown c.args.range) _ _ _ _) (sym (p.1 ∙ ap (λ (e : ReadFailure). Err e) p.2))
    (record {
      told = λ w b is is-file.
          listed_unprinted c.args.range b c.put_clusters.new.pending.waiting.items c.in_ok-reader.reader c.in_ok-fault.fault _ _ _ w is
          (attached.read b is-file)
          (told_from b c.in_ok-reader.reader c.args.range (g.H.Host.state c.args.host.now).world
          (g.H.Host.state c.put_clusters.new.host).world c.new.result.items c.put_clusters.new.pending.waiting.items
          (Ok c.in_ok-fault.fault) c.new.ensures.items
          (listed.told b (attached.file.same ∙ is-file))) front;
      later = omega (arith, listed.cause.later, printed.cause.later);
      file_later = omega (arith, attached.file.later, listed.cause.file_later);
      fault = λ fault. inl (rose_later _ _ _ listed.cause.later c.in_err-print_all.ensures.cause.failed);
      rest = record {
        asked = printed.asked ∙ listed.rest.asked;
        err_faults = printed.other ∙ listed.rest.err_faults;
        opened = printed.opened ∙ listed.rest.opened;
      };
    })

pub returns-in-None : goal.returns-in-None
returns-in-None g c =
    let attached = c.in_ok-reader.ensures in
    let listed = c.in_ok-fault.ensures in
    let printed = c.in_ok-print_all.ensures in
    let turns = subst (λ (l : List ℕ). Turns (g.H.Host.state c.put_clusters.new.host).world (g.H.Host.state c.print_all.new.host).world
    (prints ToOut l)) c.deref.ensures.value printed.ok in
    record {
      told = λ w b is is-file.
          listed_whole c.args.range b c.put_clusters.new.pending.waiting.items c.in_ok-reader.reader c.in_ok-fault.fault _ _ _ w
          c.in-None.is is (attached.read b is-file)
          (told_from b c.in_ok-reader.reader c.args.range (g.H.Host.state c.args.host.now).world
          (g.H.Host.state c.put_clusters.new.host).world c.new.result.items c.put_clusters.new.pending.waiting.items
          (Ok c.in_ok-fault.fault) c.new.ensures.items
          (listed.told b (attached.file.same ∙ is-file))) turns;
      later = omega (arith, listed.cause.later, printed.cause.later);
      file_later = omega (arith, attached.file.later, listed.cause.file_later);
      fault = no_fault tt _;
      rest = record {
        asked = printed.asked ∙ listed.rest.asked;
        err_faults = printed.other ∙ listed.rest.err_faults;
        opened = printed.opened ∙ listed.rest.opened;
      };
    }

pub returns : goal.returns
returns g c =
    let attached = c.in_ok-reader.ensures in
    let listed = c.in_ok-fault.ensures in
    let printed = c.in_ok-print_all.ensures in
    let turns = subst (λ (l : List ℕ). Turns (g.H.Host.state c.put_clusters.new.host).world (g.H.Host.state c.print_all.new.host).world
    (prints ToOut l)) c.deref.ensures.value printed.ok in
    record {
      told = λ w b is is-file.
          listed_faulty c.args.range b c.put_clusters.new.pending.waiting.items c.in_ok-reader.reader c.in_ok-fault.fault c.in-Some.fault
          _ _ _ w c.in-Some.is is (attached.read b is-file)
          (told_from b c.in_ok-reader.reader c.args.range (g.H.Host.state c.args.host.now).world
          (g.H.Host.state c.put_clusters.new.host).world c.new.result.items c.put_clusters.new.pending.waiting.items
          (Ok c.in_ok-fault.fault) c.new.ensures.items
          (listed.told b (attached.file.same ∙ is-file))) turns;
      later = omega (arith, listed.cause.later, printed.cause.later);
      file_later = omega (arith, attached.file.later, listed.cause.file_later);
      fault = defect_is_no_fault c.in-Some.fault _;
      rest = record {
        asked = printed.asked ∙ listed.rest.asked;
        err_faults = printed.other ∙ listed.rest.err_faults;
        opened = printed.opened ∙ listed.rest.opened;
      };
    }
