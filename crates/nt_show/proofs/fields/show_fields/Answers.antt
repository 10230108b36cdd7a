use Rattle.std.proofs.Common.{◌∙◌, ap, sym, subst, inl, arith, ℕ, List, [], Err}
use Rattle.std.proofs.lemmas.Result.{err_from_is_err_and}
use Rattle.nt_grammar.specs.Table.{Table}
use Rattle.nt_outside.specs.declared.stream.Stream.TheVariants.{ToOut}
use Rattle.nt_outside.specs.World.{Turns, PrintsFront, prints}
use Rattle.nt_tfile.specs.declared.failure.ReadFailure.{ReadFailure}
use Rattle.nt_show.specs.Ranges.{entry_lines}
use Rattle.nt_show.specs.Fields.{fields_told}
use Rattle.nt_show.specs.Gathering.{PrintsSome}
use Rattle.nt_show.specs.Shown.{fields_shown, ShowsFile}
use Rattle.nt_show.proofs.Showing.{fields_whole, fields_unprinted, no_fault, rose_later}
use Rattle.nt_show.proofs.fields.show_fields.Goals as goal

pub returns-in_err-print_all : goal.returns-in_err-print_all
returns-in_err-print_all g c =
    let p = err_from_is_err_and c.from_residual-in_err-print_all.result c.from_residual-in_err-print_all.ensures.1 in
    let attached = c.in_ok-reader.ensures in
    let put = c.in_ok-put_fields.ensures in
    let printed = c.print_all.ensures in
    let old = (g.H.Host.state c.args.host.now).world in
    let mid = (g.H.Host.state c.put_fields.new.host).world in
    let left = c.put_fields.new.waiting.items in
    let lines = subst (λ (t : Table). PrintsSome (entry_lines (fields_told t)) old [] mid left) c.schema.ensures
    (subst (λ (l : List ℕ). PrintsSome (entry_lines (fields_told c.schema.result.now)) old l mid left)
    c.new-waiting.ensures.items put.ok) in
    let front = subst (λ (l : List ℕ). PrintsFront ToOut l mid (g.H.Host.state c.print_all.new.host).world) c.deref.ensures.value
    printed.front in
    subst (ShowsFile fields_shown _ _ _ _) (sym (p.1 ∙ ap (λ (e : ReadFailure). Err e) p.2))
    (record {
      told = λ w b is is-file. fields_unprinted b left c.in_ok-reader.reader old mid _ w is (attached.read b is-file) lines front;
      later = omega (arith, put.cause.later, printed.cause.later);
      file_later = attached.file.later;
      fault = λ fault. inl (rose_later _ _ _ put.cause.later c.in_err-print_all.ensures.cause.failed);
      rest = record {
        asked = printed.asked ∙ put.rest.asked;
        err_faults = printed.other ∙ put.rest.err_faults;
        opened = printed.opened ∙ put.rest.opened;
      };
    })

pub returns : goal.returns
returns g c =
    let attached = c.in_ok-reader.ensures in
    let put = c.in_ok-put_fields.ensures in
    let printed = c.in_ok-print_all.ensures in
    let old = (g.H.Host.state c.args.host.now).world in
    let mid = (g.H.Host.state c.put_fields.new.host).world in
    let left = c.put_fields.new.waiting.items in
    let lines = subst (λ (t : Table). PrintsSome (entry_lines (fields_told t)) old [] mid left) c.schema.ensures
    (subst (λ (l : List ℕ). PrintsSome (entry_lines (fields_told c.schema.result.now)) old l mid left)
    c.new-waiting.ensures.items put.ok) in
    let turns = subst (λ (l : List ℕ). Turns mid (g.H.Host.state c.print_all.new.host).world (prints ToOut l)) c.deref.ensures.value
    printed.ok in
    record {
      told = λ w b is is-file. fields_whole b left c.in_ok-reader.reader old mid _ w is (attached.read b is-file) lines turns;
      later = omega (arith, put.cause.later, printed.cause.later);
      file_later = attached.file.later;
      fault = no_fault tt _;
      rest = record {
        asked = printed.asked ∙ put.rest.asked;
        err_faults = printed.other ∙ put.rest.err_faults;
        opened = printed.opened ∙ put.rest.opened;
      };
    }
