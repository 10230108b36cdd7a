use Rattle.std.proofs.Common.{◌∙◌, ap, inl, arith}
use Rattle.std.proofs.lemmas.Result.{err_from_is_err_and}
use Rattle.nt_generate.specs.Lines.{total_lines}
use Rattle.nt_generate.proofs.Told.{none_told, front_told, all_told}
use Rattle.nt_generate.proofs.Joined.{served_as}
use Rattle.nt_generate.proofs.telling.print_totals.Goals as goal

pub returns-in_err-totals : goal.returns-in_err-totals
returns-in_err-totals g c =
    let p = err_from_is_err_and c.from_residual.result c.from_residual.ensures.1 in
    let read = c.in_err-totals.ensures in
    let e = c.in_err-totals.field-0.0 in
    rw (p.1, p.2) (record {
      told = none_told _ c.args.name.now c.args.contexts c.args.order.now _ _ e read;
      asked = read.asked;
      served = served_as _ _ e read.served;
    })

pub returns-in_err-lines : goal.returns-in_err-lines
returns-in_err-lines g c =
    let p = err_from_is_err_and c.from_residual-in_err-lines.result c.from_residual-in_err-lines.ensures.1 in
    let read = c.in_ok-totals.ensures in
    rw (p.1, p.2) (record {
      told = λ w is. inl (read.world ∙ is);
      asked = (1, read.asked);
      served = record { later = read.served.later; failed = λ is. absurd (cc is); back = read.served.back };
    })

pub returns-in_err-print_all : goal.returns-in_err-print_all
returns-in_err-print_all g c =
    let p = err_from_is_err_and c.from_residual-in_err-print_all.result c.from_residual-in_err-print_all.ensures.1 in
    let read = c.in_ok-totals.ensures in
    let printed = c.print_all.ensures in
    let text = c.deref-2.ensures.value ∙ (c.in_ok-lines.ensures ∙ ap total_lines c.deref.ensures.value) in
    rw (p.1, p.2) (record {
      told = λ w is.
          let front = printed.front w (read.world ∙ is) in
          front_told c.args.contexts c.args.order.now _ w _ c.in_ok-totals.totals.items c.deref-2.result.now front.0 (read.told w is) text
          front.2;
      asked = (1, printed.asked ∙ read.asked);
      served = record {
        later = omega (arith, read.served.later, printed.cause.later);
        failed = λ is. omega (arith, read.served.later, c.in_err-print_all.ensures.cause.failed);
        back = record {
          err_faults = printed.other ∙ read.served.back.err_faults;
          opened = omega (arith, printed.opened, read.served.back.opened);
        };
      };
    })

pub returns : goal.returns
returns g c =
    let read = c.in_ok-totals.ensures in
    let printed = c.print_all.ensures in
    let text = c.deref-2.ensures.value ∙ (c.in_ok-lines.ensures ∙ ap total_lines c.deref.ensures.value) in
    record {
      told = λ w is.
          all_told c.args.contexts c.args.order.now _ w _ c.in_ok-totals.totals.items c.deref-2.result.now (read.told w is) text
          (c.in_ok-print_all.ensures.ok w (read.world ∙ is));
      asked = printed.asked ∙ read.asked;
      served = record {
        later = omega (arith, read.served.later, printed.cause.later);
        failed = λ is. absurd (cc is);
        back = record {
          err_faults = printed.other ∙ read.served.back.err_faults;
          opened = omega (arith, printed.opened, read.served.back.opened);
        };
      };
    }
