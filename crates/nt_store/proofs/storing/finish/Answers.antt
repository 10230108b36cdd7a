use Rattle.std.proofs.Common.{◌∙◌, ap, inl, inr, arith}
use Rattle.std.proofs.lemmas.Result.{err_from_is_err_and}
use Rattle.nt_dealing.specs.Dealt.{commit_order}
use Rattle.nt_store.specs.declared.error.StoreError.TheVariants.{Outside}
use Rattle.nt_store.specs.Orders.{order_line}
use Rattle.nt_store.proofs.Begun.{shut_open}
use Rattle.nt_store.proofs.Crashing.{leaves_open}
use Rattle.nt_store.proofs.Printing.{front_printed, line_printed, closed_told, closed_crashes}
use Rattle.nt_store.proofs.storing.finish.Goals as goal

pub returns-in_err-order-clause-file : goal.returns-in_err-order-clause-file
returns-in_err-order-clause-file g c =
    let p = err_from_is_err_and c.from_residual.result c.from_residual.ensures.1 in
    record {
      told = λ fields ts w h is held filled. rw (p.1, p.2) (inl (is, (h, held, shut_open h.image filled.shut)));
      order = λ h held. (h, held, λ shut order. order);
      crash = λ fields ts w h is held filled. rw (p.1, p.2) (h, held, filled.unfinished);
    }

pub returns-in_err-line-clause-file : goal.returns-in_err-line-clause-file
returns-in_err-line-clause-file g c =
    let p = err_from_is_err_and c.from_residual-in_err-line.result c.from_residual-in_err-line.ensures.1 in
    record {
      told = λ fields ts w h is held filled. rw (p.1, p.2) (inl (is, (h, held, shut_open h.image filled.shut)));
      order = λ h held. (h, held, λ shut order. order);
      crash = λ fields ts w h is held filled. rw (p.1, p.2) (h, held, filled.unfinished);
    }

pub returns-in_err-print_all-clause-file : goal.returns-in_err-print_all-clause-file
returns-in_err-print_all-clause-file g c =
    let p = err_from_is_err_and c.from_residual-in_err-print_all.result c.from_residual-in_err-print_all.ensures.1 in
    let line = c.deref-2.ensures.value ∙ (c.in_ok-line.ensures ∙ ap order_line (c.deref.ensures.value ∙ c.in_ok-order.ensures)) in
    record {
      told = λ fields ts w h is held filled.
          let front = c.print_all.ensures.front w is in
          rw (p.1, p.2) (inr (inl (
            _,
            _,
            front_printed fields c.args.params.now ts w _ (commit_order c.args.book.now) c.deref-2.result.now front.0
                (record { sound = filled.holds.sound; uses = filled.holds.are.uses }) line front.2,
            (h, held, shut_open h.image filled.shut),
          )));
      order = λ h held. (h, held, λ shut order. order);
      crash = λ fields ts w h is held filled. rw (p.1, p.2) (h, held, leaves_open _ h.log Outside filled.unfinished);
    }

pub returns-clause-file : goal.returns-clause-file
returns-clause-file g c =
    let line = c.deref-2.ensures.value ∙ (c.in_ok-line.ensures ∙ ap order_line (c.deref.ensures.value ∙ c.in_ok-order.ensures)) in
    let closes = c.close_file.ensures in
    record {
      told = λ fields ts w h is held filled.
          closed_told fields c.args.params.now ts w _ _ c.args.book.now _
          (record { sound = filled.holds.sound; uses = filled.holds.are.uses })
          (line_printed c.args.book.now c.deref-2.result.now w _ line (c.in_ok-print_all.ensures.ok w is))
          (closes.left fields ts h held filled);
      order = closes.order;
      crash = λ fields ts w h is held filled.
          closed_crashes fields c.args.params.now ts w _ _ c.args.book.now _
          (line_printed c.args.book.now c.deref-2.result.now w _ line (c.in_ok-print_all.ensures.ok w is))
          (closes.crash fields ts h held filled);
    }

pub returns-clause-cause : goal.returns-clause-cause
returns-clause-cause g c = record {
  later = omega (arith, c.print_all.ensures.cause.later);
  failed = λ is. inl (c.close_file.ensures.failed (cc is));
}
