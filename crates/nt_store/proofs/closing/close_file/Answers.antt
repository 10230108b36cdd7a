use Rattle.std.proofs.lemmas.Result.{err_from_is_err_and}
use Rattle.nt_close.specs.Filled.{closing_tail, closing_front}
use Rattle.nt_close.specs.Passing.{passed_by_close}
use Rattle.nt_store.proofs.Closed.{closed_leaves, unclosed_leaves, closed_crash, unclosed_crash, close_order, close_fails, of_no_text}
use Rattle.nt_store.proofs.closing.close_file.Goals as goal

pub returns-in_err-close : goal.returns-in_err-close
returns-in_err-close g c =
    let p = err_from_is_err_and c.from_residual.result c.from_residual.ensures.1 in
    let e = c.in_err-close.field-0.0 in
    let disk = g.D.Disk.state c.args.disk.now in
    let disk' = g.D.Disk.state c.close.new.disk in
    let may = c.requires.may in
    rw (p.1, p.2) (record {
      left = λ fields texts h is filled.
          unclosed_leaves c.chunks_in_files.ensures.lengths c.chunks_in_files.ensures.stored c.chunks_in_files.ensures.over
          c.closed_is_finished.ensures c.args.schema.now c.args.params.now c.args.book.now fields texts h filled e disk disk' is
          may.undamaged c.in_err-close.ensures.closes.cause c.in_err-close.ensures.closes.left;
      order = close_order _ _ disk disk' _ (λ h is. (g.met.D.Disk.told c.args.disk.now h is).1) c.close.ensures.closes.left;
      crash = λ fields texts h is filled.
          unclosed_crash c.crashes_leave_chunks_or_none.ensures c.args.schema.now c.args.params.now c.args.book.now fields texts h filled
          e disk disk' is may.undamaged c.in_err-close.ensures.closes.cause c.in_err-close.ensures.closes.left;
      failed = λ is. close_fails c.args.book.now (passed_by_close c.args.params.now c.args.schema.now c.args.book.now)
          (closing_tail c.args.params.now.staged c.args.schema.now c.args.book.now c.args.params.now.group)
          (closing_front c.args.params.now.staged c.args.schema.now c.args.book.now c.args.params.now.group) disk disk' e may.undamaged
          c.in_err-close.ensures.closes.cause c.in_err-close.ensures.closes.left (cc is);
      no_text = of_no_text e;
    })

pub returns : goal.returns
returns g c =
    let disk = g.D.Disk.state c.args.disk.now in
    let disk' = g.D.Disk.state c.close.new.disk in
    record {
      left = λ fields texts h is filled.
          closed_leaves c.chunks_in_files.ensures.lengths c.chunks_in_files.ensures.stored c.chunks_in_files.ensures.over
          c.closed_is_finished.ensures c.args.schema.now c.args.params.now c.args.book.now fields texts h filled disk'.held
          (c.in_ok-close.ensures.closes.left.held h is) c.in_ok-close.ensures.closes.finished.within;
      order = close_order _ _ disk disk' _ (λ h is. (g.met.D.Disk.told c.args.disk.now h is).1) c.close.ensures.closes.left;
      crash = λ fields texts h is filled.
          closed_crash c.crashes_leave_chunks_or_none.ensures c.args.schema.now c.args.params.now c.args.book.now fields texts h filled
          disk'.held c.in_ok-close.ensures.closes.finished.within (c.in_ok-close.ensures.closes.left.held h is);
      failed = λ is. absurd (cc is);
      no_text = tt;
    }
