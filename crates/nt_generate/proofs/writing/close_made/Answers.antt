use Rattle.std.proofs.Common.{refl}
use Rattle.std.proofs.lemmas.Result.{err_from_is_err_and}
use Rattle.nt_generate.proofs.Written.{closed_made, unclosed_made, unordered_made}
use Rattle.nt_generate.proofs.writing.close_made.Goals as goal

pub returns-in_err-order : goal.returns-in_err-order
returns-in_err-order g c m =
    let p = err_from_is_err_and c.from_residual.result c.from_residual.ensures.1 in
    rw (p.1, p.2) (unordered_made _ c.args.params.now m c.args.schema.now c.args.book.now _ _ refl)

pub returns-in-Ok : goal.returns-in-Ok
returns-in-Ok g c m =
    closed_made _ c.args.params.now m (c.made_texts_are_read.ensures.read m) c.args.schema.now c.args.book.now _ _ _
    c.in_ok-order.ensures c.in-Ok.ensures

pub returns-in-Err : goal.returns-in-Err
returns-in-Err g c m =
    rw c.unwritten.ensures (unclosed_made _ c.args.params.now m (c.made_texts_are_read.ensures.read m) c.args.schema.now c.args.book.now _ _
    _ c.in-Err.ensures)
