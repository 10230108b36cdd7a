use Rattle.nt_generate.proofs.Told.{read_back, unread_back, unopened_back}
use Rattle.nt_generate.proofs.telling.read_totals.Goals as goal

pub returns-in-Ok-totals : goal.returns-in-Ok-totals
returns-in-Ok-totals g c =
    read_back _ c.args.name.now c.args.contexts c.args.order.now _ _ _ _ _ _ _ _ c.in-Ok-totals.is c.in-Ok.ensures.opens
    c.in-Ok.ensures.opened c.tell_totals-totals.ensures.read c.return_file.ensures.back c.return_file.ensures.world

pub returns-in-Err-totals : goal.returns-in-Err-totals
returns-in-Err-totals g c =
    rw c.from.ensures (unread_back _ c.args.name.now c.args.contexts c.args.order.now _ _ _ _ _ _ _ _ c.in-Err-totals.is
    c.in-Ok.ensures.opens c.in-Ok.ensures.opened c.tell_totals-totals.ensures.read c.tell_totals-totals.ensures.file
    c.return_file.ensures.back c.return_file.ensures.world)

pub returns-in-Err : goal.returns-in-Err
returns-in-Err g c =
    rw c.from-in-Err.ensures (unopened_back _ c.args.name.now c.args.contexts c.args.order.now _ _ c.in-Err.refused c.in-Err.ensures.opens)
