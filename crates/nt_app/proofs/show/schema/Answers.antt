use Rattle.nt_show.specs.Shown.{fields_shown}
use Rattle.nt_app.proofs.Shown.{shows_named, refuses_named}
use Rattle.nt_app.proofs.show.schema.Goals as goal

pub returns-in-Ok : goal.returns-in-Ok
returns-in-Ok g c =
    let opened = c.in-Ok.ensures in
    shows_named fields_shown c.args.name.now _ _ _ _ _ _ c.show_fields-shown.result _ c.status_of_shown.ensures
    opened.opens.asks.ok opened.opens.asks.err_faults opened.opens.asks.opened opened.opens.asks.cause.later
    opened.opens.world opened.opened
    c.show_fields-shown.ensures c.return_file.ensures.back c.return_file.ensures.world

pub returns-in-Err : goal.returns-in-Err
returns-in-Err g c = refuses_named fields_shown c.args.name.now _ _ c.in-Err.refused _ c.status_of_refusal.ensures c.in-Err.ensures.opens
