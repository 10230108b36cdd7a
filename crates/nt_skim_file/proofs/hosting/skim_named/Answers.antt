use Rattle.nt_skim_file.proofs.Named.{named, unopened}
use Rattle.nt_skim_file.proofs.hosting.skim_named.Goals as goal

pub returns-in-Ok : goal.returns-in-Ok
returns-in-Ok g c =
    named c.args.names.out.now c.args.names.file.now _ c.args.params.now _ _ _ _ _ _ _ c.skim_open-written.result c.in-Ok.ensures.opens
    c.in-Ok.ensures.opened c.skim_open-written.ensures c.return_file.ensures.back c.return_file.ensures.world

pub returns-in-Err : goal.returns-in-Err
returns-in-Err g c =
    rw c.from.ensures (unopened c.args.names.out.now c.args.names.file.now _ c.args.params.now _ _ c.in-Err.refused
    c.in-Err.ensures.opens)
