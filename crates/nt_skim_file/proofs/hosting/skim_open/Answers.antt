use Rattle.nt_skim_file.proofs.Chosen.{open_filed, open_refused}
use Rattle.nt_skim_file.proofs.hosting.skim_open.Goals as goal

pub returns-in-Ok : goal.returns-in-Ok
returns-in-Ok g c =
    open_filed c.args.out.now _ c.args.params.now _ _ _ _ _ c.in-Ok.chosen c.file_selection.result c.in-Ok.ensures
    c.file_selection.ensures

pub returns-in-Err : goal.returns-in-Err
returns-in-Err g c = open_refused c.args.out.now _ c.args.params.now _ _ _ c.in-Err.error c.in-Err.ensures
