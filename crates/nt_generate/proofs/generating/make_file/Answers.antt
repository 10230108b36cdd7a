use Rattle.std.proofs.lemmas.Result.{err_from_is_err_and}
use Rattle.nt_generate.proofs.Back.{made_back, made_none, nothing_done}
use Rattle.nt_generate.proofs.generating.make_file.Goals as goal

pub returns-in_err-fields : goal.returns-in_err-fields
returns-in_err-fields g c =
    let p = err_from_is_err_and c.from_residual.result c.from_residual.ensures.1 in
    rw (p.1, p.2) (nothing_done _ c.args.settings.now.params.now c.args.making.now c.args.name.now _)

pub returns-in_err-sources : goal.returns-in_err-sources
returns-in_err-sources g c =
    let p = err_from_is_err_and c.from_residual-in_err-sources.result c.from_residual-in_err-sources.ensures.1 in
    rw (p.1, p.2) (nothing_done _ c.args.settings.now.params.now c.args.making.now c.args.name.now _)

pub write_made-disk-requires-clause-may : goal.write_made-disk-requires-clause-may
write_made-disk-requires-clause-may g c κs within =
    let made = c.in-Ok.ensures.disk in
    record {
      fields_are = c.in_ok-fields.ensures;
      texts = c.in_ok-sources.ensures;
      empty = record { held = made.empty; end = made.end; out = made.out };
    }

pub returns-in-Ok : goal.returns-in-Ok
returns-in-Ok g c =
    made_back _ c.args.settings.now.params.now c.args.making.now c.args.name.now _ _ _ _ _ _ _ c.in-Ok.ensures.creates c.in-Ok.ensures.disk
    c.write_made-disk.ensures c.return_disk.ensures

pub returns : goal.returns
returns g c =
    rw c.from.ensures (made_none _ c.args.settings.now.params.now c.args.making.now c.args.name.now _ _ c.in-Err.refused
    c.in-Err.ensures.creates)
