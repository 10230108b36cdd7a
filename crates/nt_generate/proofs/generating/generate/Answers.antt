use Rattle.std.proofs.lemmas.Result.{err_from_is_err_and}
use Rattle.nt_generate.proofs.Told.{tells_as}
use Rattle.nt_generate.proofs.Joined.{ends_unmade, ends_told}
use Rattle.nt_generate.proofs.generating.generate.Goals as goal

pub returns-in_err-order : goal.returns-in_err-order
returns-in_err-order g c =
    let p = err_from_is_err_and c.from_residual.result c.from_residual.ensures.1 in
    rw (p.1, p.2) (ends_unmade _ c.args.name.now c.args.settings.now.params.now c.args.making.now _ _ c.in_err-order.field-0.0
    c.in_err-order.ensures)

pub returns : goal.returns
returns g c =
    ends_told _ c.args.name.now c.args.settings.now.params.now c.args.making.now _ _ _ c.in_ok-order.order _ c.in_ok-order.ensures
    (tells_as _ _ _ _ _ _ _ c.deref.ensures.value c.print_totals.ensures)
