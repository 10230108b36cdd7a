use Rattle.std.proofs.Common.{rules, ◌∙◌, ap}
use Rattle.std.proofs.lemmas.Result.{err_from_is_err_and}
use Rattle.nt_num.specs.declared.fault.ReadError.{ReadError}
use Rattle.nt_pagelists.specs.Columns.{in_column}
use Rattle.nt_decoded.specs.Windows.{window_bytes}
use Rattle.nt_reader.proofs.Chains.{reads-as}
use Rattle.nt_decoded.proofs.PageSteps.{size-fails, place-fails, stored-done}
use Rattle.nt_decoded.proofs.pages.push_page.Goals as goal

pub returns-in_err-check_size-clause-read : goal.returns-in_err-check_size-clause-read
returns-in_err-check_size-clause-read g c told is =
    let failed = size-fails told c.args.of.now.cluster c.args.of.now.id c.args.page.now c.args.column.now c.kind.result _
    c.kind.ensures
    c.in_err-check_size.ensures.plain in
    search (rules, failed)

pub returns-in_err-move_to-clause-read : goal.returns-in_err-move_to-clause-read
returns-in_err-move_to-clause-read g c told is =
    let p = err_from_is_err_and c.from_residual-in_err-move_to.result c.from_residual-in_err-move_to.ensures.1 in
    let named = c.in_column-outside.ensures
    ∙ ap (λ (e : ReadError). in_column c.args.of.now.cluster c.args.of.now.id e) c.fault_with.ensures in
    rw (p.1, p.2)
    (place-fails told c.args.of.now.cluster c.args.of.now.id c.args.page.now c.args.column.now c.kind.result _
    c.in_column-outside.result _
    c.kind.ensures c.in_ok-check_size.ensures.plain named
    (c.in_err-move_to.ensures.read told is))

pub returns-clause-read : goal.returns-clause-read
returns-clause-read g c told is =
    let named = c.in_column-outside.ensures
    ∙ ap (λ (e : ReadError). in_column c.args.of.now.cluster c.args.of.now.id e) c.fault_with.ensures in
    reads-as _ c.push_stored.result _ _
    (stored-done told c.args.of.now.cluster c.args.of.now.id c.args.page.now c.args.column.now c.kind.result _
    c.in_column-outside.result
    (window_bytes c.move_to.new.window c.args.page.now) c.kind.ensures
    c.in_ok-check_size.ensures.plain named (c.in_ok-move_to.ensures.read told is))
    c.push_stored.ensures.read
