use Rattle.std.proofs.lemmas.Result.{err_from_is_err_and}
use Rattle.nt_types.specs.Views.{members_view}
use Rattle.nt_script.proofs.Opened.{opened, stores_unread, stores_unopened}
use Rattle.nt_script.proofs.Stores.{stores_unfiled, stores_told, stores_untold}
use Rattle.nt_script.proofs.hosting.store_script.Goals as goal

pub returns-in_err-fields : goal.returns-in_err-fields
returns-in_err-fields g c =
    let p = err_from_is_err_and c.from_residual.result c.from_residual.ensures.1 in
    let read = c.in_err-fields.ensures in
    rw (p.1, p.2) (stores_unread c.args.names.out.now c.args.names.schema.now c.args.names.input.now c.args.params.now _ _
    c.in_err-fields.field-0.0 read.asks read.told read.cause read.rest)

pub returns-in_err-text : goal.returns-in_err-text
returns-in_err-text g c =
    let p = err_from_is_err_and c.from_residual-in_err-text.result c.from_residual-in_err-text.ensures.1 in
    let read = c.in_ok-fields.ensures in
    rw (p.1, p.2) (stores_unopened c.args.names.out.now c.args.names.schema.now c.args.names.input.now c.args.params.now _ _ _
    c.in_ok-fields.fields c.in_err-text.field-0.0 read.asks read.told read.cause read.rest c.in_err-text.ensures.opens)

pub returns-in_err-counts : goal.returns-in_err-counts
returns-in_err-counts g c =
    let p = err_from_is_err_and c.from_residual-in_err-counts.result c.from_residual-in_err-counts.ensures.1 in
    let read = c.in_ok-fields.ensures in
    let text = c.in_ok-text.ensures in
    let out = c.args.names.out.now in
    let schema = c.args.names.schema.now in
    let input = c.args.names.input.now in
    rw (p.1, p.2) (stores_unfiled out schema input c.args.params.now (members_view c.in_ok-fields.fields) _ _ _
    (opened schema input _ _ _ c.in_ok-fields.fields _ _ read.asks read.told read.cause read.rest text.opens text.text) _
    c.in_err-counts.field-0.0 c.in_err-counts.ensures)

pub returns-in_err-print_counts : goal.returns-in_err-print_counts
returns-in_err-print_counts g c =
    let p = err_from_is_err_and c.from_residual-in_err-print_counts.result c.from_residual-in_err-print_counts.ensures.1 in
    let read = c.in_ok-fields.ensures in
    let text = c.in_ok-text.ensures in
    let out = c.args.names.out.now in
    let schema = c.args.names.schema.now in
    let input = c.args.names.input.now in
    rw (p.1, p.2) (stores_untold out schema input c.args.params.now (members_view c.in_ok-fields.fields) _ _ _
    (opened schema input _ _ _ c.in_ok-fields.fields _ _ read.asks read.told read.cause read.rest text.opens text.text) _ _
    c.in_ok-counts.counts c.in_err-print_counts.field-0.0 c.in_ok-counts.ensures c.in_err-print_counts.ensures)

pub returns : goal.returns
returns g c =
    let read = c.in_ok-fields.ensures in
    let text = c.in_ok-text.ensures in
    let out = c.args.names.out.now in
    let schema = c.args.names.schema.now in
    let input = c.args.names.input.now in
    stores_told out schema input c.args.params.now (members_view c.in_ok-fields.fields) _ _ _
    (opened schema input _ _ _ c.in_ok-fields.fields _ _ read.asks read.told read.cause read.rest text.opens text.text) _ _
    c.in_ok-counts.counts c.in_ok-counts.ensures c.in_ok-print_counts.ensures
