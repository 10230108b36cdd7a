use Rattle.std.proofs.lemmas.Result.{err_from_is_err_and}
use Rattle.std.proofs.Common.{rules, ◌<◌}
use Rattle.nt_layout.specs.Finished.{list_places, file_len}
use Rattle.nt_close.specs.Passing.{blobs_left}
use Rattle.nt_close.proofs.Fitting.{passed-all}
use Rattle.nt_close.proofs.Endings.{passed-none, passed-file, ending-is}
use Rattle.nt_close.proofs.ending.ending_of.Goals as goal

pub returns-in_err-bytes-clause-err : goal.returns-in_err-bytes-clause-err
returns-in_err-bytes-clause-err c =
    let p = err_from_is_err_and c.from_residual.result c.from_residual.ensures.1 in
    let t = c.args.schema.now in let book = c.args.book.now in let params = c.args.params.now in
    rw (p.1, p.2) (passed-all params.limits (blobs_left params.staged t book params.group)
    (file_len t book (list_places params.staged t book params.group))
    c.in_err-bytes.field-0.0 c.in_err-bytes.ensures.err)

pub returns-clause-ok : goal.returns-clause-ok
returns-clause-ok c =
    let some : 0 < c.args.params.now.group = search rules in
    ending-is c.args.schema.now c.args.book.now c.args.params.now some c.keeps.ensures c.requires _ _ _ _ _ c.end.ensures
    c.in_ok-bytes.ensures.ok
    c.in_ok-fields.ensures.bytes c.in_ok-fields.ensures.fields c.in_ok-fields.ensures.places c.in_ok-fields.ensures.end

pub returns-then-fields-params-clause-err : goal.returns-then-fields-params-clause-err
returns-then-fields-params-clause-err c =
    let some : 0 < c.args.params.now.group = search rules in
    let is = ending-is c.args.schema.now c.args.book.now c.args.params.now some c.keeps.ensures c.requires _ _ _ _ _ c.end.ensures
    c.in_ok-bytes.ensures.ok
    c.in_ok-fields.ensures.bytes c.in_ok-fields.ensures.fields c.in_ok-fields.ensures.places c.in_ok-fields.ensures.end in
    passed-file c.args.schema.now c.args.book.now c.args.params.now _ _ is c.in_ok-bytes.ensures.fit c.if-fields-params.true

pub returns-clause-within : goal.returns-clause-within
returns-clause-within c =
    let some : 0 < c.args.params.now.group = search rules in
    let is = ending-is c.args.schema.now c.args.book.now c.args.params.now some c.keeps.ensures c.requires _ _ _ _ _ c.end.ensures
    c.in_ok-bytes.ensures.ok
    c.in_ok-fields.ensures.bytes c.in_ok-fields.ensures.fields c.in_ok-fields.ensures.places c.in_ok-fields.ensures.end in
    passed-none c.args.schema.now c.args.book.now c.args.params.now _ _ is c.in_ok-bytes.ensures.fit c.if-fields-params.false
