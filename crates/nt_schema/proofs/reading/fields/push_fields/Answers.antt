use Rattle.std.proofs.Common.{◌≡◌, length, arith}
use Rattle.std.proofs.lemmas.Result.{err_from_is_err_and}
use Rattle.nt_grammar.specs.Table.{is_short}
use Rattle.nt_schema.proofs.RowSteps.{fields-next, fields-fail, passes-push}
use Rattle.nt_schema.proofs.reading.fields.push_fields.Goals as goal

pub returns-in_err-row-clause-left : goal.returns-in_err-row-clause-left
returns-in_err-row-clause-left c =
    let p = err_from_is_err_and c.from_residual.result c.from_residual.ensures.1 in
    let id : c.len-id.result ≡ length c.loop.rows.items = omega arith in
    rw (p.1, p.2)
    (fields-fail c.args.count c.loop.counter c.len-id.result c.loop.rows.items c.loop.cur _ _ c.loop-test.true id c.in_err-row.ensures.told
    c.loop.invariant.read)

pub loop-preserved : goal.loop-preserved
loop-preserved c =
    let id : c.len-id.result ≡ length c.loop.rows.items = omega arith in
    record {
      few = omega arith;
      more = omega arith;
      short = passes-push is_short c.loop.rows.items c.push.new.self.items c.in_ok-row.row c.loop.invariant.short c.in_ok-row.ensures.short
          c.in_ok-push.ensures.items;
      read = fields-next c.args.count c.loop.counter c.len-id.result c.loop.rows.items c.push.new.self.items c.loop.cur
          c.read_field.new.cur c.in_ok-row.row _ c.loop-test.true id c.in_ok-row.ensures.told c.in_ok-push.ensures.items
          c.loop.invariant.read;
    }
