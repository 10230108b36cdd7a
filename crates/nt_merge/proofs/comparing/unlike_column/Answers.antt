use Rattle.std.proofs.Common.{◌≡◌, ◌∙◌, drop, sym, subst, arith}
use Rattle.nt_merge.specs.Comparing.{like_column, unlike_from}
use Rattle.nt_merge.proofs.Unlike.{unlike_found, unlike_next, unlike_none, unlike_longer}
use Rattle.nt_merge.proofs.comparing.unlike_column.Goals as goal

pub returns-then-not-like_column : goal.returns-then-not-like_column
returns-then-not-like_column c =
    sym (unlike_found like_column c.args.first.now.columns c.args.schema.now.columns c.loop-id.id _ c.loop-id.invariant.left
    c.column.result.now c.column-in-loop-id.result.now c.column.ensures c.column-in-loop-id.ensures
    (sym c.like_column.ensures ∙ c.if-not-like_column.true))

pub loop-id-preserved : goal.loop-id-preserved
loop-id-preserved c = record {
  low = omega (arith, c.loop-id-test.true);
  left = unlike_next like_column c.args.first.now.columns c.args.schema.now.columns c.loop-id.id _ c.loop-id.invariant.left
      c.column.result.now c.column-in-loop-id.result.now c.column.ensures c.column-in-loop-id.ensures
      (sym c.like_column.ensures ∙ c.if-not-like_column.false);
}

pub returns-then-columns : goal.returns-then-columns
returns-then-columns c =
    let low = c.loop-id.invariant.low in
    sym (unlike_none like_column c.args.first.now.columns c.args.schema.now.columns c.loop-id.id _ c.loop-id.invariant.left
    (omega (
      arith,
      low,
      c.loop-id-test.false,
      c.min-common.ensures,
      c.columns.ensures,
      c.columns-2.ensures,
      c.columns-3.ensures,
      c.columns-4.ensures,
      c.if-columns.true,
    ))
    (omega (
      arith,
      low,
      c.loop-id-test.false,
      c.min-common.ensures,
      c.columns.ensures,
      c.columns-2.ensures,
      c.columns-3.ensures,
      c.columns-4.ensures,
      c.if-columns.true,
    )))

pub returns-else-columns : goal.returns-else-columns
returns-else-columns c =
    let low = c.loop-id.invariant.low in
    let same : c.loop-id.id ≡ c.min-common.result = omega (arith, low, c.loop-id-test.false) in
    sym (unlike_longer like_column c.args.first.now.columns c.args.schema.now.columns c.min-common.result _
    (subst (λ n. unlike_from like_column n (drop n c.args.first.now.columns) (drop n c.args.schema.now.columns)
    ≡ unlike_from like_column 0 c.args.first.now.columns c.args.schema.now.columns) same c.loop-id.invariant.left)
    (omega (arith, c.min-common.ensures, c.columns.ensures, c.columns-2.ensures))
    (omega (arith, c.min-common.ensures, c.columns.ensures, c.columns-2.ensures))
    (λ equal. c.if-columns.false (omega (arith, c.columns-3.ensures, c.columns-4.ensures, equal)))
    (λ one two. absurd (omega (arith, c.min-common.ensures, c.columns.ensures, c.columns-2.ensures, one, two))))
