use Rattle.std.proofs.Common.{◌≡◌, ◌∙◌, drop, sym, subst, arith}
use Rattle.nt_merge.specs.Comparing.{like_field, unlike_from}
use Rattle.nt_merge.proofs.Unlike.{unlike_found, unlike_next, unlike_none, unlike_longer}
use Rattle.nt_merge.proofs.comparing.unlike_field.Goals as goal

pub returns-then-not-like_field : goal.returns-then-not-like_field
returns-then-not-like_field c =
    sym (unlike_found like_field c.args.first.now.fields c.args.schema.now.fields c.loop-id.id _ c.loop-id.invariant.left
    c.field.result.now c.field-in-loop-id.result.now c.field.ensures c.field-in-loop-id.ensures
    (sym c.like_field.ensures ∙ c.if-not-like_field.true))

pub loop-id-preserved : goal.loop-id-preserved
loop-id-preserved c = record {
  low = omega (arith, c.loop-id-test.true);
  left = unlike_next like_field c.args.first.now.fields c.args.schema.now.fields c.loop-id.id _ c.loop-id.invariant.left
      c.field.result.now c.field-in-loop-id.result.now c.field.ensures c.field-in-loop-id.ensures
      (sym c.like_field.ensures ∙ c.if-not-like_field.false);
}

pub returns-then-fields : goal.returns-then-fields
returns-then-fields c =
    let low = c.loop-id.invariant.low in
    sym (unlike_none like_field c.args.first.now.fields c.args.schema.now.fields c.loop-id.id _ c.loop-id.invariant.left
    (omega (
      arith,
      low,
      c.loop-id-test.false,
      c.min-common.ensures,
      c.fields.ensures,
      c.fields-2.ensures,
      c.fields-3.ensures,
      c.fields-4.ensures,
      c.if-fields.true,
    ))
    (omega (
      arith,
      low,
      c.loop-id-test.false,
      c.min-common.ensures,
      c.fields.ensures,
      c.fields-2.ensures,
      c.fields-3.ensures,
      c.fields-4.ensures,
      c.if-fields.true,
    )))

pub returns-else-fields : goal.returns-else-fields
returns-else-fields c =
    let low = c.loop-id.invariant.low in
    let same : c.loop-id.id ≡ c.min-common.result = omega (arith, low, c.loop-id-test.false) in
    sym (unlike_longer like_field c.args.first.now.fields c.args.schema.now.fields c.min-common.result _
    (subst (λ n. unlike_from like_field n (drop n c.args.first.now.fields) (drop n c.args.schema.now.fields)
    ≡ unlike_from like_field 0 c.args.first.now.fields c.args.schema.now.fields) same c.loop-id.invariant.left)
    (omega (arith, c.min-common.ensures, c.fields.ensures, c.fields-2.ensures))
    (omega (arith, c.min-common.ensures, c.fields.ensures, c.fields-2.ensures))
    (λ equal. c.if-fields.false (omega (arith, c.fields-3.ensures, c.fields-4.ensures, equal)))
    (λ one two. absurd (omega (arith, c.min-common.ensures, c.fields.ensures, c.fields-2.ensures, one, two))))
