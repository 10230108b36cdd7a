use Rattle.std.proofs.Common.{◌∙◌, refl, sym, arith}
use Rattle.std.proofs.lemmas.List.{length-map}
use Rattle.nt_column.specs.Column.{Buffer, columns_of}
use Rattle.nt_column.proofs.Sets.{column-known}
use Rattle.nt_listing.proofs.ColumnKinds.{code-kind}
use Rattle.nt_decoded.proofs.ColumnKinds.{types-more, types-all}
use Rattle.nt_decoded.proofs.reuse.are_of_types.Goals as goal

pub loop-id-preserved : goal.loop-id-preserved
loop-id-preserved c =
    let bs = c.args.columns.now in
    let rows = c.args.schema.now.columns in
    let id = c.loop-id.id in
    let count = length-map bs (λ (b : Buffer). b.column) in
    types-more rows (columns_of bs) id c.column.result.now c.column-in-loop-id.result.now.column
    c.loop-id.invariant (column-known bs (columns_of bs) id c.column-in-loop-id.result.now refl c.column-in-loop-id.ensures)
    (omega (arith, c.loop-id-test.true, c.columns-id-end.ensures, c.if-columns.false, c.columns.ensures, c.columns-2.ensures, count))
    c.column.ensures (omega (arith, c.loop-id-test.true, c.columns-id-end.ensures))
    (sym c.kind.ensures ∙ (code-kind _ _ (sym c.code.ensures ∙ (c.if-code.false ∙ c.code-in-loop-id.ensures)) ∙ c.kept_kind-kept.ensures))

pub returns : goal.returns
returns c =
    let bs = c.args.columns.now in
    let count = length-map bs (λ (b : Buffer). b.column) in
    types-all c.args.schema.now.columns (columns_of bs) c.loop-id.id (omega (arith, c.loop-id-test.false, c.columns-id-end.ensures))
    (omega (arith, c.loop-id-test.false, c.columns-id-end.ensures, c.if-columns.false, c.columns.ensures, c.columns-2.ensures, count))
    c.loop-id.invariant
