use Rattle.std.proofs.Common.{List, map, subst}
use Rattle.nt_types.specs.ShapeData.{MemberData}
use Rattle.nt_types.specs.Views.{members_view}
use Rattle.nt_grammar.specs.Added.{MarkedData, AreMarked}
use Rattle.nt_schema.specs.Describing.{mark_view}
use Rattle.nt_schema.proofs.Extending.{described_rows}
use Rattle.nt_schema.proofs.describing.rows_of.Goals as goal

pub returns-clause-rows : goal.returns-clause-rows
returns-clause-rows c =
    let marks : List MarkedData = map mark_view c.in_ok-nodes.nodes.items in
    let order = subst (λ (ps : List MemberData). AreMarked 0 ps marks) c.as_slice.ensures c.in_ok-nodes.ensures.order in
    described_rows (members_view c.args.fields.now) c.args.plain marks _ _ order
    (rw (c.new-field_rows.ensures.items, c.deref.ensures.value) at c.in_ok-push_rows.ensures.fields)
    (rw (c.new-columns.ensures.items, c.new-field_rows.ensures.len, c.deref.ensures.value) at c.in_ok-push_rows.ensures.columns)
