use Rattle.std.proofs.Common.{rules, ◌≡◌, List, length, map, vec_len, ap}
use Rattle.std.proofs.lemmas.List.{length-map}
use Rattle.nt_types.specs.ShapeData.{MemberData}
use Rattle.nt_types.specs.Views.{member_view}
use Rattle.nt_grammar.specs.Table.{Table, table_of}
use Rattle.nt_grammar.specs.Added.{MarkedData, added_rows}
use Rattle.nt_schema.specs.Describing.{mark_view}
use Rattle.nt_schema.proofs.Extending.{extended_table}
use Rattle.nt_schema.proofs.schema.Schema.add.Goals as goal

pub of_rows-requires : goal.of_rows-requires
of_rows-requires c =
    let t : Table = c.args.self.now in
    let field : MemberData = member_view c.args.field.now in
    let marks : List MarkedData = map mark_view c.in_ok-nodes.nodes.items in
    let more = added_rows c.args.plain c.args.entries (length t.fields) marks in
    let new : Table = table_of c.push_rows.new.fields.items c.push_rows.new.columns.items c.self.inside.header_fields
    c.self.inside.header_columns in
    let fields : vec_len c.take_rows-fields.result.0 ≡ length t.fields = search (rules, c.take_rows-fields.ensures.fields) in
    let first : c.len.result ≡ length t.fields = search (rules, c.len.ensures, c.self.view_is) in
    extended_table t new field marks more c.take_rows-fields.ensures.table c.requires.few c.requires.rules
    (rw (first, c.from_ref.ensures.value) at c.in_ok-nodes.ensures.order)
    (search (rules, c.in_ok-nodes.ensures.few, first, length-map))
    (rw (c.take_rows-fields.ensures.fields, c.deref.ensures.value) at c.in_ok-push_rows.ensures.fields)
    (rw (c.take_rows-fields.ensures.columns, fields, c.deref.ensures.value) at c.in_ok-push_rows.ensures.columns)
    (search (rules, c.in_ok-push_rows.ensures.few_columns, c.take_rows-fields.ensures.columns, c.deref.ensures.value, length-map))
    (ap (λ (u : Table). u.header_fields) c.self.view_is) (ap (λ (u : Table). u.header_columns) c.self.view_is)
