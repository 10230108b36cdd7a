use Rattle.std.proofs.Common.{◌≡◌, ◌+◌, ◌≤◌, ℕ, List, length, ap, sym, ◌∙◌, arith}
use Rattle.std.specs.Option.{is_some}
use Rattle.nt_types.specs.ShapeData.{MemberData}
use Rattle.nt_types.specs.Views.{member_view, shape_view}
use Rattle.nt_types.specs.Schema.{field_count}
use Rattle.nt_types.proofs.ShapeViews.{member_view-name, member_view-of}
use Rattle.nt_grammar.specs.Table.{Table}
use Rattle.nt_grammar.proofs.AddedRows.{Added-few}
use Rattle.nt_schema.specs.ByName.{find_from}
use Rattle.nt_schema.proofs.Extending.{not_refused}
use Rattle.nt_schema.proofs.schema.Schema.extend.Goals as goal

pub returns : goal.returns
returns c =
    let t : Table = c.args.self.now in
    let field : MemberData = member_view c.args.field.now in
    let count : field_count field.of ≡ field_count (shape_view c.args.field.now.of) =
    ap (λ k. field_count k) (member_view-of c.args.field.now) in
    let room : length t.fields + field_count field.of ≤ 4096 =
    omega (arith, c.if-count_fields-gt-MAX_FIELDS.false, c.count_fields.ensures, c.fields.ensures, count) in
    let name : c.as_slice.result.now ≡ field.name = c.as_slice.ensures ∙ sym (member_view-name c.args.field.now) in
    let named : c.is_some.result ≡ is_some (find_from 0 t.fields field.name) =
    c.is_some.ensures ∙ (ap (λ o. is_some o) c.find.ensures ∙ ap (λ (n : List ℕ). is_some (find_from 0 t.fields n)) name) in (
      not_refused t field c.is_some.result named c.if-is_some.false room,
      c.in_ok-add.ensures.ok,
      Added-few t field c.args.plain c.args.entries _ c.requires.few room c.in_ok-add.ensures.ok,
    )
