use Rattle.std.proofs.Common.{refl, subst}
use Rattle.nt_types.specs.Views.{members_view}
use Rattle.nt_grammar.specs.Table.{Table}
use Rattle.nt_column.specs.Column.{columns_of}
use Rattle.nt_fill.proofs.Described.{described_known, described_some}
use Rattle.nt_fill.proofs.Emptied.{if_ok}
use Rattle.nt_seq.specs.Standing.{IsFitToBegin}
use Rattle.nt_seq.proofs.writer.columns_for.Goals as goal

pub empty_columns-requires : goal.empty_columns-requires
empty_columns-requires c = described_known _ c.in_ok-schema.schema (record {
  fields = members_view c.args.fields.now;
  plain = c.args.plain;
  rules = c.requires;
  rows = c.in_ok-schema.ensures.rows;
  count = refl;
})

pub returns : goal.returns
returns c =
    let fields = members_view c.args.fields.now in
    let schema = c.in_ok-schema.schema in
    let made = c.in_ok-schema.ensures in
    if_ok _ _ c.empty_columns.result (λ set gives t rows.
    subst (λ (u : Table). IsFitToBegin u (columns_of set)) (c.descriptions_are_one.ensures fields c.args.plain schema t made.rows rows)
    (record {
      few = made.few;
      whole = made.whole;
      some = described_some c.described_fields_are_open.ensures _ schema (record {
        fields = fields;
        plain = c.args.plain;
        rules = c.requires;
        rows = made.rows;
        count = refl;
      });
      gives = gives;
    })) c.empty_columns.ensures
