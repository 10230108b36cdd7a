use Rattle.std.proofs.Common.{List, Ok, ◌∙◌, sym, ap, refl}
use Rattle.nt_encode.specs.Elements.{Element}
use Rattle.nt_column.specs.Column.{Column, zeroed, columns_of}
use Rattle.nt_reader.proofs.Chains.{reads-as}
use Rattle.nt_decoded.proofs.Changes.{next-elements, next-empty, next-kind, zeroed-elements, changed-changes, row-there, inside}
use Rattle.nt_decoded.proofs.KeptTypes.{changed-keeps}
use Rattle.nt_decoded.proofs.ColumnSteps.{closed-read, zeros-read, paged-read, untyped-read}
use Rattle.nt_decoded.proofs.columns.read_column.Goals as goal

pub returns-then-not-known-clause-read : goal.returns-then-not-known-clause-read
returns-then-not-known-clause-read g c row there told is =
    closed-read told c.args.cluster.now.number c.args.cluster.now.list.now c.args.schema.now c.args.id row c.known_column-known.result
    (c.known_column-known.ensures row there) c.if-not-known.true
    ∙ ap (λ (l : List Element). Ok l) (sym (next-elements c.args.schema.now.columns (columns_of c.args.columns.now) c.args.id row
    c.requires.1.before there c.requires.1.there))

pub zeros-requires-clause-empty : goal.zeros-requires-clause-empty
zeros-requires-clause-empty g c =
    next-elements c.args.schema.now.columns (columns_of c.args.columns.now) c.args.id _ c.requires.1.before
    (row-there c.args.schema.now.columns c.args.id c.requires.1.there) c.requires.1.there

pub returns-then-begins_behind-clause-read : goal.returns-then-begins_behind-clause-read
returns-then-begins_behind-clause-read g c row there told is =
    zeros-read told c.args.cluster.now.number c.args.cluster.now.list.now c.args.schema.now c.args.id row c.known_column-known.result
    (c.known_column-known.ensures row there) c.if-not-known.false
    (sym c.begins_behind.ensures ∙ c.if-begins_behind.true)
    ∙ ap (λ (l : List Element). Ok l) (sym (zeroed-elements c.args.id c.args.cluster.now.list.now.entries (columns_of c.args.columns.now) _
    (inside c.args.schema.now.columns (columns_of c.args.columns.now) c.args.id c.requires.1.before.all c.requires.1.there)
    c.zeros.ensures))

pub returns-then-begins_behind-clause-others : goal.returns-then-begins_behind-clause-others
returns-then-begins_behind-clause-others g c =
    let zeros = λ (x : Column). zeroed x.kind c.args.cluster.now.list.now.entries in
    record {
      one = changed-changes zeros c.args.id (columns_of c.args.columns.now) _ c.zeros.ensures;
      types = changed-keeps zeros c.args.id (columns_of c.args.columns.now) _ (λ x. refl) c.zeros.ensures;
    }

pub returns-then-not-known-clause-others : goal.returns-then-not-known-clause-others
returns-then-not-known-clause-others g c = record { one = record { all = refl; before = refl; behind = refl }; types = refl }

pub returns-in-None-clause-others : goal.returns-in-None-clause-others
returns-in-None-clause-others g c = record { one = record { all = refl; before = refl; behind = refl }; types = refl }

pub fill-requires : goal.fill-requires
fill-requires g c = (
  c.requires.0,
  record {
    there = inside c.args.schema.now.columns (columns_of c.args.columns.now) c.args.id c.requires.1.before.all c.requires.1.there;
    none = next-kind c.args.schema.now.columns (columns_of c.args.columns.now) c.args.id _ c.requires.1.before
        (row-there c.args.schema.now.columns c.args.id c.requires.1.there) c.requires.1.there;
  },
)

pub returns-in-Some-clause-read : goal.returns-in-Some-clause-read
returns-in-Some-clause-read g c row there told is =
    reads-as _ c.fill.result _ _
    (paged-read told c.args.cluster.now.number c.args.cluster.now.list.now c.args.schema.now c.args.id row c.column.result.now
    c.known_column-known.result
    c.in-Some.field-0 c.kind_of_row.result (columns_of c.args.columns.now)
    c.pages_listed.result.now (c.known_column-known.ensures row there) c.if-not-known.false (sym c.begins_behind.ensures
    ∙ c.if-begins_behind.false) there c.column.ensures c.in-Some.is c.kind_of_row.ensures
    (next-empty c.args.schema.now.columns (columns_of c.args.columns.now) c.args.id row c.requires.1.before there
    c.requires.1.there) c.pages_listed.ensures)
    (c.fill.ensures.read told is)

pub returns-in-None-clause-read : goal.returns-in-None-clause-read
returns-in-None-clause-read g c row there told is =
    untyped-read told c.args.cluster.now.number c.args.cluster.now.list.now c.args.schema.now c.args.id row c.column.result.now
    c.known_column-known.result
    c.kind_of_row.result (c.known_column-known.ensures row there)
    c.if-not-known.false (sym c.begins_behind.ensures ∙ c.if-begins_behind.false) there c.column.ensures c.in-None.is
    c.kind_of_row.ensures
    ∙ ap (λ (l : List Element). Ok l) (sym (next-elements c.args.schema.now.columns (columns_of c.args.columns.now) c.args.id row
    c.requires.1.before there c.requires.1.there))
