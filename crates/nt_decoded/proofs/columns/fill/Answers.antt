use Rattle.std.proofs.Common.{◌≡◌, ◌∙◌, subst, sym, arith}
use Rattle.std.proofs.lemmas.List.{length-map}
use Rattle.std.proofs.lemmas.Result.{on_ok_weaker}
use Rattle.nt_decoded.specs.Pages.{KeepsKind}
use Rattle.nt_column.specs.Column.{Column, Buffer, empty}
use Rattle.nt_decoded.proofs.Changes.{set-elements, set-changes, buffer-column}
use Rattle.nt_decoded.proofs.KeptTypes.{set-types}
use Rattle.nt_decoded.proofs.ColumnSteps.{filled-reads}
use Rattle.nt_decoded.proofs.columns.fill.Goals as goal

pub push_pages-requires : goal.push_pages-requires
push_pages-requires g c = record {
  seen = c.requires.0;
  none = subst (λ (x : Column). x ≡ empty x.kind)
      (buffer-column c.args.columns.now c.args.of.now.id c.buffer.result.now c.buffer.ensures.value) c.requires.1.none;
}

pub returns-clause-read : goal.returns-clause-read
returns-clause-read g c told is =
    let seen = buffer-column c.args.columns.now c.args.of.now.id c.buffer.result.now c.buffer.ensures.value in
    filled-reads told c.args.of.now.cluster c.args.of.now.id _ c.args.pages.now c.buffer.result.now.column c.push_pages.new.column.column _
    c.push_pages.result (sym seen ∙ c.requires.1.none)
    (set-elements c.args.columns.now c.args.of.now.id c.push_pages.new.column
    (omega (arith, c.requires.1.there, length-map c.args.columns.now (λ (b : Buffer). b.column)))) (c.push_pages.ensures.read told is)

pub returns-clause-others : goal.returns-clause-others
returns-clause-others g c = record {
  one = set-changes c.args.columns.now c.args.of.now.id c.push_pages.new.column;
  types = on_ok_weaker c.push_pages.result
      (λ (k : KeepsKind c.buffer.result.now.column c.push_pages.new.column.column).
      set-types c.args.columns.now c.args.of.now.id c.push_pages.new.column c.buffer.result.now c.buffer.ensures.value k.kind)
      c.push_pages.ensures.grown;
}
