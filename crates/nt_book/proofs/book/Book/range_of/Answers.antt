use Rattle.std.proofs.Common.{◌∙◌, cond, true, ap, sym, arith, length, Bool, ℕ}
use Rattle.std.specs.Prelude.{slice_index_or}
use Rattle.nt_book.specs.declared.row.PublishedRow.{PublishedRow}
use Rattle.nt_book.specs.Books.{BookData}
use Rattle.nt_book.specs.Keeping.{listed_rows}
use Rattle.nt_book.proofs.Clusters.{length-listed}
use Rattle.nt_book.proofs.Telling.{length-clusters-book, range_of-book}
use Rattle.nt_book.proofs.book.Book.range_of.Goals as goal

pub index-requires : goal.index-requires
index-requires c =
    let h = c.self.invariant.0 in
    let told = ap (λ (b : BookData). b.history) c.self.view_is in
    let kept = c.self.invariant.5 in
    let stages = ap (λ (b : BookData). b.staged) c.self.view_is in
    omega (
      arith,
      c.requires,
      length-clusters-book _ _ _ h c.args.self.now told _ _ _ _ kept stages,
      ap (λ b. length (listed_rows b c.self.inside.order.items c.self.inside.rows.items)) c.if-self.true,
      length-listed true c.self.inside.order.items c.self.inside.rows.items,
      c.self.inside.order.ok,
    )

pub returns-then-self : goal.returns-then-self
returns-then-self c =
    let h = c.self.invariant.0 in
    let told = ap (λ (b : BookData). b.history) c.self.view_is in
    let kept = c.self.invariant.5 in
    let stages = ap (λ (b : BookData). b.staged) c.self.view_is in
    ap (λ (p : PublishedRow). p.range) c.index.ensures
    ∙ (ap (λ (b : Bool). cond {A = ℕ} b (slice_index_or c.self.inside.order.items c.args.cluster c.index.result.now).range c.args.cluster)
    (sym c.if-self.true)
    ∙ sym (range_of-book _ _ _ h c.args.self.now told _ _ _ _ kept stages c.args.cluster c.index.result.now c.requires))

pub returns-else-self : goal.returns-else-self
returns-else-self c =
    let h = c.self.invariant.0 in
    let told = ap (λ (b : BookData). b.history) c.self.view_is in
    let kept = c.self.invariant.5 in
    let stages = ap (λ (b : BookData). b.staged) c.self.view_is in
    let none : PublishedRow = record { range = 0; first = 0; offsets = 0 } in
    ap (λ (b : Bool). cond {A = ℕ} b (slice_index_or c.self.inside.order.items c.args.cluster none).range c.args.cluster)
    (sym c.if-self.false)
    ∙ sym (range_of-book _ _ _ h c.args.self.now told _ _ _ _ kept stages c.args.cluster none c.requires)
