use Rattle.std.proofs.Common.{◌∙◌, ap, sym, refl, arith}
use Rattle.std.proofs.lemmas.Result.{err_from_is_err_and}
use Rattle.nt_column.specs.Column.{Column}
use Rattle.nt_decoded.specs.Pages.{column_with_pages}
use Rattle.nt_listing.proofs.Chains.{fails-as}
use Rattle.nt_decoded.proofs.PageSteps.{pages-more, pages-fail}
use Rattle.nt_decoded.proofs.pages.push_pages.Goals as goal

pub loop-i-init : goal.loop-i-init
loop-i-init g c = record {
  same = refl;
  later = omega arith;
  window = c.requires.seen;
  grown = record {
    kind = ap (λ (d : Column). d.kind) c.begin-filled.ensures.pages;
    zeros = ap (λ (d : Column). d.zeros) (c.begin-filled.ensures.pages ∙ sym c.requires.none);
  };
  read = λ told is.
      ap (λ (d : Column). column_with_pages c.args.of.now.cluster c.args.of.now.id c.args.pages.now d told)
      (c.requires.none ∙ sym c.begin-filled.ensures.pages);
}

pub returns-in_err-push_page-clause-read : goal.returns-in_err-push_page-clause-read
returns-in_err-push_page-clause-read g c told is =
    let p = err_from_is_err_and c.from_residual.result c.from_residual.ensures.1 in
    rw (p.1, p.2)
    (fails-as (λ (d : Column). d) (λ (d : Column). d) _ _ _ (c.loop-i.invariant.read told is)
    (pages-fail told c.args.of.now.cluster c.args.of.now.id c.loop-i.i c.args.pages.now _ c.loop-i.filled _ (omega arith)
    (c.in_err-push_page.ensures.read told (c.loop-i.invariant.same ∙ is))))

pub loop-i-preserved : goal.loop-i-preserved
loop-i-preserved g c = record {
  same = c.in_ok-push_page.ensures.file.same ∙ c.loop-i.invariant.same;
  later = omega (arith, c.in_ok-push_page.ensures.file.later, c.loop-i.invariant.later);
  window = c.in_ok-push_page.ensures.window;
  grown = record {
    kind = c.in_ok-push_page.ensures.grown.kind ∙ c.loop-i.invariant.grown.kind;
    zeros = c.in_ok-push_page.ensures.grown.zeros ∙ c.loop-i.invariant.grown.zeros;
  };
  read = λ told is.
      c.loop-i.invariant.read told is
      ∙ pages-more told c.args.of.now.cluster c.args.of.now.id c.loop-i.i c.args.pages.now _ c.loop-i.filled _ (omega arith)
      (c.in_ok-push_page.ensures.read told (c.loop-i.invariant.same ∙ is));
}
