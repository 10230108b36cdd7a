use Rattle.std.proofs.Common.{List, length, refl, sym, ap, ◌∙◌, arith}
use Rattle.nt_view.specs.declared.page_place.PagePlace.{PagePlace}
use Rattle.nt_view.specs.declared.page_place.ZeroColumn.{ZeroColumn}
use Rattle.nt_view.specs.Loaded.{zeros_listed}
use Rattle.nt_view.specs.Stores.{lens_of}
use Rattle.nt_view.proofs.Assembled.{apart-held, all-held, all-at}
use Rattle.nt_view.proofs.cluster.assembled.Goals as goal

pub set_zeros-requires-clause-apart : goal.set_zeros-requires-clause-apart
set_zeros-requires-clause-apart c =
    apart-held c.deref.result.now c.args.pages.now c.args.zeros.now c.add_columns.new.table c.requires.listed c.in_ok-add_columns.ensures

pub invariant_of-result : goal.invariant_of-result
invariant_of-result c =
    let copy = c.in_ok-pages.ensures in
    let laid = c.in_ok-add_columns.ensures in
    record {
      held =
          all-held c.args.store.items c.args.pages.now c.in_ok-pages.pages.items c.add_columns.new.table c.set_zeros.new.columns.items
          (rw c.deref.ensures.value at laid) copy c.in_ok-set_zeros.ensures.pages;
      zero = λ k. ap (λ (zs : List ZeroColumn). zeros_listed 0 k zs) c.in_ok-zeros.ensures ∙ c.in_ok-set_zeros.ensures.zero k;
      at = all-at c.args.pages.now c.in_ok-pages.pages.items c.add_columns.new.table.places.items laid.at copy;
      len = c.requires.len.0 ∙ ap (λ (ps : List PagePlace). lens_of ps) (sym copy);
      few = omega (arith, c.requires.len.1, ap (λ (ps : List PagePlace). length ps) copy);
      sized = rw copy c.requires.listed.sized;
      order = rw copy c.requires.listed.order;
    }

pub returns : goal.returns
returns c = rw (c.in_ok-pages.ensures, c.in_ok-zeros.ensures) refl
