use Rattle.std.proofs.Common.{◌≡◌, List, [], ◌∷◌, length, get_or, refl, sym, ap, ◌∙◌, arith}
use Rattle.std.specs.List.{slice_range}
use Rattle.std.proofs.lemmas.List.{append-nil}
use Rattle.std.proofs.lemmas.Bool.{false≢true}
use Rattle.nt_view.specs.declared.place.PageAt.{PageAt}
use Rattle.nt_view.specs.declared.table.Held.TheVariants.{Pages, Sums}
use Rattle.nt_view.specs.Pages.{elements_of_pages}
use Rattle.nt_view.specs.Table.{laid_from}
use Rattle.nt_column.specs.Column.{empty, with_more}
use Rattle.nt_view.proofs.Laid.{no_page, slice-behind, are-laid, pages-lie, sums-are}
use Rattle.nt_view.proofs.table.add_column.Goals as goal

pub returns-then-not-is_split_index-clause-gains : goal.returns-then-not-is_split_index-clause-gains
returns-then-not-is_split_index-clause-gains c =
    let kind = (get_or c.args.pages.now 0 no_page).kind in
    record {
      places = c.in_ok-count.ensures.places;
      sums = [];
      added = sym (append-nil c.args.table.now.sums.items);
      held = Pages kind c.len-begin.result c.len-end.result c.in_ok-count.count;
      columns = c.in_ok-push.ensures.items;
      is =
          pages-lie c.args.store.now c.args.pages.now c.args.at kind c.args.table.now.places.items c.lay_pages.new.places.items
          c.len-begin.result
          c.len-end.result c.in_ok-count.count c.requires refl c.in_ok-count.ensures.places
          (omega (arith, c.len-begin.ensures, c.args.table.now.places.ok.0)) (omega (arith, c.len-end.ensures, c.lay_pages.new.places.ok.0))
          c.in_ok-count.ensures.count.0
          (λ split. absurd (false≢true (sym c.if-not-is_split_index.true ∙ c.is_split_index.ensures.1 split)));
      none = refl;
    }

pub new_sums-requires : goal.new_sums-requires
new_sums-requires c =
    let laid : List PageAt = laid_from 0 c.args.at c.args.pages.now in
    let part : slice_range c.deref.result.now c.len-begin.result c.len-end.result ≡ laid =
    slice-behind c.args.table.now.places.items laid c.deref.result.now c.len-begin.result c.len-end.result
    (c.deref.ensures.value ∙ c.in_ok-count.ensures.places)
    (omega (arith, c.len-begin.ensures, c.args.table.now.places.ok.0))
    (omega (arith, c.len-end.ensures, c.lay_pages.new.places.ok.0, ap (λ (l : List PageAt). length l) c.deref.ensures.value)) in
    rw part (are-laid c.args.store.now c.args.pages.now c.args.at (get_or c.args.pages.now 0 no_page).kind c.requires refl)

pub returns-clause-gains : goal.returns-clause-gains
returns-clause-gains c =
    let kind = (get_or c.args.pages.now 0 no_page).kind in
    let gs = c.in_ok-place.ensures.gains in
    let laid : List PageAt = laid_from 0 c.args.at c.args.pages.now in
    let part : slice_range c.deref.result.now c.len-begin.result c.len-end.result ≡ laid =
    slice-behind c.args.table.now.places.items laid c.deref.result.now c.len-begin.result c.len-end.result
    (c.deref.ensures.value ∙ c.in_ok-count.ensures.places)
    (omega (arith, c.len-begin.ensures, c.args.table.now.places.ok.0))
    (omega (arith, c.len-end.ensures, c.lay_pages.new.places.ok.0, ap (λ (l : List PageAt). length l) c.deref.ensures.value)) in
    record {
      places = c.in_ok-count.ensures.places;
      sums = gs.buffer ∷ [];
      added = gs.more;
      held = Sums c.in_ok-place.place;
      columns = c.in_ok-push-2.ensures.items;
      is =
          sums-are c.args.store.now c.args.pages.now c.args.at kind c.args.table.now.sums.items c.new_sums.new.sums.items gs.buffer
          c.in_ok-place.place c.requires refl gs.more c.in_ok-place.ensures.place
          (gs.is ∙ ap (λ (l : List PageAt). with_more (empty kind) (elements_of_pages kind c.args.store.now l)) part)
          (c.is_split_index.ensures.0 c.if-not-is_split_index.false);
      none = refl;
    }
