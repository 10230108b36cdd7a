use Rattle.std.proofs.Common.{◌≡◌, ◌<◌, ℕ, List, [], length, take, drop, get_or, ap, ◌∙◌, arith}
use Rattle.std.proofs.lemmas.List.{get_or_default}
use Rattle.nt_view.specs.declared.page_place.PagePlace.{PagePlace}
use Rattle.nt_view.specs.declared.place.PageAt.{PageAt}
use Rattle.nt_view.specs.Loaded.{Loaded}
use Rattle.nt_view.proofs.Assembled.{page-lies, page-stored}
use Rattle.nt_view.proofs.cluster.ClusterBytes.page_bytes.Goals as goal

pub part_of-requires : goal.part_of-requires
part_of-requires c =
    let p = c.index-2.result.now in
    let e = c.index.result.now in
    let lt : c.args.i < length c.self.inside.pages.items = omega (arith, c.requires, ap (λ (l : Loaded). length l.pages) c.self.view_is) in
    omega (
      arith,
      page-lies c.self.inside.store.items c.self.inside.pages.items c.self.inside.table.places.items c.args.i p e c.self.invariant.at
          c.self.invariant.len lt,
      ap (λ (x : PagePlace). x.size) c.index-2.ensures,
      ap (λ (x : PageAt). x.at) c.index.ensures,
      ap (λ (l : List ℕ). length l) c.deref.ensures.value,
    )

pub returns : goal.returns
returns c d =
    let p = c.index-2.result.now in
    let e = c.index.result.now in
    let ps = c.self.inside.pages.items in
    let store = c.self.inside.store.items in
    let places = c.self.inside.table.places.items in
    let lt : c.args.i < length ps = omega (arith, c.requires, ap (λ (l : Loaded). length l.pages) c.self.view_is) in
    let size : p.size ≡ (get_or ps c.args.i d).size =
    ap (λ (x : PagePlace). x.size) (c.index-2.ensures ∙ get_or_default ps c.args.i p d lt) in
    let at : e.at ≡ (get_or places c.args.i e).at = ap (λ (x : PageAt). x.at) c.index.ensures in
    c.part_of.ensures ∙ ap (λ (l : List ℕ). take p.size (drop e.at l)) c.deref.ensures.value
    ∙ ap (λ (n : ℕ). take n (drop e.at store)) size
    ∙ ap (λ (n : ℕ). take (get_or ps c.args.i d).size (drop n store)) at
    ∙ page-stored store ps places c.args.i d e c.self.invariant.at lt
    ∙ ap (λ (l : Loaded). take (get_or l.pages c.args.i d).size (get_or l.stored c.args.i [])) c.self.view_is
