use Rattle.std.proofs.Common.{◌≡◌, ◌<◌, ℕ, List, [], length, take, drop, get_or, ap, sym, Some, ◌∙◌, arith}
use Rattle.std.specs.Prelude.{slice_get}
use Rattle.std.proofs.lemmas.List.{get_or_default, length-take-le, length-drop}
use Rattle.std.proofs.lemmas.Option.{slice_get-get_or}
use Rattle.nt_view.specs.declared.place.PageAt.{PageAt}
use Rattle.nt_view.specs.Loads.{loaded_len}
use Rattle.nt_view.specs.Loaded.{Loaded}
use Rattle.nt_view.specs.Stores.{cut_up}
use Rattle.nt_view.proofs.Columns.{length-cut}
use Rattle.nt_view.proofs.Assembled.{page-whole, page-kept}
use Rattle.nt_view.proofs.cluster.ClusterBytes.page_stored.Goals as goal

pub part_of-requires : goal.part_of-requires
part_of-requires c =
    let p = c.index-2.result.now in
    let e = c.index.result.now in
    let lt : c.args.i < length c.self.inside.pages.items = omega (arith, c.requires, ap (λ (l : Loaded). length l.pages) c.self.view_is) in
    omega (
      arith,
      page-whole c.self.inside.store.items c.self.inside.pages.items c.self.inside.table.places.items c.args.i p e c.self.invariant.at
          c.self.invariant.len lt,
      ap loaded_len c.index-2.ensures,
      c.stored_len-len.ensures.len,
      ap (λ (x : PageAt). x.at) c.index.ensures,
      ap (λ (l : List ℕ). length l) c.deref.ensures.value,
    )

pub returns-clause-bytes : goal.returns-clause-bytes
returns-clause-bytes c =
    let p = c.index-2.result.now in
    let e = c.index.result.now in
    let ps = c.self.inside.pages.items in
    let store = c.self.inside.store.items in
    let places = c.self.inside.table.places.items in
    let lt : c.args.i < length ps = omega (arith, c.requires, ap (λ (l : Loaded). length l.pages) c.self.view_is) in
    let at : e.at ≡ (get_or places c.args.i e).at = ap (λ (x : PageAt). x.at) c.index.ensures in
    let len : c.stored_len-len.result ≡ loaded_len (get_or ps c.args.i p) =
    c.stored_len-len.ensures.len ∙ ap loaded_len c.index-2.ensures in
    ap (λ (l : Loaded). slice_get l.stored c.args.i) (sym c.self.view_is)
    ∙ slice_get-get_or (cut_up ps store) c.args.i [] (omega (arith, lt, length-cut ps store))
    ∙ ap (λ (l : List ℕ). Some l) (sym (
    c.part_of.ensures ∙ ap (λ (l : List ℕ). take c.stored_len-len.result (drop e.at l)) c.deref.ensures.value
    ∙ ap (λ (n : ℕ). take n (drop e.at store)) len
    ∙ ap (λ (n : ℕ). take (loaded_len (get_or ps c.args.i p)) (drop n store)) at
    ∙ page-kept store ps places c.args.i p e c.self.invariant.at lt))

pub returns-clause-len : goal.returns-clause-len
returns-clause-len c d =
    let p = c.index-2.result.now in
    let e = c.index.result.now in
    let ps = c.self.inside.pages.items in
    let store = c.self.inside.store.items in
    let lt : c.args.i < length ps = omega (arith, c.requires, ap (λ (l : Loaded). length l.pages) c.self.view_is) in
    let len : c.stored_len-len.result ≡ loaded_len (get_or ps c.args.i p) =
    c.stored_len-len.ensures.len ∙ ap loaded_len c.index-2.ensures in
    let within = page-whole store ps c.self.inside.table.places.items c.args.i p e c.self.invariant.at c.self.invariant.len lt in
    let long : length (take c.stored_len-len.result (drop e.at store)) ≡ c.stored_len-len.result =
    length-take-le c.stored_len-len.result (drop e.at store)
    (omega (arith, within, len, length-drop e.at store, ap (λ (x : PageAt). x.at) c.index.ensures)) in
    ap (λ (l : List ℕ). length l)
    (c.part_of.ensures ∙ ap (λ (l : List ℕ). take c.stored_len-len.result (drop e.at l)) c.deref.ensures.value)
    ∙ long ∙ len
    ∙ ap loaded_len (get_or_default ps c.args.i p d lt)
    ∙ ap (λ (l : Loaded). loaded_len (get_or l.pages c.args.i d)) c.self.view_is
