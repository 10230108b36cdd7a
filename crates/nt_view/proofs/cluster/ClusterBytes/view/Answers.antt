use Rattle.std.proofs.Common.{◌≡◌, ◌<◌, List, length, ap, arith, refl}
use Rattle.nt_view.specs.declared.page_place.PagePlace.{PagePlace}
use Rattle.nt_view.specs.Loaded.{Loaded}
use Rattle.nt_view.specs.Views.{counted_of}
use Rattle.nt_view.proofs.Viewed.{page-sized, page-single, sums-counted, sums-page}
use Rattle.nt_view.proofs.cluster.ClusterBytes.view.Goals as goal

pub invariant_of-t-15 : goal.invariant_of-t-15
invariant_of-t-15 c =
    let v = c.self.inside in
    let p = c.index-place.result.now in
    let lt : c.args.page < length v.pages.items = omega (arith, c.requires, ap (λ (l : Loaded). length l.pages) c.self.view_is) in (
      page-sized c.args.self.now v.store.items v.pages.items v.zeros.items v.table c.args.page p c.page_bytes-bytes.result.now
          c.self.invariant c.self.view_is lt c.index-place.ensures (c.page_bytes-bytes.ensures p),
      tt,
      λ none. page-single v.store.items v.pages.items v.zeros.items v.table c.args.page p c.self.invariant lt
          c.index-place.ensures (c.in-None.ensures.none refl),
    )

pub count_before-requires-clause-few : goal.count_before-requires-clause-few
count_before-requires-clause-few c =
    let v = c.self.inside in
    let p = c.index-place.result.now in
    let all : counted_of p.column v.pages.items ≡ length c.in-Some.sums.now.column.elements =
    sums-counted v.store.items v.pages.items v.zeros.items v.table p.column c.in-Some.sums.now c.self.invariant c.in-Some.ensures.some in
    omega (
      arith,
      ap (λ (ps : List PagePlace). counted_of p.column ps) c.deref-in-Some.ensures.value,
      all,
      c.len-all.ensures,
      c.len-all.type_inv,
    )

pub invariant_of-result : goal.invariant_of-result
invariant_of-result c =
    let v = c.self.inside in
    let p = c.index-place.result.now in
    let lt : c.args.page < length v.pages.items = omega (arith, c.requires, ap (λ (l : Loaded). length l.pages) c.self.view_is) in (
      page-sized c.args.self.now v.store.items v.pages.items v.zeros.items v.table c.args.page p c.page_bytes-bytes.result.now
          c.self.invariant c.self.view_is lt c.index-place.ensures (c.page_bytes-bytes.ensures p),
      sums-page c.args.self.now v.store.items v.pages.items v.zeros.items v.table c.args.page c.count_before.result p
          c.in-Some.sums.now c.page_bytes-bytes.result.now c.self.invariant c.self.view_is lt c.index-place.ensures
          c.in-Some.ensures.some (rw c.deref-in-Some.ensures.value at c.count_before.ensures) (c.page_bytes-bytes.ensures p),
      λ none. cc none,
    )
