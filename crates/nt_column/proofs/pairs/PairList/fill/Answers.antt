use Rattle.std.proofs.Common.{◌≡◌, ◌∙◌, ◌++◌, List, ap, length, refl, arith}
use Rattle.std.specs.List.{zip}
use Rattle.std.proofs.lemmas.List.{length-take-le}
use Rattle.nt_types.specs.declared.column_type.ColumnType.TheVariants.{Switch}
use Rattle.nt_column.specs.Elements.{Element, page_elements}
use Rattle.nt_column.specs.Kept.{Kept}
use Rattle.nt_column.proofs.Zips.{zip-append, length-seen}
use Rattle.nt_column.proofs.Filled.{pairs-filled}
use Rattle.nt_column.proofs.pairs.PairList.fill.Goals as goal

pub overflow_add-result : goal.overflow_add-result
overflow_add-result c =
    let seen = length-seen _ _ _ (ap (λ (k : Kept). k.elements) c.self.view_is) (omega arith) in
    let cut = ap length (c.reserve.ensures.elements ∙ c.cut.ensures.elements) in
    let first = length-take-le c.args.filled c.args.self.now.elements c.requires.within in
    omega (arith, seen, cut, first, c.push_indices.ensures.room.longer, c.push_indices.new.list.small)

pub returns-clause-page : goal.returns-clause-page
returns-clause-page c =
    let page : List Element = page_elements Switch c.args.count c.args.bytes.now in
    let grown : zip c.push_indices.new.list.items c.push_tags.new.list.items ≡ c.reserve.new.self.elements ++ page =
    rw (c.push_indices.ensures.items, c.push_tags.ensures.items)
    (zip-append c.self.inside.indices.items _ c.self.inside.tags.items _ (omega arith)
    ∙ ap (λ (k : Kept). k.elements ++ page) c.self.view_is) in
    let is = grown ∙ ap (λ (es : List Element). es ++ page) (c.reserve.ensures.elements ∙ c.cut.ensures.elements) in
    let spare = ap (λ (k : Kept). k.spare) c.self.view_is in (
      refl,
      pairs-filled c.args.filled c.args.count c.args.bytes.now c.args.self.now.elements _ c.args.self.now.spare _ c.requires.within is
          (omega (arith, spare)),
    )
