use Rattle.std.proofs.Common.{◌≡◌, ◌∙◌, sym, length, refl, arith}
use Rattle.std.proofs.lemmas.Grind.{common_steps}
use Rattle.nt_encode.specs.Pages.{page_values}
use Rattle.nt_column.proofs.Growing.{values-bytes}
use Rattle.nt_column.proofs.filling.fill_8.Goals as goal

pub returns-clause-page : goal.returns-clause-page
returns-clause-page c =
    let size = rw c.requires.page.0 at c.requires.page.1 in
    let count : length c.args.bytes.now ≡ c.args.count = omega (arith, size) in
    let values = page_values c.args.kind c.args.count c.args.bytes.now in
    let written : c.copy_from_slice.new.self ≡ values =
    c.copy_from_slice.ensures.after
    ∙ sym (values-bytes c.args.kind c.args.count c.args.bytes.now c.requires.page.0 count c.type_inv.bytes) in
    let len : length c.copy_from_slice.new.self ≡ c.args.count = omega (arith, count, c.copy_from_slice.ensures.len) in (
      refl,
      record {
        items = grind (arith, common_steps);
        reached = grind (arith, common_steps);
        few = grind (arith, common_steps);
        within = omega arith;
      },
    )
