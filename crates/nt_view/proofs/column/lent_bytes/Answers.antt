use Rattle.std.proofs.Common.{◌≤◌, ◌+◌, refl, inr, arith, get_or}
use Rattle.std.proofs.lemmas.Bool.{false≢true}
use Rattle.std.proofs.lemmas.List.{get_or_default}
use Rattle.nt_encode.specs.Pages.{page_size}
use Rattle.nt_view.specs.declared.place.PageAt.{PageAt}
use Rattle.nt_view.proofs.Places.{only-in}
use Rattle.nt_view.proofs.Elements.{bytes-in, part-fits}
use Rattle.nt_view.proofs.column.lent_bytes.Goals as goal

pub returns-then-to-page-clause-exact : goal.returns-then-to-page-clause-exact
returns-then-to-page-clause-exact c =
    let e : PageAt = record { first = 0; count = 0; at = 0 } in (
      λ is. absurd (false≢true is),
      λ l. absurd (only-in c.args.pages.now c.page_with.result c.args.from c.args.to
          e c.requires.pages.follow c.page_with.ensures (omega (arith, c.if-from-to.false, c.requires.part.order))
          (omega (arith, c.if-to-page.true, c.from.ensures)) l),
    )

pub returns-clause-bytes : goal.returns-clause-bytes
returns-clause-bytes c =
    let e : PageAt = record { first = 0; count = 0; at = 0 } in
    let p : PageAt = get_or c.args.pages.now c.page_with.result e in
    let h = c.page_with.ensures in
    rw c.page_bytes-bytes.ensures (bytes-in c.args.kind c.args.store.now c.args.pages.now c.page_with.result c.args.from c.args.to e
    c.requires.kind c.requires.pages h c.requires.part.order (omega (arith, c.if-to-page.false, c.from.ensures, h.from e))
    (part-fits c.args.store.now p.at (page_size c.args.kind p.count) c.type_inv.store))

pub returns-clause-exact : goal.returns-clause-exact
returns-clause-exact c =
    let e : PageAt = record { first = 0; count = 0; at = 0 } in
    let j = c.page_with.result in
    let p : PageAt = get_or c.args.pages.now j e in
    let h = c.page_with.ensures in
    let end : c.args.to ≤ p.first + p.count = omega (arith, c.if-to-page.false, c.from.ensures, h.from e) in
    (λ is. inr (p, (j, h.there, get_or_default c.args.pages.now j p e h.there), h.from e, end), λ l. refl)
