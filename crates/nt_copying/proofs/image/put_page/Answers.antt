use Rattle.std.proofs.Common.{◌≡◌, ◌∙◌, List, ℕ, length, ap, sym, subst, arith}
use Rattle.std.proofs.lemmas.Option.{get_or_from_slice_get}
use Rattle.nt_encode.specs.Pages.{page_size}
use Rattle.nt_view.specs.declared.page_place.PagePlace.{PagePlace}
use Rattle.nt_view.specs.Loads.{loaded_len}
use Rattle.nt_copied.specs.Stored.{with_sum, IsSoundPage}
use Rattle.nt_copying.specs.Copied.{copied_page, loaded_page, HasItsSum, AppendsWhere}
use Rattle.nt_copying.proofs.CopiedPages.{page-is, page-sound, meta-is}
use Rattle.nt_copying.proofs.image.put_page.Goals as goal

pub returns-clause-bytes : goal.returns-clause-bytes
returns-clause-bytes c =
    let l = c.args.loaded.now in
    let e = page-is l c.args.i c.page-page.result c.page_stored.result.now c.page-page.ensures c.page_stored.ensures.bytes in
    subst (λ (x : PagePlace × List ℕ). AppendsWhere (HasItsSum x) (with_sum (copied_page x)) c.args.image.now.items
    c.put_stored.new.image.items) (sym e) c.in_ok-put_stored.ensures

pub returns-clause-meta : goal.returns-clause-meta
returns-clause-meta c =
    let l = c.args.loaded.now in
    let p = c.page-page.result in
    let e = page-is l c.args.i p c.page_stored.result.now c.page-page.ensures c.page_stored.ensures.bytes in
    let long : length c.page_stored.result.now ≡ loaded_len p =
    c.page_stored.ensures.len p ∙ ap loaded_len (get_or_from_slice_get l.pages c.args.i p p c.page-page.ensures) in
    meta-is (loaded_page l c.args.i) p c.page_stored.result.now c.len.result (length c.args.image.now.items) e long
    (omega (arith, c.len.ensures))

pub returns-clause-sound : goal.returns-clause-sound
returns-clause-sound c =
    let l = c.args.loaded.now in
    let p = c.page-page.result in
    let stored = c.page_stored.result.now in
    let e = page-is l c.args.i p stored c.page-page.ensures c.page_stored.ensures.bytes in
    let here = get_or_from_slice_get l.pages c.args.i p p c.page-page.ensures in
    let long : length stored ≡ loaded_len p = c.page_stored.ensures.len p ∙ ap loaded_len here in
    let sized : p.size ≡ page_size p.kind p.count =
    subst (λ (q : PagePlace). q.size ≡ page_size q.kind q.count) here
    (c.requires.there.copyable.loadable.sized c.args.i p c.requires.there.there) in
    subst (λ (x : PagePlace × List ℕ). IsSoundPage (copied_page x)) (sym e)
    (page-sound p stored sized long (omega (arith, c.if-page-ge-TOO_MANY.false)))
