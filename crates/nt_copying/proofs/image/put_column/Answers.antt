use Rattle.std.proofs.Common.{◌≡◌, ◌∙◌, ◌++◌, ◌+◌, ◌-◌, List, ℕ, length, ap, sym, subst, arith}
use Rattle.nt_book.specs.declared.meta.PageMeta.{PageMeta}
use Rattle.nt_view.specs.declared.page_place.PagePlace.{PagePlace}
use Rattle.nt_copied.specs.Stored.{with_sum, stored_page_metas}
use Rattle.nt_copying.specs.Copied.{copied_page, copied_pages, loaded_page, loaded_part, HasItsSum, AppendsWhere}
use Rattle.nt_copying.proofs.CopiedPages.{GoesOn, part-at, goes-empty, goes-more, metas-empty, metas-more, sound-empty, sound-more}
use Rattle.nt_copying.proofs.image.put_column.Goals.{then-page-ne0+in_ok-put_page+in_ok-push, else-page-ne0}
use Rattle.nt_copying.proofs.image.put_column.Goals as goal

pub loop-i-preserved : goal.loop-i-preserved
loop-i-preserved c =
    let l = c.args.loaded.now in
    let i = c.loop-i.i in
    let to = c.args.to in
    let v = c.loop-i.invariant in
    let start = c.args.image.now.items in
    let now : List ℕ = c.loop-i.image.items in
    let new : List ℕ = c.if-page-ne0.image.items in
    let p = c.page.result in
    let at = part-at l i to p c.requires.span.copyable.stored c.page.ensures (omega (arith, c.loop-i-test.true))
    c.requires.span.span.within in
    let count : (loaded_page l i).0.count ≡ p.count = ap (λ (q : PagePlace). q.count) at.1 in
    let all = loaded_part l c.args.from to in
    let left = loaded_part l i to in
    let rest = loaded_part l (i + 1) to in
    let e = loaded_page l i in
    let metas : List PageMeta = c.loop-i.metas.items in
    let after : List PageMeta = c.if-page-ne0.metas.items in
    let whole = stored_page_metas (length start - 42) (copied_pages all) in
    record {
      image = elim c.if-page-ne0.branch [
        | then-page-ne0+in_ok-put_page+in_ok-push w ↦
            goes-more all left rest e start now at.0 v.image (λ none. omega (arith, w.if-page-ne0.true, count, none)) new
            (subst (λ (b : List ℕ). AppendsWhere (HasItsSum e) (with_sum (copied_page e)) now b) (sym (ap (λ o. o.items) w.image-is))
            w.in_ok-put_page.ensures.bytes)
        | else-page-ne0 w ↦
            subst (λ (b : List ℕ). GoesOn all rest start b) (sym (ap (λ o. o.items) w.image-is))
            (goes-empty all left rest e start now at.0 v.image (omega (arith, w.if-page-ne0.false, count)))
      ];
      metas = elim c.if-page-ne0.branch [
        | then-page-ne0+in_ok-put_page+in_ok-push w ↦
            let grown : length new ≡ length now + length (with_sum (copied_page e)) =
            ap (λ o. length o.items) w.image-is ∙ w.in_ok-put_page.ensures.bytes.len in
            metas-more left rest e (length now - 42) (length new - 42) metas after whole _ at.0
            (λ none. omega (arith, w.if-page-ne0.true, count, none)) v.metas w.in_ok-put_page.ensures.meta (omega (arith, grown, v.room))
            (ap (λ o. o.items) w.metas-is ∙ w.in_ok-push.ensures.items)
        | else-page-ne0 w ↦
            ap (λ (n : ℕ). after ++ stored_page_metas (n - 42) (copied_pages rest)) (ap (λ o. length o.items) w.image-is)
            ∙ ap (λ (m : List PageMeta). m ++ stored_page_metas (length now - 42) (copied_pages rest)) (ap (λ o. o.items) w.metas-is)
            ∙ metas-empty left rest e (length now - 42) metas whole at.0 (omega (arith, w.if-page-ne0.false, count)) v.metas
      ];
      sound = elim c.if-page-ne0.branch [
        | then-page-ne0+in_ok-put_page+in_ok-push w ↦ λ sound.
            v.sound (sound-more left rest e at.0 (λ none. omega (arith, w.if-page-ne0.true, count, none)) w.in_ok-put_page.ensures.sound
            sound)
        | else-page-ne0 w ↦ λ sound. v.sound (sound-empty left rest e at.0 (omega (arith, w.if-page-ne0.false, count)) sound)
      ];
      room = elim c.if-page-ne0.branch [
        | then-page-ne0+in_ok-put_page+in_ok-push w ↦
            let grown : length new ≡ length now + length (with_sum (copied_page e)) =
            ap (λ o. length o.items) w.image-is ∙ w.in_ok-put_page.ensures.bytes.len in
            omega (arith, grown, v.room)
        | else-page-ne0 w ↦ omega (arith, v.room, ap (λ o. length o.items) w.image-is)
      ];
    }
