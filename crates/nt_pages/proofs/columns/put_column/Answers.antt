use Rattle.std.proofs.Common.{◌≡◌, ◌∷◌, ◌++◌, ◌+◌, ◌<◌, ◌∙◌, [], List, drop, get_or, length, ap, arith}
use Rattle.nt_book.specs.declared.meta.PageMeta.{PageMeta}
use Rattle.std.proofs.lemmas.List.{drop_more, length-append}
use Rattle.nt_column.specs.Elements.{Element}
use Rattle.nt_lists.specs.Chunks.{chunks}
use Rattle.nt_pages.specs.Image.{stored_page}
use Rattle.nt_pages.proofs.Pages.{bytes-next, place-next, metas-next}
use Rattle.nt_pages.specs.Written.{written_bytes}
use Rattle.nt_pages.proofs.columns.put_column.Goals as goal

pub loop-i-preserved : goal.loop-i-preserved
loop-i-preserved c =
    let groups : List (List Element) = chunks c.args.page c.args.buffer.now.column.elements in
    let within : c.loop-i.i < length groups = omega arith in
    let next : drop c.loop-i.i groups ≡ get_or groups c.loop-i.i [] ∷ drop (c.loop-i.i + 1) groups =
    drop_more groups c.loop-i.i [] within in
    let more = c.in_ok-put_page.ensures.image in
    let told = c.in_ok-push.ensures.items ∙ ap (λ (m : PageMeta). c.loop-i.metas.items ++ m ∷ []) c.in_ok-put_page.ensures.meta in
    let grown : length (written_bytes c.put_page.new.image) ≡ length (written_bytes c.loop-i.image) + length
    (stored_page c.args.buffer.now.column.kind (get_or groups c.loop-i.i [])) =
    ap length more
    ∙ length-append (written_bytes c.loop-i.image) (stored_page c.args.buffer.now.column.kind (get_or groups c.loop-i.i [])) in
    record {
      image = bytes-next (stored_page c.args.buffer.now.column.kind) _ _ _ _ _ _ next more c.loop-i.invariant.image;
      metas = metas-next c.args.buffer.now.column.kind _ _ _ _ _ _ _ _ next told
          (place-next _ _ _ c.loop-i.invariant.room more) c.loop-i.invariant.metas;
      room = omega arith;
    }
