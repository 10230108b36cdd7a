use Rattle.std.proofs.Common.{◌≡◌, ◌∷◌, ◌++◌, ◌+◌, ◌∙◌, [], List, length, ap, arith}
use Rattle.std.proofs.lemmas.List.{length-append}
use Rattle.nt_book.specs.declared.meta.PageMeta.{PageMeta}
use Rattle.nt_pages.specs.Image.{column_bytes}
use Rattle.nt_pages.proofs.Pages.{bytes-next, place-next, lists-next, columns-next}
use Rattle.nt_pages.specs.Written.{written_bytes}
use Rattle.nt_pages.proofs.columns.put_columns.Goals as goal

pub loop-k-preserved : goal.loop-k-preserved
loop-k-preserved c =
    let next = columns-next c.args.columns.now c.loop-k.k c.column-buffer.result.now c.column-buffer.ensures in
    let more = c.in_ok-metas.ensures.image in
    let told = c.in_ok-push.ensures.items
    ∙ ap (λ (m : List PageMeta). c.loop-k.lists.items ++ m ∷ []) (c.from_vec.ensures ∙ c.in_ok-metas.ensures.metas) in
    let grown : length (written_bytes c.put_column.new.image) ≡ length (written_bytes c.loop-k.image) + length
    (column_bytes c.args.page c.column-buffer.result.now.column) =
    ap length more ∙ length-append (written_bytes c.loop-k.image) (column_bytes c.args.page c.column-buffer.result.now.column) in
    record {
      image = bytes-next (column_bytes c.args.page) _ _ _ _ _ _ next more c.loop-k.invariant.image;
      lists = lists-next c.args.page _ _ _ _ _ _ _ _ next told (place-next _ _ _ c.loop-k.invariant.room more) c.loop-k.invariant.lists;
      room = omega arith;
    }
