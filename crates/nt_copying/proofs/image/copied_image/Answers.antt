use Rattle.std.proofs.Common.{◌≡◌, ◌∙◌, ◌+◌, length, sym, subst, arith}
use Rattle.nt_book.specs.Pages.{IsPaged}
use Rattle.nt_copied.specs.Stored.{stored_payload, stored_metas}
use Rattle.nt_copied.proofs.CopiedPaged.{stored-paged}
use Rattle.nt_copying.specs.Copied.{copied_columns}
use Rattle.nt_copying.proofs.CopiedMetas.{meta-same}
use Rattle.nt_copying.proofs.image.copied_image.Goals as goal

pub returns-clause-paged : goal.returns-clause-paged
returns-clause-paged c =
    let columns = copied_columns c.args.loaded.now 0 c.args.columns in
    let entries = c.args.entries in
    let payload = length (stored_payload columns) in
    let long : length c.put_columns.new.image.items ≡ 42 + payload =
    omega (
      arith,
      c.in_ok-lists.ensures.bytes.len,
      c.in_ok-extend_from_slice.ensures.len,
      c.in_ok-reserve.ensures.len,
      c.clear.ensures.len,
    ) in
    let len : c.len-2.result ≡ 42 + payload = omega (arith, c.len-2.ensures, long) in
    let pages : c.from_vec.result ≡ stored_metas 0 columns = c.from_vec.ensures ∙ c.in_ok-lists.ensures.metas in
    let kept = meta-same entries c.len-2.result (42 + payload) c.from_vec.result (stored_metas 0 columns) len pages in
    subst IsPaged (sym kept)
    (stored-paged 0 entries columns c.in_ok-lists.ensures.sound (omega (arith, c.if-from-len.false, c.from.ensures, c.len.ensures, long)))
