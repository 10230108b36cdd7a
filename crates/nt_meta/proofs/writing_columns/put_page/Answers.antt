use Rattle.std.proofs.Common.{ℕ, ◌+◌, ◌++◌, ap, ◌∙◌}
use Rattle.std.specs.Int.{w32, w64, to_le_bytes}
use Rattle.nt_frame.specs.Writing.{bytes_added}
use Rattle.nt_meta.proofs.Appended.{three}
use Rattle.nt_meta.proofs.writing_columns.put_page.Goals as goal

pub returns : goal.returns
returns c =
    let page = c.args.page.now in
    let rest = to_le_bytes w32 page.size ++ to_le_bytes w64 (c.args.payload + page.place) in
    three (to_le_bytes w32 c.negative.result) (to_le_bytes w32 page.size) (to_le_bytes w64 (c.args.payload + page.place))
    c.args.out.now c.put_u32le.new.self c.put_u32le-2.new.self c.put_u64le.new.self
    c.in_ok-put_u32le.ensures.ok c.in_ok-put_u32le-2.ensures.ok c.in_ok-put_u64le.ensures.ok
    ∙ ap (λ (n : ℕ). bytes_added (to_le_bytes w32 n ++ rest) c.args.out.now) c.negative.ensures
