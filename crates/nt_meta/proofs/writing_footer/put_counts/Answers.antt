use Rattle.std.specs.Int.{w32, w64, to_le_bytes}
use Rattle.nt_meta.proofs.Appended.{three}
use Rattle.nt_meta.proofs.writing_footer.put_counts.Goals as goal

pub returns : goal.returns
returns c =
    let g = c.args.group.now in
    three (to_le_bytes w64 g.first) (to_le_bytes w64 g.span) (to_le_bytes w32 g.clusters) c.args.out.now c.put_u64le.new.self
    c.put_u64le-2.new.self c.put_u32le.new.self
    c.in_ok-put_u64le.ensures.ok c.in_ok-put_u64le-2.ensures.ok c.in_ok-put_u32le.ensures.ok
