use Rattle.std.specs.Int.{w32, w64, to_le_bytes}
use Rattle.nt_meta.proofs.Appended.{three}
use Rattle.nt_meta.proofs.writing_footer.put_link.Goals as goal

pub returns : goal.returns
returns c =
    let l = c.args.to.now in
    three (to_le_bytes w64 l.length) (to_le_bytes w32 l.at.size) (to_le_bytes w64 l.at.place) c.args.out.now c.put_u64le.new.self
    c.put_u32le.new.self c.put_u64le-2.new.self
    c.in_ok-put_u64le.ensures.ok c.in_ok-put_u32le.ensures.ok c.in_ok-put_u64le-2.ensures.ok
