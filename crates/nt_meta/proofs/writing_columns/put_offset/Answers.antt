use Rattle.std.specs.Int.{w32, w64, to_le_bytes}
use Rattle.nt_meta.proofs.Appended.{two_parts}
use Rattle.nt_meta.proofs.writing_columns.put_offset.Goals as goal

pub returns : goal.returns
returns c =
    two_parts (to_le_bytes w64 c.args.offset) (to_le_bytes w32 0) c.args.out.now c.put_u64le.new.self c.put_u32le.new.self
    c.in_ok-put_u64le.ensures.ok c.in_ok-put_u32le.ensures.ok
