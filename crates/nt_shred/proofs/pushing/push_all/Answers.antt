use Rattle.nt_shred.proofs.Few.{added-none}
use Rattle.nt_shred.proofs.pushing.push_all.Goals as goal

pub loop-byte-init : goal.loop-byte-init
loop-byte-init c = added-none c.args.buffer.now
