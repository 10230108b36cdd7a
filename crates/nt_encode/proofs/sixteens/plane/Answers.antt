use Rattle.std.proofs.Common.{◌*◌}
use Rattle.nt_encode.proofs.Shuffles.{sixteen_at}
use Rattle.nt_encode.proofs.sixteens.plane.Goals as goal

pub returns : goal.returns
returns c = sixteen_at c.args.bytes.now (c.args.j * c.args.count) c.args.i c.requires
