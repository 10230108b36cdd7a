use Rattle.std.proofs.Math.Facts.{Fits-lt-pow}
use Rattle.nt_view.proofs.place.are_bytes.Goals as goal

pub returns : goal.returns
returns c i = Fits-lt-pow (c.type_inv.store i)
