use Rattle.nt_copying.proofs.Keyed.{keyed-copy}
use Rattle.nt_copying.proofs.laws.keyed_images_are_copies.Goals as goal

pub returns : goal.returns
returns c t s entries number l k bytes alike begin holds loaded image =
    keyed-copy t s entries number l k bytes alike begin holds loaded image
