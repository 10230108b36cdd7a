use Rattle.std.proofs.Common.{refl}
use Rattle.nt_decoded.proofs.Windows.{none-there}
use Rattle.nt_decoded.proofs.window.Window.new.Goals as goal

pub returns : goal.returns
returns c file sized = record { sized = sized; has = λ told is. none-there told _ _ refl refl }
