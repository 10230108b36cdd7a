use Rattle.nt_fitting.proofs.Fits.{trees_fit, all_can_fit}
use Rattle.nt_fitting.proofs.laws.entries_fit_their_plans.Goals as goal

pub returns : goal.returns
returns c = λ cs ps cols n i has are sound. trees_fit ps cols (all_can_fit cs cols are ps n has sound) i
