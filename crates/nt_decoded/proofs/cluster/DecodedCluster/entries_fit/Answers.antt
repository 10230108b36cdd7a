use Rattle.nt_reader.proofs.Fitting.{entry-fits}
use Rattle.nt_decoded.proofs.cluster.DecodedCluster.entries_fit.Goals as goal

pub returns : goal.returns
returns c = λ i less.
    entry-fits
    (record { typed = c.columns_have_types.ensures; taken = c.plans_take_what_fits.ensures.entry; fit = c.entries_fit_their_plans.ensures })
    _ _ i c.self.view_is c.self.invariant less
