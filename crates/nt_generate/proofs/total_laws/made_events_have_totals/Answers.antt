use Rattle.nt_generate.proofs.Sums.{made_total-is, made_totals-is}
use Rattle.nt_generate.proofs.total_laws.made_events_have_totals.Goals as goal

pub returns-clause-one : goal.returns-clause-one
returns-clause-one c most events number some h = made_total-is most events number some h

pub returns-clause-all : goal.returns-clause-all
returns-clause-all c most contexts events seed order dealt some h uses deal =
    made_totals-is most contexts events seed order dealt some h uses deal
