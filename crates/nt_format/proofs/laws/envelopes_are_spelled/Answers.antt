use Rattle.nt_format.proofs.Envelopes.{payload_again, payload_takes, payload_of-longer, one_envelope}
use Rattle.nt_format.proofs.laws.envelopes_are_spelled.Goals as goal

pub returns-clause-read : goal.returns-clause-read
returns-clause-read c = payload_again

pub returns-clause-found : goal.returns-clause-found
returns-clause-found c = payload_takes

pub returns-clause-longer : goal.returns-clause-longer
returns-clause-longer c = payload_of-longer

pub returns-clause-one : goal.returns-clause-one
returns-clause-one c = one_envelope
