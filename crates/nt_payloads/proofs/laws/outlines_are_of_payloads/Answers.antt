use Rattle.nt_payloads.proofs.Outlines.{outline, outline_words}
use Rattle.nt_payloads.proofs.laws.outlines_are_of_payloads.Goals as goal

pub returns-clause-read : goal.returns-clause-read
returns-clause-read c = outline

pub returns-clause-same : goal.returns-clause-same
returns-clause-same c = outline_words
