use Rattle.nt_payloads.proofs.Footers.{footer}
use Rattle.nt_payloads.proofs.laws.footers_are_described.Goals as goal

pub returns : goal.returns
returns c = footer
