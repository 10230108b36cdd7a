use Rattle.nt_payloads.proofs.Headers.{header}
use Rattle.nt_payloads.proofs.laws.headers_are_described.Goals as goal

pub returns : goal.returns
returns c = header
