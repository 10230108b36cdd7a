use Rattle.nt_payloads.proofs.Descriptions.{described}
use Rattle.nt_payloads.proofs.laws.descriptions_are_described.Goals as goal

pub returns : goal.returns
returns c = described
