use Rattle.nt_container.proofs.Gate.{blob_found}
use Rattle.nt_container.proofs.laws.blobs_are_found.Goals as goal

pub returns : goal.returns
returns c = blob_found
