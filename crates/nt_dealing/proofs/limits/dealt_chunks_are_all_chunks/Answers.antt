use Rattle.nt_dealing.proofs.Permuted.{all_chunks_dealt}
use Rattle.nt_dealing.proofs.limits.dealt_chunks_are_all_chunks.Goals as goal

pub returns : goal.returns
returns c staged t page most chunks book ranges is kept = all_chunks_dealt staged t page most chunks book ranges is
