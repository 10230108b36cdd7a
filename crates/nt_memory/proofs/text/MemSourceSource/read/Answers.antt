use Rattle.std.proofs.Common.{arith, rules}
use Rattle.std.proofs.lemmas.Grind.{common_steps}
use Rattle.nt_memory.proofs.Taken.{taken}
use Rattle.nt_memory.proofs.text.MemSourceSource.read.Goals as goal

pub returns-clause-next : goal.returns-clause-next
returns-clause-next c = record {
  bound = search rules;
  bytes = taken c.args.self.now.bytes _ _ c.args.self.now.at _ _ _ (grind (arith, common_steps)) c.copy_front-count.ensures.count
      c.args.self.now.some c.copy_front-count.ensures.front;
  served = search rules;
  cause = search rules;
}
