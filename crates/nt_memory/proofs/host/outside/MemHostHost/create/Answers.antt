use Rattle.nt_memory.proofs.Refusing.{refused_where, still_out}
use Rattle.nt_memory.proofs.host.outside.MemHostHost.create.Goals as goal

pub returns-in-None-clause-exact : goal.returns-in-None-clause-exact
returns-in-None-clause-exact c =
    refused_where _ _ c.args.self.now.tally _ c.admit.new.self.tally c.in_ok-ask.ensures.same.tally c.in-None.ensures.admits.failed
    c.in-None.ensures.admits.only
    (λ none. still_out c.args.self.now c.prepare.new.self c.in_ok-ask.ensures.same.state (c.name_unless_out-found.ensures.only none))
