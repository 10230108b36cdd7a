use Rattle.std.proofs.Common.{List, ℕ, Some, ap}
use Rattle.nt_outside.specs.Source.{SourceState}
use Rattle.nt_draws.proofs.Given.{left-next}
use Rattle.nt_draws.proofs.source.EventSource.next_line.Goals as goal

pub returns-clause-same : goal.returns-clause-same
returns-clause-same c =
    let told : List ℕ → SourceState = λ l. record { left = Some l; faults = 0 } in
    ap told (left-next c.args.self.now.events c.args.self.now.number c.put_event-self.result c.args.self.now.at
    c.args.self.now.line.items c.put_event-self.new.line.items c.requires.some c.requires.given c.put_event-self.ensures.line
    c.put_event-self.ensures.number)
