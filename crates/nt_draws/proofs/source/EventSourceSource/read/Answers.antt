use Rattle.std.proofs.Common.{◌+◌, ◌++◌, length, take, drop, Some, subst, arith, rules}
use Rattle.std.proofs.lemmas.Grind.{common_steps}
use Rattle.std.specs.Io.KnownBytes.{Consumes}
use Rattle.nt_outside.specs.Source.{SourceState}
use Rattle.nt_draws.specs.Lines.{events_text}
use Rattle.nt_draws.proofs.Given.{front-given, none-given}
use Rattle.nt_draws.proofs.source.EventSourceSource.read.Goals as goal

pub returns : goal.returns
returns c =
    let line = c.ready.new.self.line.items in
    let at = c.ready.new.self.at in
    let n = c.copy_front-count.result in
    let rest = events_text c.ready.new.self.events c.ready.new.self.number in
    let now = drop (at + n) line ++ rest in
    let buf = c.copy_front-count.new.buf in
    record {
      bound = search rules;
      bytes = (
        subst (λ (s : SourceState). Consumes s.left (Some now) (take n buf)) c.ready.ensures.same
            (front-given line rest _ (take n buf) at n (length buf) (grind (arith, common_steps)) c.copy_front-count.ensures.count
            c.copy_front-count.ensures.front),
        λ none some. none-given line _ at n (length buf) c.ready.new.self.events c.ready.new.self.number (grind (arith, common_steps))
            c.copy_front-count.ensures.count c.ready.ensures.some none some,
      );
      served = search rules;
      cause = search rules;
    }
