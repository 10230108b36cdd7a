use Rattle.std.proofs.Common.{IfSome, subst}
use Rattle.nt_event.specs.Plain.{EndsString}
use Rattle.nt_event.proofs.Lexing.{string-stands}
use Rattle.nt_event.proofs.quoted.string.Goals as goal

pub returns-clause-stands : goal.returns-clause-stands
returns-clause-stands c =
    let t = c.args.text.now in
    let first = c.in-Some.first in
    let h = subst (λ o. IfSome o (λ r. EndsString r.0.items t first r.1)) c.in-Some-2.is c.in_ok-bytes.ensures in
    string-stands c.in-Some-2.bytes.items t c.args.at first c.in-Some-2.end c.in-Some.ensures h.read h.lexed h.past h.within
