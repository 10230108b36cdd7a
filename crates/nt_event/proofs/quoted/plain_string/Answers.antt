use Rattle.std.specs.List.{slice_range}
use Rattle.nt_event.specs.Plain.{EndsString}
use Rattle.nt_event.proofs.InStrings.{run-stands, string-ends}
use Rattle.nt_event.proofs.Lexing.{string-stands}
use Rattle.nt_event.proofs.quoted.plain_string.Goals as goal

pub returns-clause-stands : goal.returns-clause-stands
returns-clause-stands c =
    let t = c.args.text.now in
    let first = c.in_ok-first.first in
    let last = c.plain_end-last.result in
    let p = c.plain_end-last.ensures in
    let s = slice_range t first last in
    let h : EndsString s t first c.in_ok-end.end =
    string-ends s t first last c.in_ok-end.end (run-stands t first last p.low p.plain) c.in_ok-end.ensures in
    string-stands s t c.args.at first c.in_ok-end.end c.in_ok-first.ensures h.read h.lexed h.past h.within
