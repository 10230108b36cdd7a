use Rattle.std.proofs.Common.{sym, subst}
use Rattle.std.specs.List.{slice_range}
use Rattle.nt_event.specs.Plain.{EndsString}
use Rattle.nt_event.proofs.InStrings.{run-stands, string-ends}
use Rattle.nt_event.proofs.quoted.inside.Goals as goal

pub returns-in_ok-from_slice-in-Some : goal.returns-in_ok-from_slice-in-Some
returns-in_ok-from_slice-in-Some c =
    let t = c.args.text.now in
    let at = c.args.at in
    let last = c.plain_end-last.result in
    let p = c.plain_end-last.ensures in
    subst (λ s. EndsString s t at c.in-Some.end) (sym c.in_ok-from_slice-in-Some.ensures.items)
    (string-ends (slice_range t at last) t at last c.in-Some.end (run-stands t at last p.low p.plain) c.in-Some.ensures)
