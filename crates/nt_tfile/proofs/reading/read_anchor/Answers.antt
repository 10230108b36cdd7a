use Rattle.std.proofs.Common.{rules, ◌≡◌, ℕ, ◌+◌, List, Ok, Err, sym, ap, ◌∙◌, arith}
use Rattle.std.proofs.lemmas.Grind.{common_steps}
use Rattle.nt_format.specs.Reading.{standing}
use Rattle.nt_container.specs.Anchors.{anchor_from}
use Rattle.nt_tfile.proofs.Windows.{object-read}
use Rattle.nt_tfile.proofs.reading.read_anchor.Goals as goal

pub returns-in_err-anchor_from-clause-read : goal.returns-in_err-anchor_from-clause-read
returns-in_err-anchor_from-clause-read g c told is =
    let place : c.in-Some.place ≡ c.args.key.now.place + c.args.key.now.header_len =
    grind (arith, common_steps, c.in-Some.ensures, c.from.ensures) in
    let failed =
    object-read told c.args.key.now tt c.fault-outside.result c.in-Some.place (standing 0 c.in_ok-object.object.items)
    (Err c.in_err-anchor_from.field-0.0) c.in_ok-check_plain.ensures c.fault-outside.ensures place
    (c.in_ok-object.ensures.read told is) (ap (λ (l : List ℕ). anchor_from c.args.key.now.place (standing 0 l))
    (sym c.deref.ensures.value) ∙ c.in_err-anchor_from.ensures) in
    search (rules, failed)

pub returns-clause-read : goal.returns-clause-read
returns-clause-read g c told is =
    let place : c.in-Some.place ≡ c.args.key.now.place + c.args.key.now.header_len =
    grind (arith, common_steps, c.in-Some.ensures, c.from.ensures) in
    object-read told c.args.key.now tt c.fault-outside.result c.in-Some.place (standing 0 c.in_ok-object.object.items)
    (Ok c.in_ok-anchor_from.field-0) c.in_ok-check_plain.ensures c.fault-outside.ensures place
    (c.in_ok-object.ensures.read told is) (ap (λ (l : List ℕ). anchor_from c.args.key.now.place (standing 0 l))
    (sym c.deref.ensures.value) ∙ c.in_ok-anchor_from.ensures)
