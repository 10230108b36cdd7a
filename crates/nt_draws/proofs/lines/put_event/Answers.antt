use Rattle.std.proofs.Common.{ap, sym, ◌∙◌, ◌++◌, ◌∷◌, [], ◌%◌, false, decimal, arith}
use Rattle.std.proofs.lemmas.Fmt.{decimal_digit}
use Rattle.nt_draws.specs.Events.{drawn_ids}
use Rattle.nt_draws.specs.Lines.{ids_text}
use Rattle.nt_draws.proofs.Joined.{pieces_joined, event_line-joined, event-drawn}
use Rattle.nt_draws.proofs.lines.put_event.Goals as goal

pub returns-clause-line : goal.returns-clause-line
returns-clause-line c =
    let ids = drawn_ids (c.draw-count.result % 4) c.draw-count.result in
    let digit = c.push-2.ensures.items
    ∙ ap (λ l. c.put-2.new.line.items ++ l) (sym (decimal_digit (c.draw-tag.result % 10) (omega arith))) in
    pieces_joined c.push.new.self.items c.put_number.new.line.items c.put.new.line.items c.put_ids-last.new.line.items
    c.put-2.new.line.items c.push-2.new.self.items c.put-3.new.line.items (decimal (c.draw-run.result % 1000)) (ids_text false ids)
    (decimal (c.draw-tag.result % 10)) (c.push.ensures.items ∙ ap (λ l. l ++ 91 ∷ []) c.requires) c.put_number.ensures.line
    c.put.ensures.line c.put_ids-last.ensures.line c.put-2.ensures.line digit c.put-3.ensures.line
    ∙ event_line-joined (c.draw-run.result % 1000) (c.draw-tag.result % 10) ids (omega arith)
    ∙ event-drawn c.args.number c.draw-run.result c.draw-count.result c.put_ids-last.result c.draw-tag.result c.draw-run.ensures
    c.draw-count.ensures c.put_ids-last.ensures.number c.draw-tag.ensures
