use Rattle.std.proofs.Common.{sym, ◌∙◌}
use Rattle.nt_types.proofs.LineSteps.{skipped, taken}
use Rattle.nt_types.proofs.progress.Progress.take_line.Goals as goal

pub returns-then-is_blank_line : goal.returns-then-is_blank_line
returns-then-is_blank_line c s f = skipped _ s c.args.line.now (sym c.if-is_blank_line.ensures) f

pub returns : goal.returns
returns c s f =
    taken c.args.self.now _ s c.args.line.now c.in_ok-name.name _ _ (sym c.is_blank_line.ensures ∙ c.if-is_blank_line.false) f
    (c.in_ok-name.ensures.field s.seen f.seen) c.in_ok-name.ensures.few c.in_ok-member.ensures
    c.in_ok-push.ensures.items c.in_ok-insert.ensures.updates c.count_fields-count.ensures
