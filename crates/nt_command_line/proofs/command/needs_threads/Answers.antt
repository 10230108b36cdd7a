use Rattle.std.proofs.Common.{◌≡◌, ◌∙◌, inl, inr, sym, codes, rules}
use Rattle.nt_command_line.proofs.Spoken.{begins_by}
use Rattle.nt_command_line.proofs.command.needs_threads.Goals as goal

pub returns-in-len1-up-clause-yes : goal.returns-in-len1-up-clause-yes
returns-in-len1-up-clause-yes c = λ yes.
    let same : c.as_str.result.now ≡ codes "write" = search rules in
    inl (begins_by c.args.words.now c.first-item.result (codes "write") c.in-len1-up.len_at_least c.first-item.is
    (sym c.as_str.ensures.value ∙ same))

pub returns-in-len1-up-2-clause-yes : goal.returns-in-len1-up-2-clause-yes
returns-in-len1-up-2-clause-yes c = λ yes.
    let same : c.as_str-2.result.now ≡ codes "gen" = search rules in
    inr (inl (begins_by c.args.words.now c.first-item-2.result (codes "gen") c.in-len1-up.len_at_least c.first-item-2.is
    (sym c.as_str-2.ensures.value ∙ same)))

pub returns-in-len1-up-3-clause-yes : goal.returns-in-len1-up-3-clause-yes
returns-in-len1-up-3-clause-yes c = λ yes.
    let same : c.as_str-3.result.now ≡ codes "scan" = search rules in
    inr (inr (begins_by c.args.words.now c.first-item-3.result (codes "scan") c.in-len1-up.len_at_least c.first-item-3.is
    (sym c.as_str-3.ensures.value ∙ same)))
