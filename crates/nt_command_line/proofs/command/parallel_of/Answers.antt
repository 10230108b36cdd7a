use Rattle.std.proofs.Common.{◌≡◌, ◌∙◌, sym, codes, rules}
use Rattle.nt_command_line.proofs.Spoken.{begins_by}
use Rattle.nt_command_line.proofs.command.parallel_of.Goals as goal

pub write_of-requires : goal.write_of-requires
write_of-requires c =
    let same : c.as_str.result.now ≡ codes "write" = search rules in
    begins_by c.args.words.now c.first-item.result (codes "write") c.in-len1-up.len_at_least c.first-item.is
    (sym c.as_str.ensures.value ∙ same)

pub gen_of-requires : goal.gen_of-requires
gen_of-requires c =
    let same : c.as_str-2.result.now ≡ codes "gen" = search rules in
    begins_by c.args.words.now c.first-item-2.result (codes "gen") c.in-len1-up.len_at_least c.first-item-2.is
    (sym c.as_str-2.ensures.value ∙ same)
