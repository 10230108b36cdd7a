use Rattle.std.proofs.Common.{◌≡◌, ◌∙◌, sym, codes, rules}
use Rattle.nt_command_line.proofs.Spoken.{begins_by}
use Rattle.nt_command_line.proofs.command.alone_of.Goals as goal

pub seq_of-requires : goal.seq_of-requires
seq_of-requires c =
    let same : c.as_str.result.now ≡ codes "seq" = search rules in
    begins_by c.args.words.now c.first-item.result (codes "seq") c.in-len1-up.len_at_least c.first-item.is
    (sym c.as_str.ensures.value ∙ same)

pub entries_of-requires : goal.entries_of-requires
entries_of-requires c =
    let same : c.as_str-2.result.now ≡ codes "entries" = search rules in
    begins_by c.args.words.now c.first-item-2.result (codes "entries") c.in-len1-up.len_at_least c.first-item-2.is
    (sym c.as_str-2.ensures.value ∙ same)

pub schema_of-requires : goal.schema_of-requires
schema_of-requires c =
    let same : c.as_str-3.result.now ≡ codes "schema" = search rules in
    begins_by c.args.words.now c.first-item-3.result (codes "schema") c.in-len1-up.len_at_least c.first-item-3.is
    (sym c.as_str-3.ensures.value ∙ same)

pub skim_of-requires : goal.skim_of-requires
skim_of-requires c =
    let same : c.as_str-4.result.now ≡ codes "skim" = search rules in
    begins_by c.args.words.now c.first-item-4.result (codes "skim") c.in-len1-up.len_at_least c.first-item-4.is
    (sym c.as_str-4.ensures.value ∙ same)

pub merge_of-requires : goal.merge_of-requires
merge_of-requires c =
    let same : c.as_str-5.result.now ≡ codes "merge" = search rules in
    begins_by c.args.words.now c.first-item-5.result (codes "merge") c.in-len1-up.len_at_least c.first-item-5.is
    (sym c.as_str-5.ensures.value ∙ same)
