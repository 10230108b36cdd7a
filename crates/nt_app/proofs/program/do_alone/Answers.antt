use Rattle.std.proofs.Common.{◌∙◌, ap, subst, Some, option_map}
use Rattle.nt_show.specs.Shown.{entries_shown}
use Rattle.nt_command_line.specs.declared.command.Alone.{Alone}
use Rattle.nt_command_line.specs.CommandLine.{texts}
use Rattle.nt_command_line.specs.Commands.{names_of, SaysAlone}
use Rattle.nt_command_line.specs.SkimWords.{said_test}
use Rattle.nt_command_line.specs.declared.command.Alone.TheVariants.{Seq, Skim, Merge}
use Rattle.nt_app.specs.Shows.{ShowsNamed}
use Rattle.nt_app.proofs.Running.{no_memory, wrong_words}
use Rattle.nt_app.proofs.Obeying.{scripted_words, skimmed_words, merged_words, listed_words, outlined_words}
use Rattle.nt_app.proofs.program.do_alone.Goals as goal

pub returns-in_default : goal.returns-in_default
returns-in_default g c = no_memory _ _

pub returns-in_default-command : goal.returns-in_default-command
returns-in_default-command g c = wrong_words _ _ (subst (SaysAlone (texts c.args.words.now)) c.in_default-command.is c.in-Ok.ensures)

pub seq-requires : goal.seq-requires
seq-requires g c =
    let is = c.in-Some.is ∙ ap (λ (a : Alone). Some a) c.in-Seq.is in
    let says : SaysAlone (texts c.args.words.now) (Some (Seq c.in-Seq.said)) =
    subst (SaysAlone (texts c.args.words.now)) is c.in-Ok.ensures in
    says.params.staged

pub returns-in-Seq : goal.returns-in-Seq
returns-in-Seq g c =
    let said = c.in-Seq.said in
    let is = c.in-Some.is ∙ ap (λ (a : Alone). Some a) c.in-Seq.is in
    scripted_words _ said.out.now said.schema.now said.input.now said.params _ _ _
    (subst (SaysAlone (texts c.args.words.now)) is c.in-Ok.ensures) c.seq.ensures

pub skim-requires-clause-some : goal.skim-requires-clause-some
skim-requires-clause-some g c =
    let is = c.in-Some.is ∙ ap (λ (a : Alone). Some a) c.in-Skim.is in
    let says : SaysAlone (texts c.args.words.now) (Some (Skim c.in-Skim.said)) =
    subst (SaysAlone (texts c.args.words.now)) is c.in-Ok.ensures in
    says.can.some

pub skim-requires-clause-unstaged : goal.skim-requires-clause-unstaged
skim-requires-clause-unstaged g c =
    let is = c.in-Some.is ∙ ap (λ (a : Alone). Some a) c.in-Skim.is in
    let says : SaysAlone (texts c.args.words.now) (Some (Skim c.in-Skim.said)) =
    subst (SaysAlone (texts c.args.words.now)) is c.in-Ok.ensures in
    says.params.staged

pub returns-in-Skim : goal.returns-in-Skim
returns-in-Skim g c =
    let said = c.in-Skim.said in
    let is = c.in-Some.is ∙ ap (λ (a : Alone). Some a) c.in-Skim.is in
    skimmed_words _ said.out.now said.file.now (names_of said.names.items) (option_map said_test said.test) said.params _ _ _
    (subst (SaysAlone (texts c.args.words.now)) is c.in-Ok.ensures) c.skim.ensures

pub merge-requires-clause-count : goal.merge-requires-clause-count
merge-requires-clause-count g c =
    let is = c.in-Some.is ∙ ap (λ (a : Alone). Some a) c.in-Merge.is in
    let says : SaysAlone (texts c.args.words.now) (Some (Merge c.in-Merge.said)) =
    subst (SaysAlone (texts c.args.words.now)) is c.in-Ok.ensures in
    (says.can.some, says.can.few)

pub merge-requires-clause-unstaged : goal.merge-requires-clause-unstaged
merge-requires-clause-unstaged g c =
    let is = c.in-Some.is ∙ ap (λ (a : Alone). Some a) c.in-Merge.is in
    let says : SaysAlone (texts c.args.words.now) (Some (Merge c.in-Merge.said)) =
    subst (SaysAlone (texts c.args.words.now)) is c.in-Ok.ensures in
    says.params.staged

pub returns-in-Merge : goal.returns-in-Merge
returns-in-Merge g c =
    let said = c.in-Merge.said in
    let is = c.in-Some.is ∙ ap (λ (a : Alone). Some a) c.in-Merge.is in
    merged_words _ said.out.now (names_of said.files.items) said.params _ _ _
    (subst (SaysAlone (texts c.args.words.now)) is c.in-Ok.ensures) c.merge.ensures

pub returns-in-Entries : goal.returns-in-Entries
returns-in-Entries g c =
    let is = c.in-Some.is ∙ ap (λ (a : Alone). Some a) c.in-Entries.is in
    listed_words _ c.in-Entries.from c.in-Entries.count c.in-Entries.file.now _ _ _
    (subst (SaysAlone (texts c.args.words.now)) is c.in-Ok.ensures)
    (subst (λ n. ShowsNamed (entries_shown (record { from = n; count = c.in-Entries.count })) c.in-Entries.file.now
    (g.H.Host.state c.args.host.now)
    (g.H.Host.state c.entries.new.host) c.entries.result) c.unwrap_or-from.ensures c.entries.ensures)

pub returns-in-Schema : goal.returns-in-Schema
returns-in-Schema g c =
    let is = c.in-Some.is ∙ ap (λ (a : Alone). Some a) c.in-Schema.is in
    outlined_words _ c.in-Schema.file.now _ _ _ (subst (SaysAlone (texts c.args.words.now)) is c.in-Ok.ensures) c.schema.ensures
