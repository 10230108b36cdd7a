use Rattle.std.proofs.Common.{◌∙◌, codes, refl}
use Rattle.clap.specs.Words.{app_of, IsParsedFrom}
use Rattle.nt_command_line.specs.CommandLine.{texts, entries_rules, entries_app}
use Rattle.nt_command_line.proofs.Found.{own_by, operand_there}
use Rattle.nt_command_line.proofs.Numbers.{number_there}
use Rattle.nt_command_line.proofs.Spoken.{held, reads_of, refused_of, entries_is, found_by, number_by}
use Rattle.nt_command_line.proofs.Wrong.{wrong_entries}
use Rattle.nt_command_line.proofs.show.entries_of.Goals as goal

pub name_in-requires : goal.name_in-requires
name_in-requires c =
    operand_there (codes "entries") entries_rules c.in_ok-entries_command.field-0 c.in-Some.matches 2 (codes "FILE")
    (own_by (codes "FILE") refl refl refl) c.in_ok-entries_command.ensures refl refl
    (held (IsParsedFrom c.in_ok-entries_command.field-0) _ c.in-Some.matches c.in-Some.is c.in_ok-matches.ensures.parsed)

pub returns-in_default : goal.returns-in_default
returns-in_default c =
    wrong_entries (texts c.args.words.now) c.requires (refused_of (app_of c.in_ok-entries_command.field-0) entries_app
    (texts c.args.words.now) _ (c.in_ok-entries_command.ensures.app_is ∙ entries_is) c.in_default.is c.in_ok-matches.ensures.reads)

pub returns : goal.returns
returns c =
    let words = texts c.args.words.now in
    let is = c.in_ok-entries_command.ensures in
    let parsed = held (IsParsedFrom c.in_ok-entries_command.field-0) _ c.in-Some.matches c.in-Some.is c.in_ok-matches.ensures.parsed in
    let there = number_there (codes "entries") entries_rules c.in_ok-entries_command.field-0 c.in-Some.matches in
    let from = there 0 0 18446744073709551615 (codes "from") (own_by (codes "from") refl refl refl) is refl refl parsed in
    let count = there 1 0 18446744073709551615 (codes "count") (own_by (codes "count") refl refl refl) is refl refl parsed in
    let read = reads_of (app_of c.in_ok-entries_command.field-0) entries_app words _ c.in-Some.matches (is.app_is ∙ entries_is)
    c.in-Some.is c.in_ok-matches.ensures.reads in
    record {
      begins = c.requires;
      taken = read.0;
      from_is = number_by entries_app words c.in-Some.matches (codes "from") c.number_in.result read.1
          (c.number_in.ensures 0 18446744073709551615 from).0;
      count_is = number_by entries_app words c.in-Some.matches (codes "count") c.number_in-2.result read.1
          (c.number_in-2.ensures 0 18446744073709551615 count).0;
      file_is = found_by entries_app words c.in-Some.matches (codes "FILE") c.name_in.result.now read.1 c.name_in.ensures;
    }
