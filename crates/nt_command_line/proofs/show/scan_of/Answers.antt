use Rattle.std.proofs.Common.{◌∙◌, codes, refl, [], ◌∷◌}
use Rattle.clap.specs.Words.{app_of, IsParsedFrom}
use Rattle.nt_command_line.specs.CommandLine.{texts, operand, scan_app}
use Rattle.nt_command_line.proofs.Found.{own_by, operand_there}
use Rattle.nt_command_line.proofs.Spoken.{held, reads_of, refused_of, scan_is, found_by}
use Rattle.nt_command_line.proofs.Wrong.{wrong_scan}
use Rattle.nt_command_line.proofs.show.scan_of.Goals as goal

pub name_in-requires : goal.name_in-requires
name_in-requires c =
    operand_there (codes "scan") (operand (codes "FILE") ∷ []) c.in_ok-scan_command.field-0 c.in-Some.matches 0 (codes "FILE")
    (own_by (codes "FILE") refl refl refl) c.in_ok-scan_command.ensures refl refl
    (held (IsParsedFrom c.in_ok-scan_command.field-0) _ c.in-Some.matches c.in-Some.is c.in_ok-matches.ensures.parsed)

pub returns-in-None : goal.returns-in-None
returns-in-None c =
    wrong_scan (texts c.args.words.now) c.requires (refused_of (app_of c.in_ok-scan_command.field-0) scan_app
    (texts c.args.words.now) _ (c.in_ok-scan_command.ensures.app_is ∙ scan_is) c.in-None.is c.in_ok-matches.ensures.reads)

pub returns-in-Some : goal.returns-in-Some
returns-in-Some c =
    let words = texts c.args.words.now in
    let read = reads_of (app_of c.in_ok-scan_command.field-0) scan_app words _ c.in-Some.matches
    (c.in_ok-scan_command.ensures.app_is ∙ scan_is) c.in-Some.is c.in_ok-matches.ensures.reads in
    record {
      begins = c.requires;
      taken = read.0;
      file_is = found_by scan_app words c.in-Some.matches (codes "FILE") c.name_in.result.now read.1 c.name_in.ensures;
    }
