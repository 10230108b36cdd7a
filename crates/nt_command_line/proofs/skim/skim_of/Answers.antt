use Rattle.std.proofs.Common.{◌≡◌, ◌∙◌, ap, subst, codes, refl, inl, inr, rules, ℕ, List, [], ◌∷◌, option_map}
use Rattle.std.specs.Borrow.{Bor}
use Rattle.clap.specs.Words.{app_of, IsParsedFrom}
use Rattle.nt_command_line.specs.CommandLine.{texts, operand, operands}
use Rattle.nt_command_line.specs.SkimWords.{skim_app, skim_rules, text_option, said_test, CanBeSkimmed}
use Rattle.nt_command_line.specs.Commands.{names_of}
use Rattle.nt_command_line.proofs.Found.{own_by, operand_there}
use Rattle.nt_command_line.proofs.Settings.{numbers_there}
use Rattle.nt_command_line.proofs.Spoken.{held, reads_of, refused_of, skim_is, skim_names_by, test_by, test_found}
use Rattle.nt_command_line.proofs.Wrong.{wrong_skim}
use Rattle.nt_command_line.proofs.skim.skim_of.Goals as goal

pub name_in-out-requires : goal.name_in-out-requires
name_in-out-requires c =
    operand_there (codes "skim") skim_rules c.in_ok-skim_command.field-0 c.in-Some.matches 9 (codes "OUT")
    (own_by (codes "OUT") refl refl refl) c.in_ok-skim_command.ensures refl refl
    (held (IsParsedFrom c.in_ok-skim_command.field-0) _ c.in-Some.matches c.in-Some.is c.in_ok-matches.ensures.parsed)

pub name_in-file-requires : goal.name_in-file-requires
name_in-file-requires c =
    operand_there (codes "skim") skim_rules c.in_ok-skim_command.field-0 c.in-Some.matches 10 (codes "FILE")
    (own_by (codes "FILE") refl refl refl) c.in_ok-skim_command.ensures refl refl
    (held (IsParsedFrom c.in_ok-skim_command.field-0) _ c.in-Some.matches c.in-Some.is c.in_ok-matches.ensures.parsed)

pub params_in-requires : goal.params_in-requires
params_in-requires c =
    numbers_there (codes "skim")
    (text_option (codes "where") ∷ text_option (codes "least") ∷ text_option (codes "greatest") ∷ operand (codes "OUT")
    ∷ operand (codes "FILE") ∷ operands (codes "NAME") ∷ [])
    c.in_ok-skim_command.field-0 c.in-Some.matches c.in_ok-skim_command.ensures
    (record { cluster = refl; page = refl; group = refl; range = refl; file = refl })
    (held (IsParsedFrom c.in_ok-skim_command.field-0) _ c.in-Some.matches c.in-Some.is c.in_ok-matches.ensures.parsed)

pub returns-in_default : goal.returns-in_default
returns-in_default c =
    wrong_skim (texts c.args.words.now) c.requires (inl (refused_of (app_of c.in_ok-skim_command.field-0) skim_app
    (texts c.args.words.now) _ (c.in_ok-skim_command.ensures.app_is ∙ skim_is) c.in_default.is c.in_ok-matches.ensures.reads))

pub returns-in_default-test_in : goal.returns-in_default-test_in
returns-in_default-test_in c =
    let words = texts c.args.words.now in
    let read = reads_of (app_of c.in_ok-skim_command.field-0) skim_app words _ c.in-Some.matches
    (c.in_ok-skim_command.ensures.app_is ∙ skim_is) c.in-Some.is c.in_ok-matches.ensures.reads in
    wrong_skim words c.requires (inr (inl (λ test is.
    c.test_in.ensures.none c.in_default-test_in.is test (test_found words c.in-Some.matches test read.1 is))))

pub returns-then-not-can_be_skimmed : goal.returns-then-not-can_be_skimmed
returns-then-not-can_be_skimmed c =
    let words = texts c.args.words.now in
    let read = reads_of (app_of c.in_ok-skim_command.field-0) skim_app words _ c.in-Some.matches
    (c.in_ok-skim_command.ensures.app_is ∙ skim_is) c.in-Some.is c.in_ok-matches.ensures.reads in
    let items : c.deref.result.now ≡ c.in_ok-names.names.items = search rules in
    wrong_skim words c.requires (inr (inr (record {
      out = c.name_in-out.result.now;
      file = c.name_in-file.result.now;
      names = names_of c.deref.result.now;
      names_are = skim_names_by words c.in-Some.matches c.name_in-out.result.now c.name_in-file.result.now
          (names_of c.deref.result.now) read.1 c.name_in-out.ensures c.name_in-file.ensures (ap names_of items ∙ c.in_ok-names.ensures);
      clash = c.if-not-can_be_skimmed.ensures;
    })))

pub returns : goal.returns
returns c =
    let words = texts c.args.words.now in
    let read = reads_of (app_of c.in_ok-skim_command.field-0) skim_app words _ c.in-Some.matches
    (c.in_ok-skim_command.ensures.app_is ∙ skim_is) c.in-Some.is c.in_ok-matches.ensures.reads in
    let items : c.deref.result.now ≡ c.in_ok-names.names.items = search rules in
    record {
      begins = c.requires;
      taken = read.0;
      names_are = skim_names_by words c.in-Some.matches c.name_in-out.result.now c.name_in-file.result.now
          (names_of c.in_ok-names.names.items) read.1 c.name_in-out.ensures c.name_in-file.ensures c.in_ok-names.ensures;
      test_is = test_by words c.in-Some.matches (option_map said_test c.in-Some-test_in.test) read.1 c.in-Some-test_in.ensures.some;
      params = c.params_in.ensures skim_app words read.1;
      can = subst (λ (l : List (Bor (List ℕ))). CanBeSkimmed c.name_in-out.result.now c.name_in-file.result.now (names_of l)) items
          c.if-not-can_be_skimmed.ensures;
    }
