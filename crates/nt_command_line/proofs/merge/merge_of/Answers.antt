use Rattle.std.proofs.Common.{◌≡◌, ◌∙◌, ◌^◌, ap, subst, codes, refl, inl, inr, rules, ℕ, List}
use Rattle.std.specs.Borrow.{Bor}
use Rattle.clap.specs.Words.{app_of, IsParsedFrom}
use Rattle.nt_command_line.specs.CommandLine.{texts}
use Rattle.nt_command_line.specs.MergeWords.{merge_app, merge_rules, CanBeMerged}
use Rattle.nt_command_line.specs.Commands.{names_of}
use Rattle.nt_command_line.proofs.Found.{own_by, operand_there}
use Rattle.nt_command_line.proofs.Numbers.{number_there}
use Rattle.nt_command_line.proofs.Spoken.{held, reads_of, refused_of, merge_is, merge_names_by}
use Rattle.nt_command_line.proofs.Wrong.{wrong_merge}
use Rattle.nt_command_line.proofs.merge.merge_of.Goals as goal

pub returns-in_default : goal.returns-in_default
returns-in_default c =
    wrong_merge (texts c.args.words.now) c.requires (inl (refused_of (app_of c.in_ok-merge_command.field-0) merge_app
    (texts c.args.words.now) _ (c.in_ok-merge_command.ensures.app_is ∙ merge_is) c.in_default.is c.in_ok-matches.ensures.reads))

pub name_in-out-requires : goal.name_in-out-requires
name_in-out-requires c =
    operand_there (codes "merge") merge_rules c.in_ok-merge_command.field-0 c.in-Some.matches 3 (codes "OUT")
    (own_by (codes "OUT") refl refl refl) c.in_ok-merge_command.ensures refl refl
    (held (IsParsedFrom c.in_ok-merge_command.field-0) _ c.in-Some.matches c.in-Some.is c.in_ok-matches.ensures.parsed)

pub params_in-requires-clause-group : goal.params_in-requires-clause-group
params_in-requires-clause-group c =
    number_there (codes "merge") merge_rules c.in_ok-merge_command.field-0 c.in-Some.matches 0 1 10000 (codes "group")
    (own_by (codes "group") refl refl refl) c.in_ok-merge_command.ensures refl refl
    (held (IsParsedFrom c.in_ok-merge_command.field-0) _ c.in-Some.matches c.in-Some.is c.in_ok-matches.ensures.parsed)

pub params_in-requires-clause-limits : goal.params_in-requires-clause-limits
params_in-requires-clause-limits c =
    let parsed = held (IsParsedFrom c.in_ok-merge_command.field-0) _ c.in-Some.matches c.in-Some.is c.in_ok-matches.ensures.parsed in
    let there = number_there (codes "merge") merge_rules c.in_ok-merge_command.field-0 c.in-Some.matches in
    record {
      range = there 1 1024 (2 ^ 30) (codes "max-range") (own_by (codes "max-range") refl refl refl) c.in_ok-merge_command.ensures refl
          refl parsed;
      file = there 2 1024 (2 ^ 56) (codes "max-file") (own_by (codes "max-file") refl refl refl) c.in_ok-merge_command.ensures refl refl
          parsed;
    }

pub returns-then-not-can_be_merged : goal.returns-then-not-can_be_merged
returns-then-not-can_be_merged c =
    let words = texts c.args.words.now in
    let read = reads_of (app_of c.in_ok-merge_command.field-0) merge_app words _ c.in-Some.matches
    (c.in_ok-merge_command.ensures.app_is ∙ merge_is) c.in-Some.is c.in_ok-matches.ensures.reads in
    let items : c.deref.result.now ≡ c.in_ok-files.files.items = search rules in
    wrong_merge words c.requires (inr (record {
      out = c.name_in-out.result.now;
      files = names_of c.deref.result.now;
      names = merge_names_by words c.in-Some.matches c.name_in-out.result.now (names_of c.deref.result.now) read.1 c.name_in-out.ensures
          (ap names_of items ∙ c.in_ok-files.ensures);
      clash = c.if-not-can_be_merged.ensures;
    }))

pub returns : goal.returns
returns c =
    let words = texts c.args.words.now in
    let read = reads_of (app_of c.in_ok-merge_command.field-0) merge_app words _ c.in-Some.matches
    (c.in_ok-merge_command.ensures.app_is ∙ merge_is) c.in-Some.is c.in_ok-matches.ensures.reads in
    let items : c.deref.result.now ≡ c.in_ok-files.files.items = search rules in
    record {
      begins = c.requires;
      taken = read.0;
      names = merge_names_by words c.in-Some.matches c.name_in-out.result.now (names_of c.in_ok-files.files.items) read.1
          c.name_in-out.ensures c.in_ok-files.ensures;
      params = c.params_in.ensures words read.1;
      can = subst (λ (l : List (Bor (List ℕ))). CanBeMerged c.name_in-out.result.now (names_of l)) items
          c.if-not-can_be_merged.ensures;
    }
