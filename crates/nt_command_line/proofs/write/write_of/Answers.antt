use Rattle.std.proofs.Common.{◌≡◌, ◌∙◌, ap, subst, codes, refl, inl, inr, rules, ℕ, List, [], ◌∷◌, length, arith}
use Rattle.std.proofs.lemmas.List.{length-map}
use Rattle.std.specs.Borrow.{Bor}
use Rattle.clap.specs.Words.{app_of, IsParsedFrom}
use Rattle.nt_command_line.specs.CommandLine.{texts, operand, operands, number_option, flag}
use Rattle.nt_command_line.specs.WriteWords.{write_app, write_rules, AreApart, IsWrite, AreContextsSaid}
use Rattle.nt_command_line.specs.Commands.{names_of}
use Rattle.nt_command_line.proofs.Found.{own_by, operand_there}
use Rattle.nt_command_line.proofs.Numbers.{number_there}
use Rattle.nt_command_line.proofs.Settings.{numbers_there}
use Rattle.nt_command_line.proofs.Spoken.{held, reads_of, refused_of, write_is, names_by}
use Rattle.nt_command_line.proofs.Wrong.{wrong_write}
use Rattle.nt_command_line.proofs.write.write_of.Goals as goal

pub returns-in_default : goal.returns-in_default
returns-in_default c =
    wrong_write (texts c.args.words.now) c.requires (inl (refused_of (app_of c.in_ok-write_command.field-0) write_app
    (texts c.args.words.now) _ (c.in_ok-write_command.ensures.app_is ∙ write_is) c.in_default.is c.in_ok-matches.ensures.reads))

pub name_in-out-requires : goal.name_in-out-requires
name_in-out-requires c =
    operand_there (codes "write") write_rules c.in_ok-write_command.field-0 c.in-Some.matches 8 (codes "OUT")
    (own_by (codes "OUT") refl refl refl) c.in_ok-write_command.ensures refl refl
    (held (IsParsedFrom c.in_ok-write_command.field-0) _ c.in-Some.matches c.in-Some.is c.in_ok-matches.ensures.parsed)

pub name_in-schema-requires : goal.name_in-schema-requires
name_in-schema-requires c =
    operand_there (codes "write") write_rules c.in_ok-write_command.field-0 c.in-Some.matches 9 (codes "SCHEMA")
    (own_by (codes "SCHEMA") refl refl refl) c.in_ok-write_command.ensures refl refl
    (held (IsParsedFrom c.in_ok-write_command.field-0) _ c.in-Some.matches c.in-Some.is c.in_ok-matches.ensures.parsed)

pub write_params-requires : goal.write_params-requires
write_params-requires c =
    numbers_there (codes "write")
    (flag (codes "staged") ∷ number_option (codes "contexts") 1 64 ∷ operand (codes "OUT") ∷ operand (codes "SCHEMA")
    ∷ operands (codes "IN") ∷ [])
    c.in_ok-write_command.field-0 c.in-Some.matches c.in_ok-write_command.ensures
    (record { cluster = refl; page = refl; group = refl; range = refl; file = refl })
    (held (IsParsedFrom c.in_ok-write_command.field-0) _ c.in-Some.matches c.in-Some.is c.in_ok-matches.ensures.parsed)

pub contexts_in-contexts-requires : goal.contexts_in-contexts-requires
contexts_in-contexts-requires c =
    let items : c.deref.result.now ≡ c.in_ok-inputs.inputs.items = search rules in
    let apart = c.if-not-are_apart.ensures in
    let count = ap (λ (l : List (Bor (List ℕ))). length (names_of l)) items in
    let same = length-map c.in_ok-inputs.inputs.items (λ (name : Bor (List ℕ)). name.now) in
    record {
      number = number_there (codes "write") write_rules c.in_ok-write_command.field-0 c.in-Some.matches 7 1 64 (codes "contexts")
          (own_by (codes "contexts") refl refl refl) c.in_ok-write_command.ensures refl refl
          (held (IsParsedFrom c.in_ok-write_command.field-0) _ c.in-Some.matches c.in-Some.is c.in_ok-matches.ensures.parsed);
      inputs = (
        omega (arith, apart.some, count, same, c.len.ensures, c.in_ok-inputs.inputs.ok.0),
        omega (arith, apart.few, count, same, c.len.ensures, c.in_ok-inputs.inputs.ok.0),
      );
    }

pub returns-then-not-are_apart : goal.returns-then-not-are_apart
returns-then-not-are_apart c =
    let words = texts c.args.words.now in
    let read = reads_of (app_of c.in_ok-write_command.field-0) write_app words _ c.in-Some.matches
    (c.in_ok-write_command.ensures.app_is ∙ write_is) c.in-Some.is c.in_ok-matches.ensures.reads in
    let items : c.deref.result.now ≡ c.in_ok-inputs.inputs.items = search rules in
    wrong_write words c.requires (inr (record {
      out = c.name_in-out.result.now;
      schema = c.name_in-schema.result.now;
      inputs = names_of c.deref.result.now;
      names = names_by words c.in-Some.matches c.name_in-out.result.now c.name_in-schema.result.now (names_of c.deref.result.now)
          read.1 c.name_in-out.ensures c.name_in-schema.ensures (ap names_of items ∙ c.in_ok-inputs.ensures);
      clash = c.if-not-are_apart.ensures;
    }))

pub returns : goal.returns
returns c =
    let words = texts c.args.words.now in
    let read = reads_of (app_of c.in_ok-write_command.field-0) write_app words _ c.in-Some.matches
    (c.in_ok-write_command.ensures.app_is ∙ write_is) c.in-Some.is c.in_ok-matches.ensures.reads in
    let items : c.deref.result.now ≡ c.in_ok-inputs.inputs.items = search rules in
    let said : IsWrite words c.name_in-out.result.now c.name_in-schema.result.now (names_of c.in_ok-inputs.inputs.items)
    c.write_params.result = record {
      begins = c.requires;
      taken = read.0;
      names = names_by words c.in-Some.matches c.name_in-out.result.now c.name_in-schema.result.now
          (names_of c.in_ok-inputs.inputs.items) read.1 c.name_in-out.ensures c.name_in-schema.ensures c.in_ok-inputs.ensures;
      params = c.write_params.ensures words read.1;
      apart = subst (λ (l : List (Bor (List ℕ))). AreApart c.name_in-out.result.now c.name_in-schema.result.now (names_of l)) items
          c.if-not-are_apart.ensures;
    } in
    let count : c.len.result ≡ length c.in_ok-inputs.inputs.items = c.len.ensures ∙ c.in_ok-inputs.inputs.ok.0 in
    (said, subst (λ (n : ℕ). AreContextsSaid words n c.contexts_in-contexts.result) count (c.contexts_in-contexts.ensures words read.1))
