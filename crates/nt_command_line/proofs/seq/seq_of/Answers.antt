use Rattle.std.proofs.Common.{◌∙◌, sym, codes, refl, inl, inr, [], ◌∷◌}
use Rattle.clap.specs.Words.{app_of, IsParsedFrom}
use Rattle.nt_command_line.specs.CommandLine.{texts, operand}
use Rattle.nt_command_line.specs.SeqWords.{seq_app, seq_rules}
use Rattle.nt_command_line.proofs.Found.{own_by, operand_there}
use Rattle.nt_command_line.proofs.Settings.{numbers_there}
use Rattle.nt_command_line.proofs.Spoken.{held, reads_of, refused_of, seq_is, seq_names_by}
use Rattle.nt_command_line.proofs.Wrong.{wrong_seq}
use Rattle.nt_command_line.proofs.seq.seq_of.Goals as goal

pub returns-in_default : goal.returns-in_default
returns-in_default c =
    wrong_seq (texts c.args.words.now) c.requires (inl (refused_of (app_of c.in_ok-seq_command.field-0) seq_app
    (texts c.args.words.now) _ (c.in_ok-seq_command.ensures.app_is ∙ seq_is) c.in_default.is c.in_ok-matches.ensures.reads))

pub name_in-out-requires : goal.name_in-out-requires
name_in-out-requires c =
    operand_there (codes "seq") seq_rules c.in_ok-seq_command.field-0 c.in-Some.matches 6 (codes "OUT")
    (own_by (codes "OUT") refl refl refl) c.in_ok-seq_command.ensures refl refl
    (held (IsParsedFrom c.in_ok-seq_command.field-0) _ c.in-Some.matches c.in-Some.is c.in_ok-matches.ensures.parsed)

pub name_in-schema-requires : goal.name_in-schema-requires
name_in-schema-requires c =
    operand_there (codes "seq") seq_rules c.in_ok-seq_command.field-0 c.in-Some.matches 7 (codes "SCHEMA")
    (own_by (codes "SCHEMA") refl refl refl) c.in_ok-seq_command.ensures refl refl
    (held (IsParsedFrom c.in_ok-seq_command.field-0) _ c.in-Some.matches c.in-Some.is c.in_ok-matches.ensures.parsed)

pub name_in-input-requires : goal.name_in-input-requires
name_in-input-requires c =
    operand_there (codes "seq") seq_rules c.in_ok-seq_command.field-0 c.in-Some.matches 8 (codes "IN")
    (own_by (codes "IN") refl refl refl) c.in_ok-seq_command.ensures refl refl
    (held (IsParsedFrom c.in_ok-seq_command.field-0) _ c.in-Some.matches c.in-Some.is c.in_ok-matches.ensures.parsed)

pub params_in-requires : goal.params_in-requires
params_in-requires c =
    numbers_there (codes "seq") (operand (codes "OUT") ∷ operand (codes "SCHEMA") ∷ operand (codes "IN") ∷ [])
    c.in_ok-seq_command.field-0 c.in-Some.matches c.in_ok-seq_command.ensures
    (record { cluster = refl; page = refl; group = refl; range = refl; file = refl })
    (held (IsParsedFrom c.in_ok-seq_command.field-0) _ c.in-Some.matches c.in-Some.is c.in_ok-matches.ensures.parsed)

pub returns-then-is_among : goal.returns-then-is_among
returns-then-is_among c =
    let words = texts c.args.words.now in
    let read = reads_of (app_of c.in_ok-seq_command.field-0) seq_app words _ c.in-Some.matches
    (c.in_ok-seq_command.ensures.app_is ∙ seq_is) c.in-Some.is c.in_ok-matches.ensures.reads in
    wrong_seq words c.requires (inr (record {
      out = c.name_in-out.result.now;
      schema = c.name_in-schema.result.now;
      input = c.name_in-input.result.now;
      names = seq_names_by words c.in-Some.matches c.name_in-out.result.now c.name_in-schema.result.now c.name_in-input.result.now
          read.1 c.name_in-out.ensures c.name_in-schema.ensures c.name_in-input.ensures;
      clash = sym c.is_among.ensures ∙ c.if-is_among.true;
    }))

pub returns : goal.returns
returns c =
    let words = texts c.args.words.now in
    let read = reads_of (app_of c.in_ok-seq_command.field-0) seq_app words _ c.in-Some.matches
    (c.in_ok-seq_command.ensures.app_is ∙ seq_is) c.in-Some.is c.in_ok-matches.ensures.reads in
    record {
      begins = c.requires;
      taken = read.0;
      names = seq_names_by words c.in-Some.matches c.name_in-out.result.now c.name_in-schema.result.now c.name_in-input.result.now
          read.1 c.name_in-out.ensures c.name_in-schema.ensures c.name_in-input.ensures;
      params = c.params_in.ensures seq_app words read.1;
      apart = sym c.is_among.ensures ∙ c.if-is_among.false;
    }
