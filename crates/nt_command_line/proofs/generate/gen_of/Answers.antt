use Rattle.std.proofs.Common.{◌≡◌, ◌∙◌, ap, sym, codes, refl, ℕ, true, false, arith, Some}
use Rattle.clap.specs.Words.{app_of, IsParsedFrom}
use Rattle.clap.specs.declared.builder.command.Command.{Command}
use Rattle.clap.specs.declared.parser.matches.ArgMatches.{ArgMatches}
use Rattle.nt_draws.specs.Making.{max_contexts, max_events, max_seed}
use Rattle.nt_command_line.specs.CommandLine.{texts}
use Rattle.nt_command_line.specs.GenWords.{gen_app, gen_rules}
use Rattle.nt_command_line.specs.Arguments.{IsCommandOf, HasNumber, IsNumberThere}
use Rattle.nt_command_line.proofs.Found.{own_by, operand_there}
use Rattle.nt_command_line.proofs.Numbers.{operand_number_there}
use Rattle.nt_command_line.proofs.Spoken.{held, reads_of, refused_of, gen_is, found_by, number_by}
use Rattle.nt_command_line.proofs.Wrong.{wrong_gen}
use Rattle.nt_command_line.proofs.generate.gen_of.Goals as goal

-- what stands under the names of the numbers
record HasNumbersOfGen (m : ArgMatches) : Type 0 where
  contexts : HasNumber 1 max_contexts m (codes "C") × IsNumberThere m (codes "C")
  events : HasNumber 0 max_events m (codes "E") × IsNumberThere m (codes "E")
  seed : HasNumber 1 max_seed m (codes "SEED") × IsNumberThere m (codes "SEED")

numbers_of_gen : (c : Command) (m : ArgMatches) → IsCommandOf (codes "gen") gen_rules c → IsParsedFrom c m → HasNumbersOfGen m
numbers_of_gen c m is parsed =
    let there = operand_number_there (codes "gen") gen_rules c m in
    record {
      contexts = there 0 1 max_contexts (codes "C") (own_by (codes "C") refl refl refl) is refl refl parsed;
      events = there 1 0 max_events (codes "E") (own_by (codes "E") refl refl refl) is refl refl parsed;
      seed = there 2 1 max_seed (codes "SEED") (own_by (codes "SEED") refl refl refl) is refl refl parsed;
    }

pub returns-in_default : goal.returns-in_default
returns-in_default c =
    wrong_gen (texts c.args.words.now) c.requires (refused_of (app_of c.in_ok-gen_command.field-0) gen_app
    (texts c.args.words.now) _ (c.in_ok-gen_command.ensures.app_is ∙ gen_is) c.in_default.is c.in_ok-matches.ensures.reads)

pub operand_number-contexts-requires : goal.operand_number-contexts-requires
operand_number-contexts-requires c =
    let has = numbers_of_gen c.in_ok-gen_command.field-0 c.in-Some.matches c.in_ok-gen_command.ensures
    (held (IsParsedFrom c.in_ok-gen_command.field-0) _ c.in-Some.matches c.in-Some.is c.in_ok-matches.ensures.parsed) in
    has.contexts.1

pub overflow_cast-contexts : goal.overflow_cast-contexts
overflow_cast-contexts c =
    let has = numbers_of_gen c.in_ok-gen_command.field-0 c.in-Some.matches c.in_ok-gen_command.ensures
    (held (IsParsedFrom c.in_ok-gen_command.field-0) _ c.in-Some.matches c.in-Some.is c.in_ok-matches.ensures.parsed) in
    let within = (c.operand_number-contexts.ensures 1 max_contexts has.contexts.0).1 in
    omega arith

pub operand_number-events-requires : goal.operand_number-events-requires
operand_number-events-requires c =
    let has = numbers_of_gen c.in_ok-gen_command.field-0 c.in-Some.matches c.in_ok-gen_command.ensures
    (held (IsParsedFrom c.in_ok-gen_command.field-0) _ c.in-Some.matches c.in-Some.is c.in_ok-matches.ensures.parsed) in
    has.events.1

pub overflow_cast-events : goal.overflow_cast-events
overflow_cast-events c =
    let has = numbers_of_gen c.in_ok-gen_command.field-0 c.in-Some.matches c.in_ok-gen_command.ensures
    (held (IsParsedFrom c.in_ok-gen_command.field-0) _ c.in-Some.matches c.in-Some.is c.in_ok-matches.ensures.parsed) in
    let within = (c.operand_number-events.ensures 0 max_events has.events.0).1 in
    omega arith

pub operand_number-seed-requires : goal.operand_number-seed-requires
operand_number-seed-requires c =
    let has = numbers_of_gen c.in_ok-gen_command.field-0 c.in-Some.matches c.in_ok-gen_command.ensures
    (held (IsParsedFrom c.in_ok-gen_command.field-0) _ c.in-Some.matches c.in-Some.is c.in_ok-matches.ensures.parsed) in
    has.seed.1

pub overflow_cast-seed : goal.overflow_cast-seed
overflow_cast-seed c =
    let has = numbers_of_gen c.in_ok-gen_command.field-0 c.in-Some.matches c.in_ok-gen_command.ensures
    (held (IsParsedFrom c.in_ok-gen_command.field-0) _ c.in-Some.matches c.in-Some.is c.in_ok-matches.ensures.parsed) in
    let within = (c.operand_number-seed.ensures 1 max_seed has.seed.0).1 in
    omega arith

pub name_in-requires : goal.name_in-requires
name_in-requires c =
    operand_there (codes "gen") gen_rules c.in_ok-gen_command.field-0 c.in-Some.matches 3 (codes "OUT")
    (own_by (codes "OUT") refl refl refl) c.in_ok-gen_command.ensures refl refl
    (held (IsParsedFrom c.in_ok-gen_command.field-0) _ c.in-Some.matches c.in-Some.is c.in_ok-matches.ensures.parsed)

pub unreachable-requires : goal.unreachable-requires
unreachable-requires c =
    let has = numbers_of_gen c.in_ok-gen_command.field-0 c.in-Some.matches c.in_ok-gen_command.ensures
    (held (IsParsedFrom c.in_ok-gen_command.field-0) _ c.in-Some.matches c.in-Some.is c.in_ok-matches.ensures.parsed) in
    let contexts = (c.operand_number-contexts.ensures 1 max_contexts has.contexts.0).1 in
    let events = (c.operand_number-events.ensures 0 max_events has.events.0).1.1 in
    let seed = (c.operand_number-seed.ensures 1 max_seed has.seed.0).1.1 in
    let bad : false ≡ true = c.in_default-new.ensures.exact.1 (contexts, events, seed) in
    cc

pub returns : goal.returns
returns c =
    let words = texts c.args.words.now in
    let m = c.in-Some.matches in
    let has = numbers_of_gen c.in_ok-gen_command.field-0 c.in-Some.matches c.in_ok-gen_command.ensures
    (held (IsParsedFrom c.in_ok-gen_command.field-0) _ c.in-Some.matches c.in-Some.is c.in_ok-matches.ensures.parsed) in
    let read = reads_of (app_of c.in_ok-gen_command.field-0) gen_app words _ c.in-Some.matches
    (c.in_ok-gen_command.ensures.app_is ∙ gen_is) c.in-Some.is c.in_ok-matches.ensures.reads in
    record {
      begins = c.requires;
      taken = read.0;
      contexts_is = sym (number_by gen_app words m (codes "C") (Some c.operand_number-contexts.result) read.1
          (c.operand_number-contexts.ensures 1 max_contexts has.contexts.0).0)
          ∙ ap (λ (n : ℕ). Some n) (sym c.in-Some-new.ensures.numbers.0);
      events_is = sym (number_by gen_app words m (codes "E") (Some c.operand_number-events.result) read.1
          (c.operand_number-events.ensures 0 max_events has.events.0).0)
          ∙ ap (λ (n : ℕ). Some n) (sym c.in-Some-new.ensures.numbers.1);
      seed_is = sym (number_by gen_app words m (codes "SEED") (Some c.operand_number-seed.result) read.1
          (c.operand_number-seed.ensures 1 max_seed has.seed.0).0)
          ∙ ap (λ (n : ℕ). Some n) (sym c.in-Some-new.ensures.numbers.2);
      out_is = found_by gen_app words m (codes "OUT") c.name_in.result.now read.1 c.name_in.ensures;
    }
