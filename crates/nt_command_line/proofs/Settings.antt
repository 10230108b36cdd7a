-- The options of a command that writes a file.
use Rattle.std.proofs.Common.{◌≡◌, ◌^◌, refl, ℕ, true, List, ◌++◌, codes}
use Rattle.clap.specs.Words.{Rule, IsParsedFrom}
use Rattle.clap.specs.declared.builder.command.Command.{Command}
use Rattle.clap.specs.declared.parser.matches.ArgMatches.{ArgMatches}
use Rattle.nt_command_line.specs.Options.{options}
use Rattle.nt_command_line.specs.Arguments.{IsCommandOf, HasNumbers, has_none}
use Rattle.nt_command_line.proofs.Found.{own_by}
use Rattle.nt_command_line.proofs.Numbers.{number_there}

-- rules that have none of the names of options with numbers
pub record HaveOtherNames (rules : List Rule) : Type 0 where
  pub cluster : has_none (codes "cluster") rules ≡ true
  pub page : has_none (codes "page") rules ≡ true
  pub group : has_none (codes "group") rules ≡ true
  pub range : has_none (codes "max-range") rules ≡ true
  pub file : has_none (codes "max-file") rules ≡ true

-- under each option with a number stands one, whatever other rules stand behind them
pub numbers_there : (name : List ℕ) (rest : List Rule) (c : Command) (m : ArgMatches) → IsCommandOf name (options ++ rest) c
    → HaveOtherNames rest → IsParsedFrom c m → HasNumbers m
numbers_there name rest c m is others parsed =
    let there = number_there name (options ++ rest) c m in
    record {
      cluster = there 0 1 1000000 (codes "cluster") (own_by (codes "cluster") refl refl refl) is refl others.cluster parsed;
      page = there 1 1 1048576 (codes "page") (own_by (codes "page") refl refl refl) is refl others.page parsed;
      group = there 2 1 10000 (codes "group") (own_by (codes "group") refl refl refl) is refl others.group parsed;
      limits = record {
        range = there 4 1024 (2 ^ 30) (codes "max-range") (own_by (codes "max-range") refl refl refl) is refl others.range parsed;
        file = there 5 1024 (2 ^ 56) (codes "max-file") (own_by (codes "max-file") refl refl refl) is refl others.file parsed;
      };
    }
