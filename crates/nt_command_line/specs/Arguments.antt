-- Arguments and commands, as clap keeps them, and what it finds in words.
use Rattle.std.specs.Prelude.{◌≡◌, ⊤, ℕ, ◌≤◌, ◌^◌, Bool, false, true, ◌&&◌, not, zero, suc, List, [], ◌∷◌, codes, is_some, option_map}
use Rattle.std.specs.Prelude.{IfSome, Option, Some, None}
use Rattle.std.specs.Str.{bytes_eq}
use Rattle.clap.specs.Words.{App, Rule, app_of, rule_of, rows_of, found_of, first_value, one_text, args_of, matches_of, IsPlain, IsPlainArg}
use Rattle.clap.specs.Words.{IsUnsignedIn}
use Rattle.clap.specs.Facts.{least_values, unwrap_or_range}
use Rattle.clap.specs.declared.builder.ArgAction.{ArgAction}
use Rattle.clap.specs.declared.builder.ArgAction.TheVariants.{Set}
use Rattle.clap.specs.declared.builder.value_parser.ValueParser.{ValueParser}
use Rattle.clap.specs.declared.builder.arg.Arg.{Arg}
use Rattle.clap.specs.declared.builder.command.Command.{Command as ClapCommand}
use Rattle.clap.specs.declared.builder.command.Command.TheViews.{out-Command as fields_of}
use Rattle.clap.specs.declared.parser.matches.ArgMatches.{ArgMatches}
use Rattle.nt_command_line.specs.CommandLine.{app, number_said, IsTaken}

-- an argument of this rule, which excludes no other
pub record IsArg (rule : Rule) (a : Arg) : Type 0 where
  pub rule_is : rule_of a ≡ rule
  pub plain : IsPlainArg a
  pub local : a.global ≡ false
  pub whole : a.val_delim ≡ None

-- an argument that a command keeps is of this rule
pub record IsKeptArg (rule : Rule) (a : Arg) : Type 0 where
  pub id : a.id.now ≡ rule.id
  pub required : a.required ≡ rule.required
  pub action : (x : ArgAction) → rule.action ≡ Some x → a.action ≡ Some x
  pub parser : (p : ValueParser) → rule.parser ≡ Some p → a.value_parser ≡ Some p
  pub whole : a.val_delim ≡ None
  pub least : rule.action ≡ Some Set → 1 ≤ (unwrap_or_range rule.range).start_inclusive → 1 ≤ least_values a

-- the arguments that a command keeps are of these rules
abbrev pub AreKept : List Rule → List Arg → Type 0
AreKept [] [] = ⊤
AreKept [] (a ∷ args) = ⊥
AreKept (rule ∷ rules) [] = ⊥
AreKept (rule ∷ rules) (a ∷ args) = IsKeptArg rule a × AreKept rules args

-- the command of this name and of arguments of these rules
pub record IsCommandOf (name : List ℕ) (rules : List Rule) (c : ClapCommand) : Type 0 where
  pub app_is : app_of c ≡ app name rules
  pub args : AreKept rules (args_of c)
  pub plain : IsPlain c
  pub globals : (fields_of c).has_globals ≡ false
  pub negates : (fields_of c).subcommand_negates_reqs ≡ false

-- no rule has this name
abbrev pub has_none : List ℕ → List Rule → Bool
has_none id [] = true
has_none id (rule ∷ rules) = not (bytes_eq rule.id id) && has_none id rules

-- no rule but the one at this place has this name
abbrev pub is_only_at : ℕ → List ℕ → List Rule → Bool
is_only_at k id [] = true
is_only_at zero id (rule ∷ rules) = has_none id rules
is_only_at (suc k) id (rule ∷ rules) = not (bytes_eq rule.id id) && is_only_at k id rules

-- something stands under this name
abbrev pub HasMatch : ArgMatches → List ℕ → Type 0
HasMatch m id = is_some (first_value (found_of m) id) ≡ true

-- what stands under this name, if something does, is a number from one to another
abbrev pub HasNumber : ℕ → ℕ → ArgMatches → List ℕ → Type 0
HasNumber low high m id =
    (word : List ℕ) → first_value (found_of m) id ≡ Some word
    → (one_text (found_of m) id ≡ Some word) × IsUnsignedIn low high word

-- a word stands under this name, and is a number
pub record IsNumberThere (m : ArgMatches) (id : List ℕ) : Type 0 where
  pub low : ℕ
  pub high : ℕ
  pub number : HasNumber low high m id
  pub there : HasMatch m id

-- a number that was found, in its range, or none where no word was
abbrev pub IsNumberFound : ℕ → ℕ → Option (List ℕ) → Option ℕ → Type 0
IsNumberFound low high word number = (number ≡ option_map number_said word) × IfSome number (λ n. (low ≤ n) × (n ≤ high))

-- under the limits of a file that is written stand numbers
pub record HasLimits (m : ArgMatches) : Type 0 where
  pub range : HasNumber 1024 (2 ^ 30) m (codes "max-range")
  pub file : HasNumber 1024 (2 ^ 56) m (codes "max-file")

-- under each option of a command that writes a file, if it has a number, stands one
pub record HasNumbers (m : ArgMatches) : Type 0 where
  pub cluster : HasNumber 1 1000000 m (codes "cluster")
  pub page : HasNumber 1 1048576 m (codes "page")
  pub group : HasNumber 1 10000 m (codes "group")
  pub limits : HasLimits m

-- clap takes the words, and these are its matches; or it doesn't
abbrev pub ReadsWords : App → List (List ℕ) → Option ArgMatches → Type 0
ReadsWords a words None = IsTaken a words → ⊥
ReadsWords a words (Some m) = IsTaken a words × (rows_of (found_of m) ≡ matches_of a words)
