-- The words of a command line, as clap reads them.
use Rattle.std.specs.Prelude.{◌≡◌, ℕ, Bool, true, false, List, [], ◌∷◌, codes, map, slice_get, Option, Some, option_map, String}
use Rattle.std.specs.declared.alloc.Global.{Global}
use Rattle.std.specs.Option.{option_map_or}
use Rattle.std.specs.List.{list_any}
use Rattle.std.specs.String.{string_bytes}
use Rattle.std.specs.Str.{bytes_eq}
use Rattle.std.specs.Str.Parse.{digits_value, without_leading_plus}
use Rattle.clap.specs.Lexer.{usize_max}
use Rattle.clap.specs.Words.{App, Rule, new_rule, matches_of, first_of, all_of, fault_of}
use Rattle.clap.specs.Simple.{new_shape}
use Rattle.clap.specs.declared.builder.ArgAction.TheVariants.{Set, Append, SetTrue}
use Rattle.clap.specs.declared.builder.value_parser.ValueParser.TheVariants.{Unsigned}

-- each word's bytes
abbrev pub texts : List (String Global) → List (List ℕ)
texts = map string_bytes

-- an argument that is read by its place, and has to be there
abbrev pub operand : List ℕ → Rule
operand id = record (new_rule id) { required = true; action = Some Set }

-- the same of one value or more
abbrev pub operands : List ℕ → Rule
operands id = record (new_rule id) {
  required = true;
  action = Some Append;
  range = Some (record { start_inclusive = 1; end_inclusive = usize_max });
}

-- an argument that is read by its place, has to be there, and is a number from one to another
abbrev pub number_operand : List ℕ → ℕ → ℕ → Rule
number_operand id low high = record (new_rule id) { required = true; action = Some Set; parser = Some (Unsigned low high) }

-- an option whose value is a number from one to another
abbrev pub number_option : List ℕ → ℕ → ℕ → Rule
number_option id low high = record (new_rule id) { long = Some id; action = Some Set; parser = Some (Unsigned low high) }

-- an option without a value
abbrev pub flag : List ℕ → Rule
flag id = record (new_rule id) { long = Some id; action = Some SetTrue }

-- a command of these arguments, without a flag for help or for its version
abbrev pub app : List ℕ → List Rule → App
app name rules = record {
  top = record (new_shape name) {
    rules = rules;
    disable_help_flag = true;
    disable_version_flag = true;
  };
  subs = [];
}

-- `[--from A] [--count C] FILE`
abbrev pub entries_rules : List Rule
entries_rules = number_option (codes "from") 0 18446744073709551615 ∷ number_option (codes "count") 0 18446744073709551615
    ∷ operand (codes "FILE") ∷ []

-- `entries`
unfoldable pub entries_app : App
entries_app = app (codes "entries") entries_rules

-- `schema FILE`
unfoldable pub schema_app : App
schema_app = app (codes "schema") (operand (codes "FILE") ∷ [])

-- `scan`
unfoldable pub scan_app : App
scan_app = app (codes "scan") (operand (codes "FILE") ∷ [])

-- the first word
abbrev pub Begins : List (List ℕ) → List ℕ → Type 0
Begins words name = slice_get words 0 ≡ Some name

-- clap takes the words after the first, as those of this command
abbrev pub IsTaken : App → List (List ℕ) → Type 0
IsTaken a words = fault_of a words ≡ []

-- what clap finds under a name of the command
abbrev pub word_found : App → List (List ℕ) → List ℕ → Option (List ℕ)
word_found a words id = first_of id (matches_of a words)

-- all of it
abbrev pub words_found : App → List (List ℕ) → List ℕ → Option (List (List ℕ))
words_found a words id = all_of id (matches_of a words)

-- the number whose decimal digits a word has, behind a plus or not
abbrev pub number_said : List ℕ → ℕ
number_said word = digits_value 10 (without_leading_plus word)

-- the number that clap finds under the name of an option
abbrev pub number_found : App → List (List ℕ) → List ℕ → Option ℕ
number_found a words id = option_map number_said (word_found a words id)

-- clap's word for a flag that is there
abbrev pub is_true_word : Option (List ℕ) → Bool
is_true_word word = option_map_or (λ w. bytes_eq w (codes "true")) word false

-- clap finds the flag of this name
abbrev pub is_flag_found : App → List (List ℕ) → List ℕ → Bool
is_flag_found a words id = is_true_word (word_found a words id)

-- a name is one of some names
abbrev pub is_among : List ℕ → List (List ℕ) → Bool
is_among name names = list_any (λ other. bytes_eq other name) names

-- `entries [--from A] [--count C] FILE`, as clap reads it: from and count are none where the words don't say them
pub record IsEntries (words : List (List ℕ)) (from count : Option ℕ) (file : List ℕ) : Type 0 where
  pub begins : Begins words (codes "entries")
  pub taken : IsTaken entries_app words
  pub from_is : from ≡ number_found entries_app words (codes "from")
  pub count_is : count ≡ number_found entries_app words (codes "count")
  pub file_is : word_found entries_app words (codes "FILE") ≡ Some file

-- `schema FILE`, as clap reads it
pub record IsSchemaCommand (words : List (List ℕ)) (file : List ℕ) : Type 0 where
  pub begins : Begins words (codes "schema")
  pub taken : IsTaken schema_app words
  pub file_is : word_found schema_app words (codes "FILE") ≡ Some file

-- `scan FILE`, as clap reads it
pub record IsScan (words : List (List ℕ)) (file : List ℕ) : Type 0 where
  pub begins : Begins words (codes "scan")
  pub taken : IsTaken scan_app words
  pub file_is : word_found scan_app words (codes "FILE") ≡ Some file
