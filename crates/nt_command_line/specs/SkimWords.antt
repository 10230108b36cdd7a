-- The words of `skim`: names, the test of a field, and how the file is written.
use Rattle.std.specs.Prelude.{⊤, ◌≡◌, ◌⊎◌, ℕ, ◌≤◌, ◌^◌, ◌-◌, ℤ, pos, neg_ℤ, int_le, true, false, List, [], ◌∷◌, ◌++◌, codes, length}
use Rattle.std.specs.Prelude.{Option, Some, None, unwrap_or}
use Rattle.std.specs.Fmt.{signed_decimal}
use Rattle.clap.specs.Words.{App, Rule, new_rule}
use Rattle.clap.specs.declared.builder.ArgAction.TheVariants.{Set}
use Rattle.nt_book.specs.declared.params.Params.{Params}
use Rattle.nt_command_line.specs.declared.skim.TestWords.{TestWords}
use Rattle.nt_command_line.specs.CommandLine.{operand, operands, app, Begins, IsTaken, word_found, words_found, is_among}
use Rattle.nt_command_line.specs.Options.{options, AreParamsSaid}

-- an option whose value is any text
abbrev pub text_option : List ℕ → Rule
text_option id = record (new_rule id) { long = Some id; action = Some Set }

-- `[--where NAME] [--least A] [--greatest B] OUT FILE NAME...` behind the options of `write`
abbrev pub skim_rules : List Rule
skim_rules = options ++ text_option (codes "where") ∷ text_option (codes "least") ∷ text_option (codes "greatest")
    ∷ operand (codes "OUT") ∷ operand (codes "FILE") ∷ operands (codes "NAME") ∷ []

-- `skim`
unfoldable pub skim_app : App
skim_app = app (codes "skim") skim_rules

-- the least and the greatest number that a field may have: -2^63 and 2^64 - 1
abbrev pub least_number : ℤ
least_number = neg_ℤ (pos (2 ^ 63))

abbrev pub greatest_number : ℤ
greatest_number = pos (2 ^ 64 - 1)

-- a word is the decimal of this number, behind `-` where it is negative, and a field may have it: there is no plus, no leading zero
-- and no `-0`
pub record IsBound (word : List ℕ) (z : ℤ) : Type 0 where
  pub spelled : word ≡ signed_decimal z
  pub low : int_le least_number z ≡ true
  pub high : int_le z greatest_number ≡ true

-- the bound that a word says, or this one where there is no word
abbrev pub IsBoundSaid : Option (List ℕ) → ℤ → ℤ → Type 0
IsBoundSaid None other z = z ≡ other
IsBoundSaid (Some word) other z = IsBound word z

-- the number in the field of this name lies from the least to the greatest, these included
pub record SaidTest : Type 0 where
  pub name : List ℕ
  pub least : ℤ
  pub greatest : ℤ

-- what the words of a test stand for
abbrev pub said_test : TestWords → SaidTest
said_test t = record { name = t.name.now; least = t.least; greatest = t.greatest }

-- the test that is said by the name of a field, a least and a greatest number: none without a name, and then no bound stands alone
abbrev pub IsTestSaid : Option (List ℕ) → Option (List ℕ) → Option (List ℕ) → Option SaidTest → Type 0
IsTestSaid None None None None = ⊤
IsTestSaid (Some name) least greatest (Some t) =
    (t.name ≡ name) × IsBoundSaid least least_number t.least × IsBoundSaid greatest greatest_number t.greatest
IsTestSaid name least greatest test = ⊥

-- the test of `skim`, as clap reads it
abbrev pub IsTestOfSkim : List (List ℕ) → Option SaidTest → Type 0
IsTestOfSkim words test =
    IsTestSaid (word_found skim_app words (codes "where")) (word_found skim_app words (codes "least"))
    (word_found skim_app words (codes "greatest")) test

-- the names of `skim`, as clap reads them
pub record NamesOfSkim (words : List (List ℕ)) (out file : List ℕ) (names : List (List ℕ)) : Type 0 where
  pub out_is : word_found skim_app words (codes "OUT") ≡ Some out
  pub file_is : word_found skim_app words (codes "FILE") ≡ Some file
  pub names_are : names ≡ unwrap_or (words_found skim_app words (codes "NAME")) []

-- a field is named, and OUT isn't the file that is read
pub record CanBeSkimmed (out file : List ℕ) (names : List (List ℕ)) : Type 0 where
  pub some : 1 ≤ length names
  pub apart : is_among out (file ∷ []) ≡ false

-- `skim ..`, as clap reads it; no cluster is staged
pub record IsSkim (words : List (List ℕ)) (out file : List ℕ) (names : List (List ℕ)) (test : Option SaidTest) (p : Params) : Type 0 where
  pub begins : Begins words (codes "skim")
  pub taken : IsTaken skim_app words
  pub names_are : NamesOfSkim words out file names
  pub test_is : IsTestOfSkim words test
  pub params : AreParamsSaid skim_app words false p
  pub can : CanBeSkimmed out file names

-- no field is named, or OUT is the file that is read
pub record SkimClashes (words : List (List ℕ)) : Type 0 where
  pub out : List ℕ
  pub file : List ℕ
  pub names : List (List ℕ)
  pub names_are : NamesOfSkim words out file names
  pub clash : CanBeSkimmed out file names → ⊥

-- why the words of `skim` are wrong: clap refuses them, a bound is no such number or stands without the name of a field, or the names clash
abbrev pub IsWrongSkim : List (List ℕ) → Type 0
IsWrongSkim words =
    (IsTaken skim_app words → ⊥) ⊎ (((test : Option SaidTest) → IsTestOfSkim words test → ⊥) ⊎ SkimClashes words)
