-- The words of `write`: names, and how the file is written.
use Rattle.std.specs.Prelude.{◌≡◌, ◌⊎◌, ℕ, ◌≤◌, false, List, [], ◌∷◌, ◌++◌, codes, length, Some, unwrap_or}
use Rattle.clap.specs.Words.{App, Rule}
use Rattle.nt_book.specs.declared.params.Params.{Params}
use Rattle.nt_command_line.specs.CommandLine.{operand, operands, number_option, flag, app, Begins, IsTaken, word_found, words_found}
use Rattle.nt_command_line.specs.CommandLine.{is_flag_found, is_among}
use Rattle.nt_command_line.specs.Options.{options, number_or, AreParamsSaid}

-- `[--staged] [--contexts K] OUT SCHEMA IN...` behind them
abbrev pub write_rules : List Rule
write_rules =
    options ++ flag (codes "staged") ∷ number_option (codes "contexts") 1 64 ∷ operand (codes "OUT") ∷ operand (codes "SCHEMA")
    ∷ operands (codes "IN") ∷ []

-- `write`
unfoldable pub write_app : App
write_app = app (codes "write") write_rules

-- the names of `write`, as clap reads them
pub record NamesOfWrite (words : List (List ℕ)) (out schema : List ℕ) (inputs : List (List ℕ)) : Type 0 where
  pub out_is : word_found write_app words (codes "OUT") ≡ Some out
  pub schema_is : word_found write_app words (codes "SCHEMA") ≡ Some schema
  pub inputs_are : inputs ≡ unwrap_or (words_found write_app words (codes "IN")) []

-- how the file is written, as clap reads it: clusters are staged exactly where `--staged` stands in the words
abbrev pub AreWriteParams : List (List ℕ) → Params → Type 0
AreWriteParams words p = AreParamsSaid write_app words (is_flag_found write_app words (codes "staged")) p

-- there are 1 to 64 inputs, and OUT isn't the name of a text that is read
pub record AreApart (out schema : List ℕ) (inputs : List (List ℕ)) : Type 0 where
  pub some : 1 ≤ length inputs
  pub few : length inputs ≤ 64
  pub apart : is_among out (schema ∷ inputs) ≡ false

-- `write ..`, as clap reads it
pub record IsWrite (words : List (List ℕ)) (out schema : List ℕ) (inputs : List (List ℕ)) (p : Params) : Type 0 where
  pub begins : Begins words (codes "write")
  pub taken : IsTaken write_app words
  pub names : NamesOfWrite words out schema inputs
  pub params : AreWriteParams words p
  pub apart : AreApart out schema inputs

-- so many contexts run beside each other at most: as many as there are inputs, where the words don't say it
pub record AreContextsSaid (words : List (List ℕ)) (inputs contexts : ℕ) : Type 0 where
  pub number : contexts ≡ number_or write_app words (codes "contexts") inputs
  pub some : 1 ≤ contexts
  pub few : contexts ≤ 64

-- there are no inputs or more than 64, or OUT has the name of a text that is read
pub record Clashes (words : List (List ℕ)) : Type 0 where
  pub out : List ℕ
  pub schema : List ℕ
  pub inputs : List (List ℕ)
  pub names : NamesOfWrite words out schema inputs
  pub clash : AreApart out schema inputs → ⊥

-- why the words of `write` are wrong
abbrev pub IsWrongWrite : List (List ℕ) → Type 0
IsWrongWrite words = (IsTaken write_app words → ⊥) ⊎ Clashes words
