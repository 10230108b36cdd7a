-- The words of `seq`: names, and how the file is written.
use Rattle.std.specs.Prelude.{◌≡◌, ◌⊎◌, ℕ, true, false, List, [], ◌∷◌, ◌++◌, codes, Some}
use Rattle.clap.specs.Words.{App, Rule}
use Rattle.nt_book.specs.declared.params.Params.{Params}
use Rattle.nt_command_line.specs.CommandLine.{operand, app, Begins, IsTaken, word_found, is_among}
use Rattle.nt_command_line.specs.Options.{options, AreParamsSaid}

-- `OUT SCHEMA IN` behind the options of `write`
abbrev pub seq_rules : List Rule
seq_rules = options ++ operand (codes "OUT") ∷ operand (codes "SCHEMA") ∷ operand (codes "IN") ∷ []

-- `seq`
unfoldable pub seq_app : App
seq_app = app (codes "seq") seq_rules

-- the names of `seq`, as clap reads them
pub record NamesOfSeq (words : List (List ℕ)) (out schema input : List ℕ) : Type 0 where
  pub out_is : word_found seq_app words (codes "OUT") ≡ Some out
  pub schema_is : word_found seq_app words (codes "SCHEMA") ≡ Some schema
  pub input_is : word_found seq_app words (codes "IN") ≡ Some input

-- `seq ..`, as clap reads it, where OUT isn't the name of a text that is read; no cluster is staged
pub record IsSeq (words : List (List ℕ)) (out schema input : List ℕ) (p : Params) : Type 0 where
  pub begins : Begins words (codes "seq")
  pub taken : IsTaken seq_app words
  pub names : NamesOfSeq words out schema input
  pub params : AreParamsSaid seq_app words false p
  pub apart : is_among out (schema ∷ input ∷ []) ≡ false

-- OUT has the name of a text that is read
pub record SeqClashes (words : List (List ℕ)) : Type 0 where
  pub out : List ℕ
  pub schema : List ℕ
  pub input : List ℕ
  pub names : NamesOfSeq words out schema input
  pub clash : is_among out (schema ∷ input ∷ []) ≡ true

-- why the words of `seq` are wrong
abbrev pub IsWrongSeq : List (List ℕ) → Type 0
IsWrongSeq words = (IsTaken seq_app words → ⊥) ⊎ SeqClashes words
