-- The words of `merge`: names, and how the file is written.
use Rattle.std.specs.Prelude.{◌≡◌, ◌⊎◌, ℕ, ◌≤◌, ◌^◌, false, List, [], ◌∷◌, codes, length, Some, unwrap_or}
use Rattle.clap.specs.Words.{App, Rule}
use Rattle.nt_book.specs.declared.params.Params.{Params}
use Rattle.nt_command_line.specs.CommandLine.{operand, operands, number_option, app, Begins, IsTaken, word_found, words_found, is_among}
use Rattle.nt_command_line.specs.Options.{number_or, AreLimitsSaid}

-- `[--group G] [--max-range B] [--max-file B] OUT FILE...`
abbrev pub merge_rules : List Rule
merge_rules =
    number_option (codes "group") 1 10000
    ∷ number_option (codes "max-range") 1024 (2 ^ 30)
    ∷ number_option (codes "max-file") 1024 (2 ^ 56)
    ∷ operand (codes "OUT")
    ∷ operands (codes "FILE")
    ∷ []

-- `merge`
unfoldable pub merge_app : App
merge_app = app (codes "merge") merge_rules

-- the names of `merge`, as clap reads them
pub record NamesOfMerge (words : List (List ℕ)) (out : List ℕ) (files : List (List ℕ)) : Type 0 where
  pub out_is : word_found merge_app words (codes "OUT") ≡ Some out
  pub files_are : files ≡ unwrap_or (words_found merge_app words (codes "FILE")) []

-- there are 1 to 64 files, and OUT is none of them
pub record CanBeMerged (out : List ℕ) (files : List (List ℕ)) : Type 0 where
  pub some : 1 ≤ length files
  pub few : length files ≤ 64
  pub apart : is_among out files ≡ false

-- how the file is written: 1000 clusters a group, where the words don't say it, within the limits that they say; cluster, page and coding
-- are those that `write` has where no words say them, since pages are copied as they are
pub record AreMergeParams (words : List (List ℕ)) (p : Params) : Type 0 where
  pub cluster : p.cluster ≡ 10000
  pub page : p.page ≡ 4096
  pub group : p.group ≡ number_or merge_app words (codes "group") 1000
  pub plain : p.plain ≡ false
  pub staged : p.staged ≡ false
  pub limits : AreLimitsSaid merge_app words p.limits

-- `merge ..`, as clap reads it
pub record IsMerge (words : List (List ℕ)) (out : List ℕ) (files : List (List ℕ)) (p : Params) : Type 0 where
  pub begins : Begins words (codes "merge")
  pub taken : IsTaken merge_app words
  pub names : NamesOfMerge words out files
  pub params : AreMergeParams words p
  pub can : CanBeMerged out files

-- there are no files or more than 64, or OUT is one of them
pub record MergeClashes (words : List (List ℕ)) : Type 0 where
  pub out : List ℕ
  pub files : List (List ℕ)
  pub names : NamesOfMerge words out files
  pub clash : CanBeMerged out files → ⊥

-- why the words of `merge` are wrong
abbrev pub IsWrongMerge : List (List ℕ) → Type 0
IsWrongMerge words = (IsTaken merge_app words → ⊥) ⊎ MergeClashes words
