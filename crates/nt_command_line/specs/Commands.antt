-- What words say as a command.
use Rattle.std.specs.Prelude.{◌⊎◌, ℕ, List, map, length, codes, Option, Some, None, option_map}
use Rattle.std.specs.Borrow.{Bor}
use Rattle.nt_book.specs.declared.params.Params.{Params}
use Rattle.nt_draws.specs.declared.making.Making.{Making}
use Rattle.nt_command_line.specs.declared.command.Parallel.{Parallel}
use Rattle.nt_command_line.specs.declared.command.Parallel.TheVariants.{Write, Gen, Scan}
use Rattle.nt_command_line.specs.declared.command.Alone.{Alone}
use Rattle.nt_command_line.specs.declared.command.Alone.TheVariants.{Seq, Skim, Merge, Entries, Schema}
use Rattle.nt_command_line.specs.CommandLine.{entries_app, schema_app, scan_app, Begins, IsTaken, IsEntries, IsSchemaCommand, IsScan}
use Rattle.nt_command_line.specs.WriteWords.{IsWrite, IsWrongWrite, AreContextsSaid}
use Rattle.nt_command_line.specs.SeqWords.{IsSeq, IsWrongSeq}
use Rattle.nt_command_line.specs.SkimWords.{SaidTest, said_test, IsSkim, IsWrongSkim}
use Rattle.nt_command_line.specs.MergeWords.{IsMerge, IsWrongMerge}
use Rattle.nt_command_line.specs.GenWords.{gen_app, IsGen}

-- the names that were found
abbrev pub names_of : List (Bor (List ℕ)) → List (List ℕ)
names_of = map (λ name. name.now)

-- no command has these words
pub record IsNoCommand (words : List (List ℕ)) : Type 0 where
  pub no_write : (out schema : List ℕ) (inputs : List (List ℕ)) (p : Params) → IsWrite words out schema inputs p → ⊥
  pub no_seq : (out schema input : List ℕ) (p : Params) → IsSeq words out schema input p → ⊥
  pub no_skim : (out file : List ℕ) (names : List (List ℕ)) (test : Option SaidTest) (p : Params) → IsSkim words out file names test p → ⊥
  pub no_merge : (out : List ℕ) (files : List (List ℕ)) (p : Params) → IsMerge words out files p → ⊥
  pub no_gen : (m : Making) (out : List ℕ) → IsGen words m out → ⊥
  pub no_entries : (from count : Option ℕ) (file : List ℕ) → IsEntries words from count file → ⊥
  pub no_schema : (file : List ℕ) → IsSchemaCommand words file → ⊥
  pub no_scan : (file : List ℕ) → IsScan words file → ⊥

-- why words are no command: the first is none, clap refuses those after it, those of `write` or `merge` have no or too many inputs, those
-- of `write`, `seq`, `skim` or `merge` have OUT among the names of what is read, or a bound of `skim` is none
pub record IsWrong (words : List (List ℕ)) : Type 0 where
  pub write : Begins words (codes "write") → IsWrongWrite words
  pub seq : Begins words (codes "seq") → IsWrongSeq words
  pub skim : Begins words (codes "skim") → IsWrongSkim words
  pub merge : Begins words (codes "merge") → IsWrongMerge words
  pub gen : Begins words (codes "gen") → IsTaken gen_app words → ⊥
  pub entries : Begins words (codes "entries") → IsTaken entries_app words → ⊥
  pub schema : Begins words (codes "schema") → IsTaken schema_app words → ⊥
  pub scan : Begins words (codes "scan") → IsTaken scan_app words → ⊥

-- the first word is that of a command that starts threads
abbrev pub NeedsThreads : List (List ℕ) → Type 0
NeedsThreads words = Begins words (codes "write") ⊎ Begins words (codes "gen") ⊎ Begins words (codes "scan")

-- the words say this command, which starts threads, or are wrong
abbrev pub SaysParallel : List (List ℕ) → Option Parallel → Type 0
SaysParallel words (Some (Write w)) =
    IsWrite words w.out.now w.schema.now (names_of w.inputs.items) w.params × AreContextsSaid words (length w.inputs.items) w.contexts
SaysParallel words (Some (Gen g)) = IsGen words g.making g.out.now
SaysParallel words (Some (Scan file)) = IsScan words file.now
SaysParallel words None = IsWrong words

-- the words say this command, which waits for nobody, or are wrong
abbrev pub SaysAlone : List (List ℕ) → Option Alone → Type 0
SaysAlone words (Some (Seq s)) = IsSeq words s.out.now s.schema.now s.input.now s.params
SaysAlone words (Some (Skim s)) =
    IsSkim words s.out.now s.file.now (names_of s.names.items) (option_map said_test s.test) s.params
SaysAlone words (Some (Merge m)) = IsMerge words m.out.now (names_of m.files.items) m.params
SaysAlone words (Some (Entries from count file)) = IsEntries words from count file.now
SaysAlone words (Some (Schema file)) = IsSchemaCommand words file.now
SaysAlone words None = IsWrong words
