-- The options of a command that writes a file: how it is written.
use Rattle.std.specs.Prelude.{◌≡◌, ℕ, ◌-◌, ◌^◌, Bool, List, [], ◌∷◌, codes, unwrap_or}
use Rattle.clap.specs.Words.{App, Rule}
use Rattle.nt_book.specs.declared.limits.Limits.{Limits}
use Rattle.nt_book.specs.declared.params.Params.{Params}
use Rattle.nt_command_line.specs.CommandLine.{number_option, flag, number_found, is_flag_found}

-- `[--cluster N] [--page P] [--group G] [--plain] [--max-range B] [--max-file B]`
abbrev pub options : List Rule
options =
    number_option (codes "cluster") 1 1000000
    ∷ number_option (codes "page") 1 1048576
    ∷ number_option (codes "group") 1 10000
    ∷ flag (codes "plain")
    ∷ number_option (codes "max-range") 1024 (2 ^ 30)
    ∷ number_option (codes "max-file") 1024 (2 ^ 56)
    ∷ []

-- the number of an option of a command, or what stands for it where the words don't say it
abbrev pub number_or : App → List (List ℕ) → List ℕ → ℕ → ℕ
number_or a words id other = unwrap_or (number_found a words id) other

-- the limits that the words say: 2^30 bytes a range and 2^40 the file, where they don't, and as many clusters as a number of 32 bits counts
pub record AreLimitsSaid (a : App) (words : List (List ℕ)) (l : Limits) : Type 0 where
  pub range : l.range ≡ number_or a words (codes "max-range") (2 ^ 30)
  pub file : l.file ≡ number_or a words (codes "max-file") (2 ^ 40)
  pub clusters : l.clusters ≡ 2 ^ 32 - 1

-- how the file is written: 10000 entries a cluster, 4096 elements a page, 1000 clusters a group, where the words don't say it; clusters are
-- staged where the command has them staged
pub record AreParamsSaid (a : App) (words : List (List ℕ)) (stages : Bool) (p : Params) : Type 0 where
  pub cluster : p.cluster ≡ number_or a words (codes "cluster") 10000
  pub page : p.page ≡ number_or a words (codes "page") 4096
  pub group : p.group ≡ number_or a words (codes "group") 1000
  pub plain : p.plain ≡ is_flag_found a words (codes "plain")
  pub staged : p.staged ≡ stages
  pub limits : AreLimitsSaid a words p.limits
