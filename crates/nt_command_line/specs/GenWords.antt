-- The words of `gen`: how many contexts and events of each, from which number the draws go on, and the file's name.
use Rattle.std.specs.Prelude.{◌≡◌, ℕ, List, [], ◌∷◌, codes, Some}
use Rattle.nt_draws.specs.Making.{max_contexts, max_events, max_seed}
use Rattle.nt_draws.specs.declared.making.Making.{Making}
use Rattle.clap.specs.Words.{App, Rule}
use Rattle.nt_command_line.specs.CommandLine.{operand, number_operand, app, Begins, IsTaken, word_found, number_found}

-- `C E SEED OUT`
abbrev pub gen_rules : List Rule
gen_rules = number_operand (codes "C") 1 max_contexts ∷ number_operand (codes "E") 0 max_events
    ∷ number_operand (codes "SEED") 1 max_seed ∷ operand (codes "OUT") ∷ []

-- `gen`
unfoldable pub gen_app : App
gen_app = app (codes "gen") gen_rules

-- `gen C E SEED OUT`, as clap reads it: so much is made
pub record IsGen (words : List (List ℕ)) (m : Making) (out : List ℕ) : Type 0 where
  pub begins : Begins words (codes "gen")
  pub taken : IsTaken gen_app words
  pub contexts_is : number_found gen_app words (codes "C") ≡ Some m.contexts
  pub events_is : number_found gen_app words (codes "E") ≡ Some m.events
  pub seed_is : number_found gen_app words (codes "SEED") ≡ Some m.seed
  pub out_is : word_found gen_app words (codes "OUT") ≡ Some out
