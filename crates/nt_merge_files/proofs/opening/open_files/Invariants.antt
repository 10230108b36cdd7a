use Rattle.std.proofs.Common.{◌≡◌, ◌+◌, ◌≤◌, ℕ, List, ◌++◌, map, take, length}
use Rattle.std.specs.Prelude.{vec_capacity}
use Rattle.nt_outside.specs.Source.{SourceState}
use Rattle.nt_outside.specs.World.{HostState, File}
use Rattle.nt_store.specs.Worlds.{AreOpenTexts}
use Rattle.nt_merge_files.specs.Files.{as_texts}
use Rattle.nt_merge_files.proofs.opening.open_files.Given as goal

-- the files of the first names are open
pub record HasOpened (names : List (List ℕ)) (i : ℕ) (old new : HostState) (files : List SourceState) : Type 0 where
  pub are : AreOpenTexts old.world (take i names) files
  pub asked : new.asked ≡ old.asked ++ take i (map File names)
  pub count : length files ≡ i
  pub world : new.world ≡ old.world
  pub later : old.faults ≤ new.faults
  pub err_faults : new.err_faults ≡ old.err_faults
  pub opened : new.opened ≡ old.opened + i

abbrev pub invariant-loop-name : goal.invariant-loop-name
invariant-loop-name g l = HasOpened (map (λ name. name.now) l.names) l.name-index (g.H.Host.state l.initial.host) (g.H.Host.state l.host)
    (as_texts g.H.File.ReadAt.state l.files.items) × (length l.names ≤ vec_capacity l.files)
