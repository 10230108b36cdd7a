use Rattle.std.proofs.Common.{◌≡◌, ◌≤◌, ℕ, List, Some, None}
use Rattle.nt_outside.specs.File.{FileState}
use Rattle.nt_file_meaning.specs.Outlines.{Outline}
use Rattle.nt_skim.specs.Select.{selection_of, Selection, cluster_readings}
use Rattle.nt_skim.specs.Skimming.{SinkState}
use Rattle.nt_skim.proofs.SkimmedClusters.{HasSkimmed}
use Rattle.nt_skim.proofs.skimming.skim.Given as goal

-- the clusters before this one were skimmed
pub record GoesOn {F B : Type 0} (s : Selection) (o : Outline) (k total : ℕ) (file file' : FileState) (old new : SinkState F B)
    : Type 0 where
  pub told : (b : List ℕ) → file.bytes ≡ Some b → HasSkimmed s (cluster_readings b o) k total old new
  pub going : new.refused ≡ None
  pub fields : new.fields ≡ old.fields
  pub birth : new.birth ≡ old.birth
  pub same : file'.bytes ≡ file.bytes
  pub later : file.faults ≤ file'.faults

abbrev pub invariant-loop-k : goal.invariant-loop-k
invariant-loop-k g l =
    GoesOn (selection_of l.plan) l.reader l.k l.total (g.F.ReadAt.state l.initial.file) (g.F.ReadAt.state l.file)
    (g.E.EntrySink.state l.initial.out) (g.E.EntrySink.state l.out)
