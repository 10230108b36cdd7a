use Rattle.std.proofs.Common.{◌≡◌, ◌≤◌, ℕ, List, length, take, Some, Ok}
use Rattle.nt_encode.specs.Elements.{Element}
use Rattle.nt_outside.specs.File.{FileState}
use Rattle.nt_file_meaning.specs.Outlines.{Outline}
use Rattle.nt_total.specs.declared.running.Running.{Running}
use Rattle.nt_scan.specs.Clusters.{columns_over, column_over}
use Rattle.nt_scan.specs.Steps.{AreAdded}
use Rattle.nt_scan.proofs.adding.add_clusters.Given as goal

-- the clusters before this one were added
pub record HaveBeenAdded (o : Outline) (columns : List ℕ) (k : ℕ) (file file' : FileState) (old new : List Running) : Type 0 where
  pub same : file'.bytes ≡ file.bytes
  pub later : file.faults ≤ file'.faults
  pub len : length new ≡ length old
  pub added : (told : List ℕ) → file.bytes ≡ Some told
      → (read : List (List (List Element))) × (columns_over told o.table 0 (take k o.clusters) ≡ Ok read)
      × AreAdded o.table (column_over read) columns old new

abbrev pub invariant-loop-k : goal.invariant-loop-k
invariant-loop-k g l =
    let state = g.F.ReadAt.state in
    HaveBeenAdded l.reader l.columns l.k (state l.initial.file) (state l.file) l.initial.running l.running
