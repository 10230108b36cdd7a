use Rattle.std.proofs.Common.{◌≡◌, ◌≤◌, ℕ, List, length, Some}
use Rattle.nt_outside.specs.File.{FileState}
use Rattle.nt_file_meaning.specs.Outlines.{Outline}
use Rattle.nt_generate.specs.declared.total.Total.{Total}
use Rattle.nt_generate.proofs.AddedClusters.{IsAdding}
use Rattle.nt_generate.proofs.reading.add_clusters.Given as goal

-- the clusters before this one were added
pub record HasAdded (o : Outline) (order : List ℕ) (contexts k : ℕ) (totals : List Total) (file file' : FileState) : Type 0 where
  pub told : (b : List ℕ) → file.bytes ≡ Some b → IsAdding b o order contexts k totals
  pub bytes : file'.bytes ≡ file.bytes
  pub later : file.faults ≤ file'.faults

abbrev pub invariant-loop-k : goal.invariant-loop-k
invariant-loop-k g l =
    HasAdded l.reader l.order (length l.initial.totals) l.k l.totals (g.F.ReadAt.state l.initial.file) (g.F.ReadAt.state l.file)
