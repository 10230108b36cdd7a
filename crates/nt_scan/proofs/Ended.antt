-- A failure in the midst of clusters.
use Rattle.std.proofs.Common.{◌≡◌, ℕ, ◌<◌, List, [], ◌++◌, length, take, get_or, Option, Some, None, Result, Ok, Err, sym, ap}
use Rattle.std.proofs.Common.{subst, ◌∙◌, arith}
use Rattle.std.specs.List.{All}
use Rattle.nt_num.specs.declared.fault.ReadError.{ReadError}
use Rattle.nt_lists.proofs.Variants.{ok_is}
use Rattle.nt_lists.proofs.Fronts.{take_front}
use Rattle.nt_format.specs.Reading.{IsBytes}
use Rattle.nt_tfile.specs.declared.failure.ReadFailure.{ReadFailure}
use Rattle.nt_tfile.specs.declared.failure.ReadFailure.TheVariants.{Defect, Fault, Memory}
use Rattle.nt_tfile.specs.Calls.{IsReadOrFails}
use Rattle.nt_encode.specs.Elements.{Element}
use Rattle.nt_encode.specs.Elements.{numbers, AreElementsOf}
use Rattle.nt_file_meaning.specs.Outlines.{Outline, outline_of}
use Rattle.nt_reader.specs.Outlines.{columns_read}
use Rattle.nt_reader.specs.Columns.{ClusterData}
use Rattle.nt_total.specs.declared.running.Running.{Running}
use Rattle.nt_total.specs.declared.total.Total.{Total}
use Rattle.nt_total.specs.Totals.{low_of}
use Rattle.nt_scan.specs.declared.error.ScanError.{ScanError}
use Rattle.nt_scan.specs.declared.error.ScanError.TheVariants as scan
use Rattle.nt_scan.specs.Leaves.{IsNumberColumn, column_kind, leaves_of, leaf_columns}
use Rattle.nt_scan.specs.Counts.{HasFewEnough, IsFirstTooMany}
use Rattle.nt_scan.specs.Clusters.{columns_over, column_over}
use Rattle.nt_scan.specs.Totals.{AreTotalsOf, IsScanOf}
use Rattle.nt_scan.specs.Scans.{ScansAs}
use Rattle.nt_scan.specs.Steps.{ClustersAdded, AreNothing, AreAdded, AreTotalled, scan_error_of}
use Rattle.nt_scan.proofs.Clusters.{over-fails}
use Rattle.nt_scan.proofs.Meaning.{HasKind, kind-known, types-over, few-over, cluster-defect, outline-defect}

pub clusters-fail : (file : List ℕ) (o : Outline) (columns : List ℕ) (old new : List Running) (k : ℕ) (read : List (List (List Element)))
    (e : ReadFailure) → k < length o.clusters → columns_over file o.table 0 (take k o.clusters) ≡ Ok read
    → IsReadOrFails (λ (c : ClusterData). c.columns) (Err e) (columns_read o k file) → ClustersAdded file o columns old new (Err e)
clusters-fail file o columns old new k read (Defect e) lt so_far h = over-fails file o k read e lt so_far h
clusters-fail file o columns old new k read Fault lt so_far h = tt
clusters-fail file o columns old new k read Memory lt so_far h = tt

no_running : Running
no_running = record { count = 0; piece = record { sum = 0; least = 0; greatest = 0 } }

-- what was added to nothing is totalled
pub scanned : (file : List ℕ) (o : Outline) (columns : List ℕ) (old new : List Running) (clusters : List (List (List Element)))
    (totals : List Total) → IsBytes file → All (λ c. IsNumberColumn o.table c) columns → IsFirstTooMany o columns None
    → columns_over file o.table 0 o.clusters ≡ Ok clusters → AreNothing (length columns) old
    → AreAdded o.table (column_over clusters) columns old new → AreTotalled o.table columns new totals
    → AreTotalsOf o.table clusters columns totals
scanned file o columns old new clusters totals bytes are none over nothing added totalled = record {
  len = totalled.len;
  each = λ i d e lt.
      let column = get_or columns i d in
      let es = column_over clusters column in
      let k = kind-known o.table column (are i d lt) in
      let count = none i d lt in
      totalled.each i d no_running e es lt (added i d no_running lt [] (nothing.each i (low_of (column_kind o.table column)) no_running lt))
      (subst (λ kind. AreElementsOf kind es) (sym k.is) (types-over file o.table 0 o.clusters clusters column k bytes over))
      (few-over file o clusters column count.0 k count.1 over);
}

-- a file without an outline
pub attach-fails : (file : List ℕ) (e : ReadFailure) → IsReadOrFails (λ (o : Outline). o) (Err e) (outline_of file)
    → ScansAs file (Err (scan_error_of e))
attach-fails file (Defect e) h = (outline-defect file e h, λ o is. absurd (apart (outline_of file) o e is h))
  where
    apart : (r : Result Outline ReadError) (o : Outline) (e : ReadError) → r ≡ Ok o → r ≡ Err e → ⊥
    apart r o e one two =
        let bad = sym one ∙ two in
        cc
attach-fails file Fault h = tt
attach-fails file Memory h = tt

-- a scan that failed
pub scan-fails : (file : List ℕ) (o : Outline) (columns : List ℕ) (e : ScanError) → outline_of file ≡ Ok o
    → columns ≡ leaf_columns (leaves_of o.table) → IsScanOf file o columns (Err e) → ScansAs file (Err e)
scan-fails file o columns (scan.TooMany column reached) is are h =
    (o, is, subst (λ l. IsFirstTooMany o l (Some (column, reached))) are h)
scan-fails file o columns (scan.Defect e) is are h = (
  cluster-defect file o e is h.1,
  λ p here. subst (λ (q : Outline). IsFirstTooMany q (leaf_columns (leaves_of q.table)) None) (ok_is o p (sym is ∙ here))
      (subst (λ l. IsFirstTooMany o l None) are h.0),
)
scan-fails file o columns scan.Fault is are h = tt
scan-fails file o columns scan.Memory is are h = tt

pub take-whole : {A : Type 0} (n : ℕ) (xs ys : List A) → n ≡ length xs → take n (xs ++ ys) ≡ xs
take-whole n xs ys is = ap (λ m. take m (xs ++ ys)) is ∙ take_front xs ys
