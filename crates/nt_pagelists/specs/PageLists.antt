-- Page lists read from bytes (RNTuple Binary Format Specification 1.0.0.0, section Page List Envelope).
use Rattle.std.specs.Prelude.{ℕ, ◌+◌, ◌==◌, List, if◌then◌else◌, Result, Ok, Err}
use Rattle.std.specs.Int.{w64}
use Rattle.nt_num.specs.Place.{At}
use Rattle.nt_num.specs.Cursor.{little}
use Rattle.nt_num.specs.Codes.{other_header}
use Rattle.nt_num.specs.Faults.{fault, with_values}
use Rattle.nt_num.specs.declared.fault.ReadError.{ReadError}
use Rattle.nt_lists.specs.Chaining.{◌>>=◌}
use Rattle.nt_format.specs.Reading.{placed}
use Rattle.nt_pagelists.specs.declared.column.KnownColumn.{KnownColumn}
use Rattle.nt_pagelists.specs.declared.cluster.ClusterList.{ClusterList}
use Rattle.nt_pagelists.specs.declared.group.Group.{Group}
use Rattle.nt_pagelists.specs.Clusters.{summaries_at, cluster_lists_at}

-- what was read so far: clusters, entries, and the elements of each column
pub record ProgressCounts : Type 0 where
  pub clusters : ℕ
  pub entries : ℕ
  pub elements : List ℕ

-- the same with a group, and with the elements that there are then
abbrev pub with_group : ProgressCounts → Group → List ℕ → ProgressCounts
with_group p g elements = record { clusters = p.clusters + g.clusters; entries = p.entries + g.span; elements = elements }

-- the checksum of the header, which stands here
unfoldable pub header_sum_at : ℕ → At → Result (ℕ × At) ReadError
header_sum_at sum here = do
  word ← placed (little w64 here)
  if word.0 == sum then Ok word else Err (with_values word.0 sum (fault other_header here.place))

-- the page list of a group behind what was read so far, whose payload begins here
unfoldable pub page_list_at : ℕ → Group → List KnownColumn → ProgressCounts → At → Result (List ClusterList × ProgressCounts) ReadError
page_list_at sum g columns p here = do
  word ← header_sum_at sum here
  ks ← summaries_at g p.clusters p.entries word.1
  all ← cluster_lists_at g columns ks.0 p.elements ks.1
  Ok (all.0, with_group p g all.1)
