-- The clusters of a file before its first fault, and what the listing of their entries leaves.
use Rattle.std.specs.Prelude.{◌≡◌, ◌<◌, ◌⊎◌, ℕ, ◌+◌, List, [], ◌∷◌, length, take, Option, Some, None, Result, Ok, Err}
use Rattle.nt_num.specs.Codes.{compressed, out_of_file, bad_page, bad_value}
use Rattle.nt_num.specs.declared.fault.ReadError.{ReadError}
use Rattle.nt_types.specs.TreeData.{TreesData}
use Rattle.nt_grammar.specs.Table.{Table}
use Rattle.nt_pagelists.specs.declared.cluster.ClusterList.{ClusterList}
use Rattle.nt_file_meaning.specs.Outlines.{Outline, outline_of}
use Rattle.nt_file_meaning.specs.Clusters.{cluster_of}
use Rattle.nt_file_meaning.specs.Files.{entries_from}
use Rattle.nt_reader.specs.Outlines.{entries_in}
use Rattle.nt_outside.specs.World.{World}
use Rattle.nt_outside.specs.declared.fault.Refused.{Refused}
use Rattle.nt_show.specs.declared.entry_range.EntryRange.{EntryRange}
use Rattle.nt_show.specs.Ranges.{entry_lines, in_range, range_lines, past_entries}
use Rattle.nt_show.specs.Gathering.{PrintsSome, GathersPart}

-- the entries of a cluster, and those of others behind it; where it has a fault there are none
abbrev pub before_others : Result (List TreesData) ReadError → List (List TreesData) → List (List TreesData)
before_others (Ok entries) others = entries ∷ others
before_others (Err e) others = []

-- the entries of the clusters before the first with a fault, of clusters whose numbers go on from this one
abbrev pub sound_from : List ℕ → Table → ℕ → List ClusterList → List (List TreesData)
sound_from file t number [] = []
sound_from file t number (k ∷ ks) = before_others (cluster_of file t number k) (sound_from file t (number + 1) ks)

-- the same of the clusters of an outline; a file without one has none
abbrev pub sound_in : List ℕ → Result Outline ReadError → List (List TreesData)
sound_in file (Ok o) = sound_from file o.table 0 o.clusters
sound_in file (Err e) = []

-- the entries of the clusters of a file before the first with a fault
abbrev pub sound_clusters : List ℕ → List (List TreesData)
sound_clusters file = sound_in file (outline_of file)

-- a file with this outline has this first fault in the cluster that the fault names, and before it clusters of these entries
pub record IsClusterFault (file : List ℕ) (o : Outline) (e : ReadError) (before : List (List TreesData)) : Type 0 where
  pub number : e.cluster ≡ length before
  pub there : e.cluster < length o.clusters
  pub sound : entries_from file o.table 0 (take e.cluster o.clusters) ≡ Ok before
  pub fault : entries_in o e.cluster file ≡ Err e
  pub code : (e.code ≡ compressed) ⊎ (e.code ≡ out_of_file) ⊎ (e.code ≡ bad_page) ⊎ (e.code ≡ bad_value)

-- the lines of a cluster in a range; where it has a fault there are none
abbrev pub cluster_lines : EntryRange → Result (List TreesData) ReadError → List ℕ
cluster_lines range (Ok entries) = entry_lines (in_range range entries)
cluster_lines range (Err e) = []

-- what the listing of one cluster leaves
abbrev pub ClusterTold : List ℕ → Outline → ℕ → EntryRange → EntryRange → Option World → List ℕ → Option World → List ℕ
    → Result (Option ReadError) Refused → Type 0
ClusterTold file o k range range' old waiting new left (Ok None) =
    (entries : List TreesData) × (entries_in o k file ≡ Ok entries) × (range' ≡ past_entries (length entries) range)
    × PrintsSome (entry_lines (in_range range entries)) old waiting new left
ClusterTold file o k range range' old waiting new left (Ok (Some e)) = (entries_in o k file ≡ Err e) × (new ≡ old) × (left ≡ waiting)
ClusterTold file o k range range' old waiting new left (Err r) = GathersPart (cluster_lines range (entries_in o k file)) old waiting new

-- what the listing of all clusters leaves
abbrev pub ClustersTold : List ℕ → Outline → EntryRange → Option World → List ℕ → Option World → List ℕ
    → Result (Option ReadError) Refused → Type 0
ClustersTold file o range old waiting new left (Ok None) =
    (clusters : List (List TreesData)) × (entries_from file o.table 0 o.clusters ≡ Ok clusters)
    × PrintsSome (range_lines range clusters) old waiting new left
ClustersTold file o range old waiting new left (Ok (Some e)) =
    (entries_from file o.table 0 o.clusters ≡ Err e)
    × PrintsSome (range_lines range (sound_from file o.table 0 o.clusters)) old waiting new left
ClustersTold file o range old waiting new left (Err r) =
    GathersPart (range_lines range (sound_from file o.table 0 o.clusters)) old waiting new
