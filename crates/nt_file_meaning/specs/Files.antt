-- What a whole file means: its schema, and the entries of its clusters; or its first fault. Each file has exactly one of the two.
use Rattle.std.specs.Prelude.{ℕ, ◌≡◌, ◌+◌, List, [], ◌∷◌, Result, Ok, Err}
use Rattle.nt_num.specs.declared.fault.ReadError.{ReadError}
use Rattle.nt_lists.specs.Chaining.{◌>>=◌}
use Rattle.nt_types.specs.TreeData.{TreesData}
use Rattle.nt_grammar.specs.Table.{Table}
use Rattle.nt_pagelists.specs.declared.cluster.ClusterList.{ClusterList}
use Rattle.nt_file_meaning.specs.Outlines.{outline_of}
use Rattle.nt_file_meaning.specs.Clusters.{cluster_of}

-- the entries of clusters whose numbers go on from this one
abbrev pub entries_from : List ℕ → Table → ℕ → List ClusterList → Result (List (List TreesData)) ReadError
entries_from file t number [] = Ok []
entries_from file t number (k ∷ ks) =
    cluster_of file t number k >>= λ first. entries_from file t (number + 1) ks >>= λ others. Ok (first ∷ others)

-- the rows of the schema and the entries of each cluster, or the first fault
unfoldable pub read_file : List ℕ → Result (Table × List (List TreesData)) ReadError
read_file file = do
  outline ← outline_of file
  clusters ← entries_from file outline.table 0 outline.clusters
  Ok (outline.table, clusters)

-- a file means a schema and the entries of its clusters
abbrev pub Means : List ℕ → Table → List (List TreesData) → Type 0
Means file t clusters = read_file file ≡ Ok (t, clusters)

-- a file has a first fault
abbrev pub HasDefect : List ℕ → ReadError → Type 0
HasDefect file e = read_file file ≡ Err e
