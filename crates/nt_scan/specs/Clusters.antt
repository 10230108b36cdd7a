-- The elements of columns in all clusters of a file (RNTuple Binary Format Specification 1.0.0.0, sections Clusters and Pages).
use Rattle.std.specs.Prelude.{ℕ, ◌+◌, List, [], ◌∷◌, Result, Ok}
use Rattle.std.specs.List.{flat_map}
use Rattle.nt_num.specs.declared.fault.ReadError.{ReadError}
use Rattle.nt_lists.specs.Chaining.{◌>>=◌}
use Rattle.nt_encode.specs.Elements.{Element}
use Rattle.nt_grammar.specs.Table.{Table}
use Rattle.nt_pagelists.specs.declared.cluster.ClusterList.{ClusterList}
use Rattle.nt_file_meaning.specs.Clusters.{columns_by_id, columns_in_cluster}

-- the columns of each of the clusters whose numbers go on from this one, or the first fault of a cluster
abbrev pub columns_over : List ℕ → Table → ℕ → List ClusterList → Result (List (List (List Element))) ReadError
columns_over file t number [] = Ok []
columns_over file t number (k ∷ ks) =
    columns_in_cluster file t number k >>= λ first. columns_over file t (number + 1) ks >>= λ others. Ok (first ∷ others)

-- a column in clusters, joined
abbrev pub column_over : List (List (List Element)) → ℕ → List Element
column_over clusters id = flat_map (λ columns. columns_by_id columns id) clusters
