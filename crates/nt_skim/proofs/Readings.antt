-- What the clusters of an outline are read as, by their numbers.
use Rattle.std.proofs.Common.{◌≡◌, ◌∙◌, ap, ℕ, zero, suc, ◌+◌, ◌<◌, List, [], ◌∷◌, length, refl, arith}
use Rattle.std.specs.Prelude.{slice_index_or}
use Rattle.std.proofs.lemmas.List.{length-map}
use Rattle.std.proofs.lemmas.List.FromFn.{length-range_with_len}
use Rattle.nt_grammar.specs.Table.{Table}
use Rattle.nt_pagelists.specs.declared.cluster.ClusterList.{ClusterList}
use Rattle.nt_file_meaning.specs.Clusters.{cluster_of}
use Rattle.nt_file_meaning.specs.Outlines.{Outline}
use Rattle.nt_reader.specs.Columns.{ClusterData, given_entries}
use Rattle.nt_reader.specs.Outlines.{entries_in, unlisted_cluster}
use Rattle.nt_skim.specs.Select.{readings_from, cluster_readings}
use Rattle.nt_skim.proofs.SkimmedClusters.{read_at}

-- a cluster gives as many entries as it has
pub length-given : (c : ClusterData) → length (given_entries c) ≡ c.entries
length-given c = length-map _ _ ∙ length-range_with_len 0 c.entries

length-from : (file : List ℕ) (t : Table) (n : ℕ) (ks : List ClusterList) → length (readings_from file t n ks) ≡ length ks
length-from file t n [] = refl
length-from file t n (k ∷ ks) = ap suc (length-from file t (n + 1) ks)

read-from : (file : List ℕ) (t : Table) (n j i : ℕ) (ks : List ClusterList) → j ≡ n + i → i < length ks
    → read_at (readings_from file t n ks) i ≡ cluster_of file t j (slice_index_or ks i unlisted_cluster)
read-from file t n j i [] is less = absurd (omega (arith, less))
read-from file t n j zero (k ∷ ks) is less = let same : n ≡ j = omega (arith, is) in ap (λ (m : ℕ). cluster_of file t m k) same
read-from file t n j (suc i) (k ∷ ks) is less = read-from file t (n + 1) j i ks (omega (arith, is)) (omega (arith, less))

-- there are as many readings as clusters
pub length-readings : (file : List ℕ) (o : Outline) → length (cluster_readings file o) ≡ length o.clusters
length-readings file o = length-from file o.table 0 o.clusters

-- each is that of its cluster
pub reading-at : (file : List ℕ) (o : Outline) (k : ℕ) → k < length o.clusters → read_at (cluster_readings file o) k ≡ entries_in o k file
reading-at file o k less = read-from file o.table 0 k k o.clusters (omega arith) less
