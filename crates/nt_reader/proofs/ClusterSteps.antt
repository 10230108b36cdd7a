-- The entries of a cluster, in the steps in which they are read.
use Rattle.std.proofs.Common.{◌≡◌, ℕ, List, length, Result, Ok, Err, refl, ap, ◌∙◌}
use Rattle.std.proofs.Math.Path.{fun_ext}
use Rattle.nt_num.specs.declared.fault.ReadError.{ReadError}
use Rattle.nt_lists.specs.Chaining.{◌>>=◌}
use Rattle.nt_types.specs.TreeData.{TreesData}
use Rattle.nt_encode.specs.Elements.{Element}
use Rattle.nt_grammar.specs.Table.{Table}
use Rattle.nt_plans.specs.Place.{open_plans}
use Rattle.nt_trees.specs.Columns.{Cols}
use Rattle.nt_trees.specs.Faults.{fault_in_any}
use Rattle.nt_view.specs.Loaded.{Loaded, loaded_elements}
use Rattle.nt_listing.specs.Listings.{columns_of_loaded, AreColumnsOf}
use Rattle.nt_pagelists.specs.declared.cluster.ClusterList.{ClusterList}
use Rattle.nt_file_meaning.specs.Clusters.{columns_from, columns_by_id, no_value_fault, entries_of_columns, cluster_of}
use Rattle.nt_file_meaning.specs.Clusters.{columns_in_cluster}
use Rattle.nt_tfile.specs.declared.failure.ReadFailure.{ReadFailure}
use Rattle.nt_tfile.specs.Calls.{IsReadOrFails}
use Rattle.nt_listing.proofs.Chains.{fails}

pub columns-fail : {U W : Type 0} (one : U → List (List Element)) (all : W
    → List TreesData) (told : List ℕ) (t : Table) (number : ℕ) (k : ClusterList) (e : ReadFailure)
    → IsReadOrFails one (Err e) (columns_from told number k t 0 t.columns) → IsReadOrFails all (Err e) (cluster_of told t number k)
unfolding cluster_of
columns-fail one all told t number k e h = fails one all e (columns_from told number k t 0 t.columns) _ h

-- what is wrong with columns that were read
abbrev pub values : Table → ℕ → ClusterList → List (List Element) → Result (Unit {0}) ReadError
values t number k cs = no_value_fault number k (fault_in_any (open_plans t) (columns_by_id cs) k.entries)

behind-columns : (told : List ℕ) (t : Table) (number : ℕ) (k : ClusterList) (cs : List (List Element))
    → columns_from told number k t 0 t.columns ≡ Ok cs
    → cluster_of told t number k ≡ (values t number k cs >>= λ u. Ok (entries_of_columns t cs k.entries))
unfolding cluster_of
behind-columns told t number k cs h = rw h refl

pub values-fail : (told : List ℕ) (t : Table) (number : ℕ) (k : ClusterList) (cs : List (List Element)) (e : ReadError)
    → columns_from told number k t 0 t.columns ≡ Ok cs → values t number k cs ≡ Err e
    → cluster_of told t number k ≡ Err e
values-fail told t number k cs e h f = behind-columns told t number k cs h
    ∙ ap (λ (r : Result (Unit {0}) ReadError). r >>= λ u. Ok (entries_of_columns t cs k.entries)) f

pub cluster-done : (told : List ℕ) (t : Table) (number : ℕ) (k : ClusterList) (cs : List (List Element)) (u : Unit {0})
    → columns_from told number k t 0 t.columns ≡ Ok cs → values t number k cs ≡ Ok u
    → cluster_of told t number k ≡ Ok (entries_of_columns t cs k.entries)
cluster-done told t number k cs u h f = behind-columns told t number k cs h
    ∙ ap (λ (r : Result (Unit {0}) ReadError). r >>= λ u. Ok (entries_of_columns t cs k.entries)) f

-- what is wrong with columns that are loaded
pub values-over : (t : Table) (number : ℕ) (k : ClusterList) (l : Loaded) → AreColumnsOf (length t.columns) l
    → values t number k (columns_of_loaded 0 (length t.columns) l)
    ≡ no_value_fault number k (fault_in_any (open_plans t) (loaded_elements l) k.entries)
values-over t number k l all = ap (λ (cols : Cols). no_value_fault number k (fault_in_any (open_plans t) cols k.entries)) (fun_ext all)

-- the same of the columns alone
pub only-columns-fail : {U W : Type 0} (one : U → List (List Element)) (all : W → List (List Element)) (told : List ℕ) (t : Table)
    (number : ℕ) (k : ClusterList) (e : ReadFailure) → IsReadOrFails one (Err e) (columns_from told number k t 0 t.columns)
    → IsReadOrFails all (Err e) (columns_in_cluster told t number k)
unfolding columns_in_cluster
only-columns-fail one all told t number k e h = fails one all e (columns_from told number k t 0 t.columns) _ h

only-behind : (told : List ℕ) (t : Table) (number : ℕ) (k : ClusterList) (cs : List (List Element))
    → columns_from told number k t 0 t.columns ≡ Ok cs
    → columns_in_cluster told t number k ≡ (values t number k cs >>= λ u. Ok cs)
unfolding columns_in_cluster
only-behind told t number k cs h = rw h refl

pub only-values-fail : (told : List ℕ) (t : Table) (number : ℕ) (k : ClusterList) (cs : List (List Element)) (e : ReadError)
    → columns_from told number k t 0 t.columns ≡ Ok cs → values t number k cs ≡ Err e
    → columns_in_cluster told t number k ≡ Err e
only-values-fail told t number k cs e h f =
    only-behind told t number k cs h ∙ ap (λ (r : Result (Unit {0}) ReadError). r >>= λ u. Ok cs) f

pub only-columns-done : (told : List ℕ) (t : Table) (number : ℕ) (k : ClusterList) (cs : List (List Element)) (u : Unit {0})
    → columns_from told number k t 0 t.columns ≡ Ok cs → values t number k cs ≡ Ok u
    → columns_in_cluster told t number k ≡ Ok cs
only-columns-done told t number k cs u h f =
    only-behind told t number k cs h ∙ ap (λ (r : Result (Unit {0}) ReadError). r >>= λ u. Ok cs) f
