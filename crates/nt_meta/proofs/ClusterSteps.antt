-- Clusters that are read one behind the other.
use Rattle.std.proofs.Common.{◌≡◌, ℕ, suc, ◌+◌, ◌<◌, ◌≤◌, List, [], ◌∷◌, ◌++◌, length, drop, Option, Result, Ok, sym, ap, subst, ◌∙◌, arith}
use Rattle.std.proofs.Common.{drop-cons}
use Rattle.std.specs.Prelude.{slice_index_or}
use Rattle.nt_num.specs.Place.{At}
use Rattle.nt_num.specs.declared.fault.ReadError.{ReadError}
use Rattle.nt_lists.specs.Chaining.{◌>>=◌}
use Rattle.nt_lists.specs.Answering.{Refuses}
use Rattle.nt_lists.proofs.Answering.{Refuses-bind}
use Rattle.nt_pagelists.specs.declared.column.KnownColumn.{KnownColumn}
use Rattle.nt_pagelists.specs.declared.cluster.ClusterSummary.{ClusterSummary}
use Rattle.nt_pagelists.specs.declared.cluster.ClusterList.{ClusterList}
use Rattle.nt_pagelists.specs.Clusters.{cluster_list_at, with_elements, cluster_lists_on}
use Rattle.std.proofs.lemmas.List.{drop_all}

abbrev pub no_summary : ClusterSummary
no_summary = record { number = 0; first = 0; entries = 0 }

abbrev Answer : Type 0
Answer = Result (List ClusterList × List ℕ) ReadError

abbrev after_it : List KnownColumn → List ClusterSummary → List ℕ → List ClusterList → ClusterList × At → Answer
after_it columns ks elements lists list = cluster_lists_on columns ks (with_elements elements list.0.columns) (lists ++ list.0 ∷ []) list.1

-- the cluster that is read next
clusters-first : (columns : List KnownColumn) (ks : List ClusterSummary) (i : ℕ) (elements : List ℕ) (lists : List ClusterList)
    (here : At) → i < length ks
    → cluster_lists_on columns (drop i ks) elements lists here
    ≡ (cluster_list_at (slice_index_or ks i no_summary) columns elements here >>= after_it columns (drop (i + 1) ks) elements lists)
clusters-first columns ks i elements lists here lt =
    let same : suc i ≡ i + 1 = omega arith in
    ap (λ (l : List ClusterSummary). cluster_lists_on columns l elements lists here) (drop-cons ks i no_summary lt)
    ∙ ap (λ (j : ℕ). cluster_list_at (slice_index_or ks i no_summary) columns elements here >>= after_it columns (drop j ks)
    elements lists) same

pub clusters-next : (columns : List KnownColumn) (ks : List ClusterSummary) (i : ℕ) (k : ClusterSummary) (elements sums : List ℕ)
    (lists more : List ClusterList) (here after : At) (list : ClusterList) (all : Answer) → i < length ks → k
    ≡ slice_index_or ks i no_summary
    → cluster_list_at k columns elements here ≡ Ok (list, after) → sums ≡ with_elements elements list.columns → more ≡ lists ++ list ∷ []
    → cluster_lists_on columns (drop i ks) elements lists here ≡ all → cluster_lists_on columns (drop (i + 1) ks) sums more after ≡ all
clusters-next columns ks i k elements sums lists more here after list all lt is e sum new h =
    let read = subst (λ (x : ClusterSummary). cluster_list_at x columns elements here ≡ Ok (list, after)) is e in
    let step = clusters-first columns ks i elements lists here lt
    ∙ ap (λ (r : Result (ClusterList × At) ReadError). r >>= after_it columns (drop (i + 1) ks) elements lists) read in
    ap (λ (l : List ClusterList). cluster_lists_on columns (drop (i + 1) ks) sums l after) new
    ∙ (ap (λ (s : List ℕ). cluster_lists_on columns (drop (i + 1) ks) s (lists ++ list ∷ []) after) sum ∙ (sym step ∙ h))

pub clusters-fail : (columns : List KnownColumn) (ks : List ClusterSummary) (i : ℕ) (k : ClusterSummary) (elements : List ℕ)
    (lists : List ClusterList) (here : At) (e : Option ReadError) (all : Answer) → i < length ks → k ≡ slice_index_or ks i no_summary
    → Refuses e (cluster_list_at k columns elements here) → cluster_lists_on columns (drop i ks) elements lists here ≡ all → Refuses e all
clusters-fail columns ks i k elements lists here e all lt is f h =
    subst (Refuses e) (sym (clusters-first columns ks i elements lists here lt) ∙ h)
    (Refuses-bind e (cluster_list_at (slice_index_or ks i no_summary) columns elements here)
    (after_it columns (drop (i + 1) ks) elements lists)
    (subst (λ (x : ClusterSummary). Refuses e (cluster_list_at x columns elements here)) is f))

pub clusters-done : (columns : List KnownColumn) (ks : List ClusterSummary) (i : ℕ) (elements : List ℕ) (lists : List ClusterList)
    (here : At) (all : Answer) → length ks ≤ i
    → cluster_lists_on columns (drop i ks) elements lists here ≡ all → all ≡ Ok (lists, elements)
clusters-done columns ks i elements lists here all le h =
    sym h ∙ ap (λ (l : List ClusterSummary). cluster_lists_on columns l elements lists here) (drop_all i ks le)

pub ruleset cluster_steps = (clusters-next, clusters-fail, clusters-done)
