-- The clusters of a page list are as many as its group says.
use Rattle.std.proofs.Common.{◌≡◌, ℕ, zero, suc, ◌+◌, cond, eqb, List, [], ◌∷◌, ◌++◌, length, Ok, Err, refl, sym, ap, subst, ◌∙◌, arith}
use Rattle.std.proofs.lemmas.Bool.{eqb-true}
use Rattle.std.proofs.lemmas.List.{length_push}
use Rattle.nt_num.specs.Place.{At}
use Rattle.nt_num.specs.Codes.{bad_group}
use Rattle.nt_num.specs.Faults.{fault}
use Rattle.nt_num.specs.declared.fault.ReadError.{ReadError}
use Rattle.nt_lists.proofs.Chaining.{bind_ok, guard_passed}
use Rattle.nt_lists.proofs.Variants.{ok_is}
use Rattle.nt_format.specs.Reading.{placed}
use Rattle.nt_format.specs.Frames.{list_at}
use Rattle.nt_pagelists.specs.declared.group.Group.{Group}
use Rattle.nt_pagelists.specs.declared.column.KnownColumn.{KnownColumn}
use Rattle.nt_pagelists.specs.declared.cluster.ClusterSummary.{ClusterSummary}
use Rattle.nt_pagelists.specs.declared.cluster.ClusterList.{ClusterList}
use Rattle.nt_pagelists.specs.declared.cluster.ColumnList.{ColumnList}
use Rattle.nt_pagelists.specs.Clusters.{summary_at, summaries_on, summaries_at, cluster_list_at, with_elements, cluster_lists_on}
use Rattle.nt_pagelists.specs.Clusters.{cluster_lists_at}
use Rattle.nt_pagelists.specs.PageLists.{ProgressCounts, with_group, header_sum_at, page_list_at}
use Rattle.nt_reader.specs.Steps.{IsGroupCounted}

summaries_on-length : (n number entries : ℕ) (ks : List ClusterSummary) (here : At) (all : (List ClusterSummary × ℕ) × At)
    → summaries_on n number entries ks here ≡ Ok all → length all.0.0 ≡ length ks + n
summaries_on-length zero number entries ks here all e =
    omega (arith, ap (λ (x : (List ClusterSummary × ℕ) × At). length x.0.0) (ok_is {E = ReadError} ((ks, entries), here) all e))
summaries_on-length (suc n) number entries ks here all e =
    let k = bind_ok (summary_at number entries here) (λ k. summaries_on n (number + 1) (entries + k.0.entries) (ks ++ k.0 ∷ []) k.1) all e
    in
    omega (arith, summaries_on-length n (number + 1) (entries + k.0.0.entries) (ks ++ k.0.0 ∷ []) k.0.1 all k.2, length_push ks k.0.0)

summaries-length : (g : Group) (number entries : ℕ) (here : At) (all : List ClusterSummary × At)
    → summaries_at g number entries here ≡ Ok all → length all.0 ≡ g.clusters
unfolding summaries_at
summaries-length g number entries here all e =
    let list = bind_ok (placed (list_at here)) _ all e in
    let ks = bind_ok (cond (eqb list.0.0.0 g.clusters) (summaries_on list.0.0.0 number entries [] list.0.0.1)
    (Err (fault bad_group here.place))) _ all list.2 in
    let few = guard_passed (eqb list.0.0.0 g.clusters) (fault bad_group here.place) (summaries_on list.0.0.0 number entries [] list.0.0.1)
    ks.0 ks.1 in
    let last = guard_passed (eqb ks.0.0.1 (entries + g.span)) (fault bad_group here.place) (Ok (ks.0.0.0, list.0.1)) all ks.2 in
    let count = summaries_on-length list.0.0.0 number entries [] list.0.0.1 ks.0 few.1 in
    let made : List ClusterSummary × At = (ks.0.0.0, list.0.1) in
    let same : list.0.0.0 ≡ g.clusters = eqb-true _ _ few.0 in
    let is : length ks.0.0.0 ≡ length all.0 = ap (λ (x : List ClusterSummary × At). length x.0) (ok_is {E = ReadError} made all last.1) in
    omega arith

with_elements-length : (es : List ℕ) (ls : List ColumnList) → length (with_elements es ls) ≡ length es
with_elements-length es [] = refl
with_elements-length [] (l ∷ ls) = refl
with_elements-length (e ∷ es) (l ∷ ls) = ap suc (with_elements-length es ls)

-- the clusters that were read behind others, and the elements that were counted
record AreRead (ks : List ClusterSummary) (elements : List ℕ) (lists : List ClusterList) (all : List ClusterList × List ℕ) : Type 0 where
  listed : length all.0 ≡ length lists + length ks
  columns : length all.1 ≡ length elements

lists_on-read : (columns : List KnownColumn) (ks : List ClusterSummary) (elements : List ℕ) (lists : List ClusterList) (here : At)
    (all : List ClusterList × List ℕ)
    → cluster_lists_on columns ks elements lists here ≡ Ok all → AreRead ks elements lists all
lists_on-read columns [] elements lists here all e =
    let is = ok_is {E = ReadError} (lists, elements) all e in
    record {
      listed = omega (arith, ap (λ (x : List ClusterList × List ℕ). length x.0) is);
      columns = sym (ap (λ (x : List ClusterList × List ℕ). length x.1) is);
    }
lists_on-read columns (k ∷ ks) elements lists here all e =
    let list = bind_ok (cluster_list_at k columns elements here)
    (λ list. cluster_lists_on columns ks (with_elements elements list.0.columns) (lists ++ list.0 ∷ []) list.1) all e in
    let r = lists_on-read columns ks (with_elements elements list.0.0.columns) (lists ++ list.0.0 ∷ []) list.0.1 all list.2 in
    record {
      listed = omega (arith, r.listed, length_push lists list.0.0);
      columns = r.columns ∙ with_elements-length elements list.0.0.columns;
    }

lists-read : (g : Group) (columns : List KnownColumn) (ks : List ClusterSummary) (elements : List ℕ) (here : At)
    (all : List ClusterList × List ℕ)
    → cluster_lists_at g columns ks elements here ≡ Ok all → AreRead ks elements [] all
unfolding cluster_lists_at
lists-read g columns ks elements here all e =
    let list = bind_ok (placed (list_at here)) _ all e in
    let few = guard_passed (eqb list.0.0.0 g.clusters) (fault bad_group here.place) (cluster_lists_on columns ks elements [] list.0.0.1)
    all list.2 in
    lists_on-read columns ks elements [] list.0.0.1 all few.1

-- a page list has as many clusters as its group, and progress counts them
pub page_list-counted : (sum : ℕ) (g : Group) (columns : List KnownColumn) (p : ProgressCounts) (here : At)
    (read : List ClusterList × ProgressCounts)
    → page_list_at sum g columns p here ≡ Ok read → IsGroupCounted g p [] read.1 read.0
unfolding page_list_at
page_list-counted sum g columns p here read e =
    let word = bind_ok (header_sum_at sum here) _ read e in
    let ks = bind_ok (summaries_at g p.clusters p.entries word.0.1) _ read word.2 in
    let all = bind_ok (cluster_lists_at g columns ks.0.0 p.elements ks.0.1) _ read ks.2 in
    let r = lists-read g columns ks.0.0 p.elements ks.0.1 all.0 all.1 in
    let made : List ClusterList × ProgressCounts = (all.0.0, with_group p g all.0.1) in
    subst (λ (x : List ClusterList × ProgressCounts). IsGroupCounted g p [] x.1 x.0) (ok_is {E = ReadError} made read all.2)
    (record {
      clusters = refl;
      entries = refl;
      columns = r.columns;
      listed = omega (arith, r.listed, summaries-length g p.clusters p.entries word.0.1 ks.0 ks.1);
    })
