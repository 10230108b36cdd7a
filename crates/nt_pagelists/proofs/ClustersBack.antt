-- What is written of clusters is read back.
use Rattle.std.proofs.Common.{◌≡◌, ℕ, ◌+◌, ◌-◌, ◌<◌, ◌≤◌, ◌^◌, min, true, false, ltb, eqb, List, [], ◌∷◌, ◌++◌, length, drop, Result}
use Rattle.std.proofs.Common.{Ok, refl, sym, ap, ◌∙◌, append_assoc, eq-eqb, arith}
use Rattle.std.specs.Int.{w64, to_le_bytes}
use Rattle.std.proofs.lemmas.Bool.{le-ltb}
use Rattle.std.proofs.lemmas.List.{append-nil}
use Rattle.nt_num.specs.Place.{At}
use Rattle.nt_num.specs.declared.fault.ReadError.{ReadError}
use Rattle.nt_lists.specs.Chaining.{◌>>=◌}
use Rattle.nt_format.specs.Reading.{standing, ReadsAs}
use Rattle.nt_format.specs.Frames.{list_frame, list_at}
use Rattle.nt_pagelists.specs.declared.column.KnownColumn.{KnownColumn}
use Rattle.nt_pagelists.specs.declared.cluster.ClusterSummary.{ClusterSummary}
use Rattle.nt_pagelists.specs.declared.cluster.ColumnList.{ColumnList}
use Rattle.nt_pagelists.specs.declared.cluster.ClusterList.{ClusterList}
use Rattle.nt_pagelists.specs.declared.group.Group.{Group}
use Rattle.nt_pagelists.specs.Columns.{paged_elements, judged_unlisted}
use Rattle.nt_pagelists.specs.Pages.{column_lists_on}
use Rattle.nt_pagelists.specs.Clusters.{outer_list_at, cluster_list_at, with_elements, cluster_lists_on, cluster_lists_at}
use Rattle.nt_pagelists.specs.Clusters.{summaries_on, summaries_at}
use Rattle.nt_pagelists.specs.PageLists.{ProgressCounts, with_group, header_sum_at, page_list_at}
use Rattle.nt_pagelists.specs.Writing.{ListedColumn, ListedCluster, column_list_texts, cluster_list_text, cluster_list_texts}
use Rattle.nt_pagelists.specs.Writing.{summary_texts, page_list_text}
use Rattle.nt_pagelists.specs.ReadingBack.{column_lists_from, cluster_list_from, cluster_lists_from, first_cluster_place, with_listed}
use Rattle.nt_pagelists.specs.ReadingBack.{with_all_listed, listed_entries, IsListedCluster, AreListedClusters}
use Rattle.nt_pagelists.proofs.Parts.{list-reads, sum-reads, front-below, back-below}
use Rattle.nt_pagelists.proofs.ColumnsBack.{columns-read, unlisted-fine}
use Rattle.nt_pagelists.proofs.SummariesBack.{clusters, summaries-read}

-- a cluster

outer-reads : (k : ClusterSummary) (columns : List KnownColumn) (n place : ℕ) (inside rest : List ℕ) → n < 2 ^ 32
    → n ≤ length columns → 12 + length inside < 2 ^ 63
    → outer_list_at k columns (standing place (list_frame n inside ++ rest))
    ≡ Ok ((n, standing (place + 12) inside), standing (place + length (list_frame n inside)) rest)
unfolding outer_list_at
outer-reads k columns n place inside rest small few fits =
    let listed : ltb (length columns) n ≡ false = le-ltb _ _ few in
    rw (list-reads n place inside rest small fits, listed) refl

cluster-chain : (k : ClusterSummary) (columns : List KnownColumn) (elements : List ℕ) (place end inner n : ℕ)
    (lists : List ColumnList) (f inside rest : List ℕ)
    → outer_list_at k columns (standing place (f ++ rest)) ≡ Ok ((n, standing (place + 12) inside), standing end rest)
    → column_lists_on k columns elements n [] (standing (place + 12) inside) ≡ Ok (lists, standing inner [])
    → judged_unlisted k place n (drop n columns) ≡ Ok tt
    → cluster_list_at k columns elements (standing place (f ++ rest)) ≡ Ok (
      record {
        first = k.first;
        entries = k.entries;
        outer = place;
        columns = lists;
      },
      standing end rest,
    )
unfolding cluster_list_at
cluster-chain k columns elements place end inner n lists f inside rest outer on fine = rw (outer, on, fine) refl

cluster-reads : (columns : List KnownColumn) (number entries : ℕ) (elements : List ℕ) (w : ListedCluster) → length columns < 2 ^ 32
    → IsListedCluster columns number entries elements w
    → length (cluster_list_text w) < 2 ^ 63 → (place : ℕ) (rest : List ℕ)
    → cluster_list_at w.summary columns elements (standing place (cluster_list_text w ++ rest))
    ≡ Ok (cluster_list_from place w, standing (place + length (cluster_list_text w)) rest)
cluster-reads columns number entries elements w few is fits place rest =
    let inside = column_list_texts w.columns in
    let n = length w.columns in
    let on = ap (λ (b : List ℕ). column_lists_on w.summary columns elements n [] (standing (place + 12) b)) (sym (append-nil inside))
    ∙ columns-read w.summary columns elements [] w.columns (place + 12) [] is.listed (omega (arith, fits)) in
    cluster-chain w.summary columns elements place (place + length (cluster_list_text w)) (place + 12 + length inside) n
    (column_lists_from (place + 12) w.columns) (cluster_list_text w) inside rest
    (outer-reads w.summary columns n place inside rest (omega (arith, is.few, few)) is.few (omega (arith, fits))) on
    (unlisted-fine w.summary place n (drop n columns) is.unlisted)

added-gained : (es : List ℕ) (place : ℕ) (ls : List ListedColumn) → with_elements es (column_lists_from place ls) ≡ with_listed es ls
added-gained es place [] = refl
added-gained [] place (l ∷ ls) = refl
added-gained (e ∷ es) place (l ∷ ls) = ap (λ (x : List ℕ). min (e + paged_elements l.pages) (2 ^ 64 - 1) ∷ x) (added-gained es _ ls)

clusters-read : (columns : List KnownColumn) (number entries : ℕ) (elements : List ℕ) (lists : List ClusterList)
    (ws : List ListedCluster) (place : ℕ) (rest : List ℕ) → length columns < 2 ^ 32
    → AreListedClusters columns number entries elements ws → length (cluster_list_texts ws) < 2 ^ 63
    → cluster_lists_on columns (clusters ws) elements lists (standing place (cluster_list_texts ws ++ rest))
    ≡ Ok (lists ++ cluster_lists_from place ws, with_all_listed elements ws)
clusters-read columns number entries elements lists [] place rest few are fits =
    ap (λ (l : List ClusterList). Ok (l, elements)) (sym (append-nil lists))
clusters-read columns number entries elements lists (w ∷ ws) place rest few are fits =
    let one : ClusterList = cluster_list_from place w in
    let next = place + length (cluster_list_text w) in
    let first : cluster_list_at w.summary columns elements (standing place (cluster_list_text w ++ (cluster_list_texts ws ++ rest)))
    ≡ Ok (one, standing next (cluster_list_texts ws ++ rest)) =
    cluster-reads columns number entries elements w few are.0 (front-below (cluster_list_text w) (cluster_list_texts ws) (2 ^ 63)
    fits) place (cluster_list_texts ws ++ rest) in
    let others = clusters-read columns (number + 1) (entries + w.summary.entries) (with_listed elements w.columns)
    (lists ++ one ∷ []) ws next rest few are.1 (back-below (cluster_list_text w) (cluster_list_texts ws) (2 ^ 63) fits) in
    ap (λ (b : List ℕ). cluster_lists_on columns (w.summary ∷ clusters ws) elements lists (standing place b))
    (append_assoc (cluster_list_text w) (cluster_list_texts ws) rest)
    ∙ (ap (λ (x : Result (ClusterList × At) ReadError). x >>= λ list. cluster_lists_on columns (clusters ws)
    (with_elements elements list.0.columns) (lists ++ list.0 ∷ []) list.1) first
    ∙ (ap (λ (es : List ℕ). cluster_lists_on columns (clusters ws) es (lists ++ one ∷ [])
    (standing next (cluster_list_texts ws ++ rest))) (added-gained elements (place + 12) w.columns)
    ∙ (others ∙ ap (λ (x : List ClusterList). Ok (x, with_all_listed (with_listed elements w.columns) ws))
    (append_assoc lists (one ∷ []) (cluster_lists_from next ws)))))

-- the whole

summaries-chain : (g : Group) (number entries place end inner : ℕ) (ks : List ClusterSummary) (f inside rest : List ℕ)
    → list_at (standing place (f ++ rest)) ≡ Ok ((g.clusters, standing (place + 12) inside), standing end rest)
    → summaries_on g.clusters number entries [] (standing (place + 12) inside) ≡ Ok ((ks, entries + g.span), standing inner [])
    → summaries_at g number entries (standing place (f ++ rest)) ≡ Ok (ks, standing end rest)
unfolding summaries_at
summaries-chain g number entries place end inner ks f inside rest list on =
    let same : eqb g.clusters g.clusters ≡ true = eq-eqb _ _ refl in
    let whole : eqb (entries + g.span) (entries + g.span) ≡ true = eq-eqb _ _ refl in
    rw (list, same, on, whole) refl

clusters-chain : (g : Group) (columns : List KnownColumn) (ks : List ClusterSummary) (elements : List ℕ) (place end : ℕ)
    (all : List ClusterList × List ℕ) (f inside rest : List ℕ)
    → list_at (standing place (f ++ rest)) ≡ Ok ((g.clusters, standing (place + 12) inside), standing end rest)
    → cluster_lists_on columns ks elements [] (standing (place + 12) inside) ≡ Ok all
    → cluster_lists_at g columns ks elements (standing place (f ++ rest)) ≡ Ok all
unfolding cluster_lists_at
clusters-chain g columns ks elements place end all f inside rest list on =
    let same : eqb g.clusters g.clusters ≡ true = eq-eqb _ _ refl in
    rw (list, same, on) refl

whole-chain : (sum place : ℕ) (g : Group) (columns : List KnownColumn) (p : ProgressCounts) (ks : List ClusterSummary)
    (lists : List ClusterList) (elements : List ℕ) (a b c rest : List ℕ)
    → ReadsAs (header_sum_at sum) a sum → ReadsAs (summaries_at g p.clusters p.entries) b ks
    → cluster_lists_at g columns ks p.elements (standing (place + length a + length b) (c ++ rest)) ≡ Ok (lists, elements)
    → page_list_at sum g columns p (standing place (a ++ (b ++ (c ++ rest)))) ≡ Ok (lists, with_group p g elements)
unfolding page_list_at
whole-chain sum place g columns p ks lists elements a b c rest q r s =
    rw (q place (b ++ (c ++ rest)), r (place + length a) (c ++ rest), s) refl

pub page-list-reads : (sum : ℕ) (g : Group) (columns : List KnownColumn) (p : ProgressCounts) (ws : List ListedCluster)
    (place : ℕ) (rest : List ℕ)
    → sum < 2 ^ 64 → length columns < 2 ^ 32 → length ws < 2 ^ 32 → g.clusters ≡ length ws → g.span ≡ listed_entries ws
    → AreListedClusters columns p.clusters p.entries p.elements ws → length (page_list_text sum ws) < 2 ^ 63
    → page_list_at sum g columns p (standing place (page_list_text sum ws ++ rest))
    ≡ Ok (cluster_lists_from (first_cluster_place place ws) ws, with_group p g (with_all_listed p.elements ws))
unfolding page_list_text
page-list-reads sum g columns p ws place rest fits few small count span are short =
    let a = to_le_bytes w64 sum in
    let b = list_frame (length ws) (summary_texts ws) in
    let c = list_frame (length ws) (cluster_list_texts ws) in
    let grouped : (a ++ (b ++ c)) ++ rest ≡ a ++ (b ++ (c ++ rest)) = simp append_assoc in
    let both : length (b ++ c) < 2 ^ 63 = back-below a (b ++ c) (2 ^ 63) short in
    let b_short : 12 + length (summary_texts ws) < 2 ^ 63 = omega (arith, front-below b c (2 ^ 63) both) in
    let c_short : 12 + length (cluster_list_texts ws) < 2 ^ 63 = omega (arith, back-below b c (2 ^ 63) both) in
    let summed : ReadsAs (summaries_at g p.clusters p.entries) b (clusters ws) = λ at more.
    summaries-chain g p.clusters p.entries at (at + length b) (at + 12 + length (summary_texts ws)) (clusters ws) b (summary_texts ws) more
    (list-reads (length ws) at (summary_texts ws) more small b_short
    ∙ ap (λ (n : ℕ). Ok ((n, standing (at + 12) (summary_texts ws)), standing (at + length b) more)) (sym count))
    (ap (λ (l : List ℕ). summaries_on g.clusters p.clusters p.entries [] (standing (at + 12) l)) (sym (append-nil (summary_texts ws)))
    ∙ (ap (λ (n : ℕ). summaries_on n p.clusters p.entries [] (standing (at + 12) (summary_texts ws ++ []))) count
    ∙ (summaries-read columns p.clusters p.entries p.elements [] ws (at + 12) [] are
    ∙ ap (λ (n : ℕ). Ok ((clusters ws, p.entries + n), standing (at + 12 + length (summary_texts ws)) [])) (sym span)))) in
    let listed = clusters-chain g columns (clusters ws) p.elements (place + 8 + length (list_frame (length ws) (summary_texts ws)))
    (place + 8 + length (list_frame (length ws) (summary_texts ws)) + length c)
    (cluster_lists_from (first_cluster_place place ws) ws, with_all_listed p.elements ws) c (cluster_list_texts ws) rest
    (list-reads (length ws) (place + 8 + length (list_frame (length ws) (summary_texts ws))) (cluster_list_texts ws) rest small
    c_short ∙ ap (λ (n : ℕ). Ok (
      (n, standing (first_cluster_place place ws) (cluster_list_texts ws)),
      standing (place + 8 + length (list_frame (length ws) (summary_texts ws)) + length c) rest,
    )) (sym count))
    (ap (λ (l : List ℕ). cluster_lists_on columns (clusters ws) p.elements [] (standing (first_cluster_place place ws) l))
    (sym (append-nil (cluster_list_texts ws)))
    ∙ clusters-read columns p.clusters p.entries p.elements [] ws (first_cluster_place place ws) [] few are (omega (arith, c_short))) in
    ap (λ (l : List ℕ). page_list_at sum g columns p (standing place l)) grouped
    ∙ whole-chain sum place g columns p (clusters ws) (cluster_lists_from (first_cluster_place place ws) ws)
    (with_all_listed p.elements ws) a b c rest (sum-reads sum fits) summed listed
