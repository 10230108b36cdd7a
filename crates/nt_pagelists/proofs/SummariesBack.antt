-- What is written of the entries of clusters is read back.
use Rattle.std.proofs.Common.{◌≡◌, ℕ, suc, ◌+◌, ◌-◌, ◌<◌, ◌^◌, true, ltb, eqb, List, [], ◌∷◌, ◌++◌, length, Result}
use Rattle.std.proofs.Common.{Ok, refl, sym, ap, ◌∙◌, append_assoc, eq-eqb, arith}
use Rattle.std.specs.Int.{w64, to_le_bytes}
use Rattle.std.proofs.lemmas.Bool.{lt-ltb}
use Rattle.std.proofs.lemmas.List.{append-nil, length-append}
use Rattle.nt_num.specs.Place.{At}
use Rattle.nt_num.specs.declared.fault.ReadError.{ReadError}
use Rattle.nt_lists.specs.Chaining.{◌>>=◌}
use Rattle.nt_format.specs.Reading.{standing, ReadsAs}
use Rattle.nt_format.specs.Frames.{record_at}
use Rattle.nt_format.proofs.Chains.{alone}
use Rattle.nt_format.proofs.Placed.{u64_at, u64-reads}
use Rattle.nt_format.proofs.Frames.{record_again}
use Rattle.nt_pagelists.specs.declared.column.KnownColumn.{KnownColumn}
use Rattle.nt_pagelists.specs.declared.cluster.ClusterSummary.{ClusterSummary}
use Rattle.nt_pagelists.specs.Clusters.{first_entry_at}
use Rattle.nt_pagelists.specs.Clusters.{entry_count_at, summary_at, summaries_on}
use Rattle.nt_pagelists.specs.Writing.{ListedCluster, summary_text}
use Rattle.nt_pagelists.specs.Writing.{summary_texts}
use Rattle.nt_pagelists.specs.ReadingBack.{with_listed}
use Rattle.nt_pagelists.specs.ReadingBack.{listed_entries, AreListedClusters}

abbrev pub clusters : List ListedCluster → List ClusterSummary
clusters [] = []
clusters (w ∷ ws) = w.summary ∷ clusters ws

-- summaries

summary-chain : (number entries place end : ℕ) (f a b rest : List ℕ) (first count : ℕ)
    → record_at (standing place (f ++ rest)) ≡ Ok (standing (place + 8) (a ++ b), standing end rest)
    → ReadsAs (first_entry_at number entries place) a first → ReadsAs (entry_count_at number place) b count
    → summary_at number entries (standing place (f ++ rest)) ≡ Ok (
      record {
        number = number;
        first = first;
        entries = count;
      },
      standing end rest,
    )
unfolding summary_at
summary-chain number entries place end f a b rest first count frame p q =
    let count_is = alone (entry_count_at number place) b count q (place + 8 + length a) in
    rw (frame, p (place + 8) b, count_is) refl

first-reads : (number entries frame : ℕ) → entries < 2 ^ 64
    → ReadsAs (first_entry_at number entries frame) (to_le_bytes w64 entries) entries
unfolding first_entry_at u64_at
first-reads number entries frame fits place rest =
    let same : eqb entries entries ≡ true = eq-eqb _ _ refl in
    rw (u64-reads entries fits place rest, same) refl

entries-read : (number frame count : ℕ) → count < 2 ^ 56 → ReadsAs (entry_count_at number frame) (to_le_bytes w64 count) count
unfolding entry_count_at u64_at
entries-read number frame count fits place rest =
    let low : ltb count (2 ^ 56) ≡ true = lt-ltb _ _ fits in
    rw (u64-reads count (omega arith) place rest, low) refl

summary-reads : (k : ClusterSummary) → k.first < 2 ^ 64 → k.entries < 2 ^ 56 → ReadsAs (summary_at k.number k.first) (summary_text k) k
summary-reads k low fits place rest =
    let a = to_le_bytes w64 k.first in
    let b = to_le_bytes w64 k.entries in
    let end : place + (8 + length (a ++ b)) ≡ place + length (summary_text k) = omega arith in
    let frame = record_again (a ++ b) rest place (omega arith) ∙ ap (λ (n : ℕ). Ok (standing (place + 8) (a ++ b), standing n rest)) end in
    summary-chain k.number k.first place (place + length (summary_text k)) (summary_text k) a b rest k.first k.entries frame
    (first-reads k.number k.first place low) (entries-read k.number place k.entries fits)

pub summaries-read : (columns : List KnownColumn) (number entries : ℕ) (elements : List ℕ) (ks : List ClusterSummary)
    (ws : List ListedCluster) (place : ℕ) (rest : List ℕ) → AreListedClusters columns number entries elements ws
    → summaries_on (length ws) number entries ks (standing place (summary_texts ws ++ rest))
    ≡ Ok ((ks ++ clusters ws, entries + listed_entries ws), standing (place + length (summary_texts ws)) rest)
summaries-read columns number entries elements ks [] place rest are =
    let end : place ≡ place + 0 = omega arith in
    let sum : entries ≡ entries + 0 = omega arith in
    ap (λ (l : List ClusterSummary). Ok ((l, entries), standing place rest)) (sym (append-nil ks))
    ∙ (ap (λ (n : ℕ). Ok ((ks ++ [], entries), standing n rest)) end
    ∙ ap (λ (n : ℕ). Ok ((ks ++ [], n), standing (place + 0) rest)) sum)
summaries-read columns number entries elements ks (w ∷ ws) place rest are =
    let next = place + length (summary_text w.summary) in
    let is = are.0 in
    let low : w.summary.first < 2 ^ 64 = omega (arith, is.begins, is.low) in
    let own = summary-reads w.summary low is.size place (summary_texts ws ++ rest) in
    let first = ap (λ (n : ℕ). summary_at n entries (standing place (summary_text w.summary ++ (summary_texts ws ++ rest))))
    (sym is.numbered)
    ∙ (ap (λ (n : ℕ). summary_at w.summary.number n (standing place (summary_text w.summary ++ (summary_texts ws ++ rest))))
    (sym is.begins) ∙ own) in
    let others = summaries-read columns (number + 1) (entries + w.summary.entries) (with_listed elements w.columns) (ks ++ w.summary
    ∷ []) ws next rest are.1 in
    let end : next + length (summary_texts ws) ≡ place + length (summary_text w.summary ++ summary_texts ws) =
    omega (arith, length-append (summary_text w.summary) (summary_texts ws)) in
    let sum : entries + w.summary.entries + listed_entries ws ≡ entries + (w.summary.entries + listed_entries ws) = omega arith in
    ap (λ (b : List ℕ). summaries_on (suc (length ws)) number entries ks (standing place b))
    (append_assoc (summary_text w.summary) (summary_texts ws) rest)
    ∙ (ap (λ (x : Result (ClusterSummary × At) ReadError). x >>= λ k. summaries_on (length ws) (number + 1) (entries + k.0.entries)
    (ks ++ k.0 ∷ []) k.1) first
    ∙ (others ∙ (ap (λ (l : List ClusterSummary). Ok (
      (l, entries + w.summary.entries + listed_entries ws),
      standing (next + length (summary_texts ws)) rest,
    )) (append_assoc ks (w.summary ∷ []) (clusters ws))
    ∙ (ap (λ (n : ℕ). Ok ((ks ++ w.summary ∷ clusters ws, n), standing (next + length (summary_texts ws)) rest)) sum
    ∙ ap (λ (n : ℕ). Ok ((ks ++ w.summary ∷ clusters ws, entries + (w.summary.entries + listed_entries ws)), standing n rest)) end))))
