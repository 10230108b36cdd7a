-- Summaries that are read one behind the other.
use Rattle.std.proofs.Common.{◌≡◌, ℕ, ◌+◌, ◌-◌, ◌<◌, ◌≤◌, List, [], ◌∷◌, ◌++◌, Option, Result, Ok, refl, sym, ap, subst, ◌∙◌, arith}
use Rattle.nt_num.specs.Place.{At}
use Rattle.nt_num.specs.declared.fault.ReadError.{ReadError}
use Rattle.nt_lists.specs.Chaining.{◌>>=◌}
use Rattle.nt_lists.specs.Answering.{Refuses}
use Rattle.nt_lists.proofs.Answering.{Refuses-bind}
use Rattle.nt_pagelists.specs.declared.cluster.ClusterSummary.{ClusterSummary}
use Rattle.nt_pagelists.specs.Clusters.{summary_at, summaries_on}
use Rattle.nt_meta.proofs.Steps.{one_less, none_left}

abbrev Answer : Type 0
Answer = Result ((List ClusterSummary × ℕ) × At) ReadError

pub summaries-next : (number n i entries more_entries : ℕ) (ks more : List ClusterSummary) (here after : At) (k : ClusterSummary)
    (all : Answer) → i < n
    → summary_at (number + i) entries here ≡ Ok (k, after) → more ≡ ks ++ k ∷ [] → more_entries ≡ entries + k.entries
    → summaries_on (n - i) (number + i) entries ks here ≡ all → summaries_on (n - (i + 1)) (number + (i + 1)) more_entries more after ≡ all
summaries-next number n i entries more_entries ks more here after k all lt e new sum h =
    let next : number + i + 1 ≡ number + (i + 1) = omega arith in
    let step = ap (λ (j : ℕ). summaries_on j (number + i) entries ks here) (one_less n i lt)
    ∙ ap (λ (r : Result (ClusterSummary × At) ReadError). r >>= λ k. summaries_on (n - (i + 1)) (number + i + 1)
    (entries + k.0.entries) (ks ++ k.0 ∷ []) k.1) e in
    ap (λ (l : List ClusterSummary). summaries_on (n - (i + 1)) (number + (i + 1)) more_entries l after) new
    ∙ (ap (λ (m : ℕ). summaries_on (n - (i + 1)) (number + (i + 1)) m (ks ++ k ∷ []) after) sum
    ∙ (ap (λ (m : ℕ). summaries_on (n - (i + 1)) m (entries + k.entries) (ks ++ k ∷ []) after) (sym next) ∙ (sym step ∙ h)))

pub summaries-fail : (number n i entries : ℕ) (ks : List ClusterSummary) (here : At) (e : Option ReadError) (all : Answer) → i < n
    → Refuses e (summary_at (number + i) entries here) → summaries_on (n - i) (number + i) entries ks here ≡ all → Refuses e all
summaries-fail number n i entries ks here e all lt f h =
    subst (Refuses e) (sym (ap (λ (j : ℕ). summaries_on j (number + i) entries ks here) (one_less n i lt)) ∙ h)
    (Refuses-bind e (summary_at (number + i) entries here) (λ k. summaries_on (n - (i + 1)) (number + i + 1) (entries + k.0.entries)
    (ks ++ k.0 ∷ []) k.1) f)

pub summaries-done : (number n i entries : ℕ) (ks : List ClusterSummary) (here : At) (all : Answer) → n ≤ i
    → summaries_on (n - i) (number + i) entries ks here ≡ all → all ≡ Ok ((ks, entries), here)
summaries-done number n i entries ks here all le h = sym h ∙ ap (λ (j : ℕ). summaries_on j (number + i) entries ks here) (none_left n i le)

pub summaries-start : (number n entries same : ℕ) (here : At) → same ≡ entries → summaries_on (n - 0) (number + 0) same [] here
    ≡ summaries_on n number entries [] here
summaries-start number n entries same here e =
    let none : number + 0 ≡ number = omega arith in
    let all : n - 0 ≡ n = omega arith in
    rw (none, all, e) refl

pub ruleset summary_steps = (summaries-next, summaries-fail, summaries-done, summaries-start)
