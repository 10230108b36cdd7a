-- Groups that are read one behind the other.
use Rattle.std.proofs.Common.{◌≡◌, ℕ, ◌+◌, ◌-◌, ◌<◌, ◌≤◌, List, [], ◌∷◌, ◌++◌, Option, Result, Ok, sym, ap, subst, ◌∙◌}
use Rattle.nt_num.specs.Place.{At}
use Rattle.nt_num.specs.declared.fault.ReadError.{ReadError}
use Rattle.nt_lists.specs.Chaining.{◌>>=◌}
use Rattle.nt_lists.specs.Answering.{Refuses}
use Rattle.nt_lists.proofs.Answering.{Refuses-bind}
use Rattle.nt_pagelists.specs.declared.group.Group.{Group}
use Rattle.nt_pagelists.specs.ClusterGroups.{group_at, groups_on}
use Rattle.nt_meta.proofs.Steps.{one_less, none_left}

abbrev Answer : Type 0
Answer = Result (List Group × At) ReadError

pub groups-next : (n i entries clusters : ℕ) (gs more : List Group) (here after : At) (g : Group) (all : Answer) → i < n
    → group_at entries clusters here ≡ Ok (g, after) → more ≡ gs ++ g ∷ []
    → groups_on (n - i) entries clusters gs here ≡ all → groups_on (n - (i + 1)) (entries + g.span) (clusters + g.clusters) more after ≡ all
groups-next n i entries clusters gs more here after g all lt e new h =
    let step = ap (λ (k : ℕ). groups_on k entries clusters gs here) (one_less n i lt)
    ∙ ap (λ (r : Result (Group × At) ReadError). r >>= λ g. groups_on (n - (i + 1)) (entries + g.0.span)
    (clusters + g.0.clusters) (gs ++ g.0 ∷ []) g.1) e in
    ap (λ (l : List Group). groups_on (n - (i + 1)) (entries + g.span) (clusters + g.clusters) l after) new ∙ (sym step ∙ h)

pub groups-fail : (n i entries clusters : ℕ) (gs : List Group) (here : At) (e : Option ReadError) (all : Answer) → i < n
    → Refuses e (group_at entries clusters here) → groups_on (n - i) entries clusters gs here ≡ all → Refuses e all
groups-fail n i entries clusters gs here e all lt f h =
    subst (Refuses e) (sym (ap (λ (k : ℕ). groups_on k entries clusters gs here) (one_less n i lt)) ∙ h)
    (Refuses-bind e (group_at entries clusters here) (λ g. groups_on (n - (i + 1)) (entries + g.0.span) (clusters + g.0.clusters)
    (gs ++ g.0 ∷ []) g.1) f)

pub groups-done : (n i entries clusters : ℕ) (gs : List Group) (here : At) (all : Answer) → n ≤ i
    → groups_on (n - i) entries clusters gs here ≡ all → all ≡ Ok (gs, here)
groups-done n i entries clusters gs here all le h = sym h ∙ ap (λ (k : ℕ). groups_on k entries clusters gs here) (none_left n i le)

pub ruleset group_steps = (groups-next, groups-fail, groups-done)
