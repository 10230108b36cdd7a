-- The sums of events that are made, and of chunks.
use Rattle.std.proofs.Common.{◌≡◌, ◌∙◌, ap, sym, refl, ℕ, zero, suc, ◌+◌, ◌-◌, ◌*◌, ◌/◌, ◌^◌, ◌<◌, ◌≤◌, List, [], ◌∷◌, length, map}
use Rattle.std.proofs.Common.{get_or, arith}
use Rattle.std.specs.Int.{div_ceil}
use Rattle.std.specs.List.{sum_by, flat_map}
use Rattle.std.proofs.lemmas.List.{length-map, same_lists, get_or-map}
use Rattle.std.proofs.lemmas.List.Sums.{sum_by-append, sum_by-cons}
use Rattle.std.proofs.lemmas.List.Concat.{length-flat_map}
use Rattle.std.proofs.lemmas.List.FromFn.{length-map-range_with_len, get_or-map-range_with_len}
use Rattle.std.proofs.Math.Nat.{div-le_self}
use Rattle.nt_lists.specs.Chunks.{chunks}
use Rattle.nt_lists.proofs.Groups.{length-chunks, chunks-joined}
use Rattle.nt_types.specs.TreeData.{TreesData, trees_of}
use Rattle.nt_machine.specs.Deal.{Uses, IsDeal}
use Rattle.nt_draws.specs.Draws.{drawn}
use Rattle.nt_draws.specs.Events.{number_tree, drawn_ids, ids_count, event_behind, events_behind, made_events, after_event}
use Rattle.nt_generate.specs.declared.total.Total.{Total}
use Rattle.nt_generate.specs.Numbers.{numbers_sum, entry_sum, entries_sum}
use Rattle.nt_generate.specs.Totals.{counted_to, named_clusters, context_total, totals_of}
use Rattle.nt_generate.specs.MadeTotals.{made_total, made_totals, most_events}
use Rattle.nt_generate.proofs.Returning.{come_back}

ids-below : (n s : ℕ) → numbers_sum (trees_of (map number_tree (drawn_ids n s))) ≤ n * 1000000
ids-below zero s = omega arith
ids-below (suc n) s = let rest = ids-below n (drawn s) in omega (arith, rest)

event-below : (s : ℕ) → entry_sum (event_behind s) ≤ 4000000
event-below s =
    let ids = ids-below (ids_count s) (drawn (drawn s)) in
    omega (arith, ids)

length-events_behind : (events s : ℕ) → length (events_behind events s) ≡ events
length-events_behind zero s = refl
length-events_behind (suc n) s = ap suc (length-events_behind n (after_event s))

events-below : (events s : ℕ) → entries_sum (events_behind events s) ≤ events * 4000000
events-below zero s = omega arith
events-below (suc n) s =
    let first = event-below s in
    let rest = events-below n (after_event s) in
    let both : entries_sum (events_behind (suc n) s) ≡ entry_sum (event_behind s) + entries_sum (events_behind n (after_event s)) =
    sum_by-cons entry_sum (event_behind s) (events_behind n (after_event s)) in
    omega (arith, first, rest, both)

pub same_total : (a b c x y z : ℕ) → a ≡ x → b ≡ y → c ≡ z
    → ◌≡◌ {A = Total} (record { clusters = a; entries = b; sum = c }) (record { clusters = x; entries = y; sum = z })
same_total a b c x y z is_x is_y is_z =
    ap (λ (n : ℕ). record { clusters = n; entries = b; sum = c }) is_x ∙ (ap (λ (n : ℕ). record { clusters = x; entries = n; sum = c }) is_y
    ∙ ap (λ (n : ℕ). record { clusters = x; entries = y; sum = n }) is_z)

-- the sum over lists is that of what they hold together
sum_by-joined : {X : Type 0} (f : X → ℕ) (lists : List (List X)) → sum_by (sum_by f) lists ≡ sum_by f (flat_map (λ (l : List X). l) lists)
sum_by-joined f [] = refl
sum_by-joined f (l ∷ lists) =
    sum_by-cons (sum_by f) l lists
    ∙ (ap (λ (n : ℕ). sum_by f l + n) (sum_by-joined f lists) ∙ sym (sum_by-append f l (flat_map (λ (k : List _). k) lists)))

few : (events most : ℕ) → 0 < most → events ≤ most_events → div_ceil events most ≤ 2 ^ 64 - 1
few events most some h = let less : events / most ≤ events = div-le_self events most in omega (arith, less)

pub made_total-is : (most events s : ℕ) → 0 < most → events ≤ most_events
    → context_total (chunks most (events_behind events s)) ≡ made_total most events s
made_total-is most events s some h =
    let made = events_behind events s in
    let long : length (chunks most made) ≡ div_ceil events most = length-chunks most made
    ∙ ap (λ (n : ℕ). div_ceil n most) (length-events_behind events s) in
    let joined = chunks-joined most made some in
    let entries : sum_by length (chunks most made) ≡ events =
    sym (length-flat_map (λ (l : List TreesData). l) (chunks most made)) ∙ (ap length joined ∙ length-events_behind events s) in
    let sum : sum_by entries_sum (chunks most made) ≡ entries_sum made = sum_by-joined entry_sum (chunks most made)
    ∙ ap entries_sum joined in
    let below = events-below events s in
    let clusters_fit = few events most some h in
    let one : counted_to (length (chunks most made)) ≡ div_ceil events most = ap counted_to long ∙ omega (arith, clusters_fit) in
    let two : counted_to (sum_by length (chunks most made)) ≡ events = ap counted_to entries ∙ omega (arith, h) in
    let three : counted_to (sum_by entries_sum (chunks most made)) ≡ entries_sum made = ap counted_to sum ∙ omega (arith, below, h) in
    same_total _ _ _ _ _ _ one two three

module _ (most contexts events seed : ℕ) (order : List ℕ) (dealt : List (List TreesData)) (some : 0 < most) (h : events ≤ most_events) where
  abbrev lists : List (List TreesData)
  lists = made_events contexts events seed

  length-lists : length lists ≡ contexts
  length-lists = length-map-range_with_len (events_behind events) seed contexts

  list-at : (i : ℕ) → i < contexts → get_or (map (chunks most) lists) i [] ≡ chunks most (events_behind events (seed + i))
  list-at i less =
      get_or-map (chunks most) lists i [] [] (omega (arith, less, length-lists))
      ∙ ap (chunks most) (get_or-map-range_with_len (events_behind events) seed contexts i (seed + i) [] less refl)

  pub made_totals-is : Uses order (map (chunks most) lists) → IsDeal (map (chunks most) lists) order dealt
      → totals_of contexts order dealt ≡ made_totals most contexts events seed
  made_totals-is uses deal =
      let long = length-map-range_with_len (λ i. context_total (named_clusters i order dealt)) 0 contexts in
      same_lists (totals_of contexts order dealt) (made_totals most contexts events seed)
      (long ∙ sym (length-map-range_with_len (made_total most events) seed contexts))
      (λ i d less.
      let there : i < contexts = omega (arith, less, long) in
      let inside : i < length (map (chunks most) lists) = omega (arith, there, length-lists, length-map lists (chunks most)) in
      get_or-map-range_with_len (λ i. context_total (named_clusters i order dealt)) 0 contexts i i d there (omega arith)
      ∙ (ap context_total (come_back (map (chunks most) lists) i order dealt uses deal inside ∙ list-at i there)
      ∙ (made_total-is most events (seed + i) some h
      ∙ sym (get_or-map-range_with_len (made_total most events) seed contexts i (seed + i) d there refl))))
