-- Each step of a pass keeps the rule.
use Rattle.std.proofs.Common.{◌≡◌, ◌≢◌, ⊎_elim, ℕ, ◌+◌, ◌%◌, ◌^◌, ◌<◌, ◌==◌, Bool, true, false, List, [], ◌∷◌, ◌++◌, set, refl, sym, ap}
use Rattle.std.proofs.Common.{◌∙◌, subst, append-nil, arith}
use Rattle.std.specs.Prelude.{slice_index, slice_set}
use Rattle.std.specs.List.{AllByRecursion}
use Rattle.std.proofs.lemmas.Bool.Decides.{nat_tests}
use Rattle.std.specs.declared.option.Option.{Option}
use Rattle.std.specs.declared.option.Option.TheVariants.{Some}
use mathlib.Core.Option.{Option as Maybe, some, none, some-injective, some-ne-none}
use mathlib.Core.List.{IsPrefix}
use lib.ListN.{get_elem?}
use prog.Atomic.{either}
use Rattle.atomic_table.specs.Table.{State, Me, Act, Valid, Allows, step, keeps, takes, gives, homes_after, carried_after}
use Rattle.atomic_table.specs.Table.{rest}
use Rattle.atomic_table.proofs.Lists.{set_again}
use Rattle.nt_turn.specs.declared.view.Stage.{Stage}
use Rattle.nt_turn.specs.declared.view.Stage.TheVariants.{Idle, Waiting, Holding}
use Rattle.nt_turn.specs.declared.view.View.{View}
use Rattle.nt_turn.specs.Tickets.{ticket_of, IsHome, Ordered}
use Rattle.nt_turn.specs.History.{entries_of, longer}
use Rattle.nt_turn.specs.View.{IsAt, stages}
use Rattle.nt_turn.specs.Steps.{Drew, Looked, Holds, Gave, Learned}
use Rattle.nt_turn.specs.Rule.{Knows, Histories, InTurn}
use Rattle.nt_turn.proofs.Tickets.{drawn, taken, given}
use Rattle.nt_turn.proofs.Stages.{stages_set, stage_at}
use Rattle.nt_turn.proofs.Prefixes.{prefix_longer, prefix_none}
use Rattle.nt_turn.proofs.Histories.{moved, gave}

-- the slot of a pass that took one
pub one_slot : {A : Type 0} (l : List (ℕ × A)) (y : A) → l ≡ (0, y) ∷ [] → l ≡ (0, y) ∷ rest l
one_slot {A = A} l y e = e ∙ ap (λ (m : List (ℕ × A)). (0, y) ∷ m) (sym (ap rest e))

module _ {V E B : Type 0} (history : V → List E) (born : V → B) (context : E → ℕ) (birth : B) (seats : ℕ) where
  -- the rule
  abbrev pub Rule : State (Option V) (View E B) → Type 0
  Rule s = InTurn history born context birth seats s.words s.homes s.views

  -- what the table may become, at these words
  abbrev Goes : ℕ → Me (Option V) (View E B) → ℕ → (ℕ → ℕ) → (ℕ → Me (Option V) (View E B) → Type 0) → List (Maybe (Option V))
      → List (View E B) → List ℕ → Type 0
  Goes id me i f then homes views words =
      (w : View E B) × (a : Act (Option V)) × Valid homes me.1 a × InTurn history born context birth seats
      (slice_set words i (f (slice_index words i))) (homes_after homes me.1 a) (slice_set views id w)
      × then (slice_index words i) (w, carried_after me.1 a)

  -- a change of the stage alone leads from stages to stages
  restaged : (next serving : ℕ) (homes : List (Maybe (Option V))) (views : List (View E B)) (id : ℕ) (w : View E B)
      → Ordered next serving homes (set (stages views) id w.stage) → Ordered next serving homes (stages (set views id w))
  restaged next serving homes views id w o = subst (λ (l : List Stage). Ordered next serving homes l) (sym (stages_set views id w)) o

  module _ (slots id next serving : ℕ) (homes : List (Maybe (Option V))) (views : List (View E B))
      (o : Ordered next serving homes (stages views)) (h : Histories history born context birth seats homes views) (v : View E B)
      (at : IsAt views id v) where
    knows : Knows context birth h.all v
    knows = h.each id v at

    draw_goes : (old : ℕ) → old + 1 < 2 ^ 64 → v.stage ≡ Idle → (b : Bool) → (next == old) ≡ b
        → Goes id (v, []) 0 (λ n. either (n == old) (old + 1) n) (Drew (step slots 0 old (old + 1) none) (v, [])) homes views
        (next ∷ serving ∷ [])
    draw_goes old room idle true is =
        let same : next ≡ old = grind (arith, nat_tests) in
        let fits : next + 1 < 2 ^ 64 = omega arith in
        let word : either (next == old) (old + 1) next ≡ next + 1 = rw is (omega arith) in
        let w : View E B = record v { stage = Waiting next } in
        let said : Drew (step slots 0 old (old + 1) none) (v, []) next (w, []) = rw is refl in
        let idle_at : get_elem? (stages views) id ≡ some Idle = stage_at views id v at.0 ∙ ap some idle in
        let tickets = restaged (next + 1) serving homes views id w (drawn next serving homes (stages views) o id fits idle_at) in
        let kept = moved history born context birth seats homes views h id v at w (record {
          live = refl;
          number = refl;
          own = refl;
          birth = refl;
          splits = refl;
          kept = refl;
        }) knows.seen knows.told (λ t e. absurd (waits next t e)) homes (λ y e. e) in
        (w, keeps, tt, (next + 1, serving, ap (λ (k : ℕ). k ∷ serving ∷ []) word, tickets, kept), said)
      where
        waits : (s t : ℕ) → Waiting s ≡ Holding t → ⊥
        waits s t e = cc e
    draw_goes old room idle false is =
        let word : either (next == old) (old + 1) next ≡ next = rw is refl in
        let stay : set views id v ≡ views = set_again views id v at.0 in
        let said : Drew (step slots 0 old (old + 1) none) (v, []) next (v, []) = rw is refl in (
          v,
          keeps,
          tt,
          subst (InTurn history born context birth seats (either (next == old) (old + 1) next ∷ serving ∷ []) homes)
              (sym stay) (next, serving, ap (λ (k : ℕ). k ∷ serving ∷ []) word, o, h),
          said,
        )

    -- nobody else holds the value while this pass does
    alone : (t : ℕ) → v.stage ≡ Holding t → (by s : ℕ) (u : View E B) → by ≢ id → IsAt views by u → u.stage ≡ Holding s → ⊥
    alone t holds by s u off e f =
        let own : get_elem? (stages views) id ≡ some (Holding t) = stage_at views id v at.0 ∙ ap some holds in
        let hers : get_elem? (stages views) by ≡ some (Holding s) = stage_at views by u e.0 ∙ ap some f in
        let same : s ≡ t = (o.holding by s hers).0 ∙ sym (o.holding id t own).0 in
        off (o.apart by id s (Holding s) (Holding t) hers own refl same)

    look_goes : (t : ℕ) → v.stage ≡ Waiting t → (b : Bool) → (serving == t) ≡ b
        → Goes id (v, []) 1 (λ n. n) (Looked history born context (step slots 1 0 0 none) (v, [])) homes views (next ∷ serving ∷ [])
    look_goes t waits true is =
        let same : serving ≡ t = grind (arith, nat_tests) in
        let own : get_elem? (stages views) id ≡ some (Waiting serving) =
        stage_at views id v at.0 ∙ (ap some waits ∙ ap (λ (k : ℕ). some (Waiting k)) (sym same)) in
        let home : IsHome homes = ⊎_elim (λ x. x) (λ x. absurd (clash x.1.0 x.1.1 own)) o.home in
        let x = h.home home.0 home.1 in
        let out : slice_set homes 0 none ≡ none ∷ [] = ap (λ (l : List (Maybe (Option V))). slice_set l 0 none) home.1 in
        let w : View E B = record v { stage = Holding serving; seen = history x.0 } in
        let tickets : Ordered {A = Option V} next serving (none ∷ []) (stages (set views id w)) =
        restaged next serving (none ∷ []) views id w (taken next serving homes (stages views) o id home.0 home.1 own) in
        let whole : IsPrefix (history x.0) h.all = ([], append-nil (history x.0) ∙ x.2) in
        let kept = moved history born context birth seats homes views h id v at w (record {
          live = refl;
          number = refl;
          own = refl;
          birth = refl;
          splits = refl;
          kept = refl;
        }) whole knows.told (λ s e. x.2) (none ∷ []) (λ y e. absurd (empty y e)) in
        let both : Ordered next serving (slice_set homes 0 none) (stages (set views id w))
        × Histories history born context birth seats (slice_set homes 0 none) (set views id w)
        = subst (λ (l : List (Maybe (Option V))). Ordered next serving l (stages (set views id w))
        × Histories history born context birth seats l (set views id w)) (sym out) (tickets, kept) in
        let ticket : ticket_of v.stage ≡ serving = ap ticket_of waits ∙ sym same in
        let found : (serving == ticket_of v.stage) ≡ true = ap (λ (k : ℕ). serving == k) (ap ticket_of waits) ∙ is in
        let told : Holds history born context (ticket_of v.stage) (v, []) (w, (0, home.0) ∷ []) = record {
          value = x.0;
          is =
              ap (λ (k : ℕ). (record v { stage = Holding k; seen = history x.0 }, (0, home.0) ∷ [])) (sym ticket)
              ∙ ap (λ (y : Option V). (record v { stage = Holding (ticket_of v.stage); seen = history x.0 }, (0, y) ∷ [])) x.1;
          seen = subst (IsPrefix v.seen) (sym x.2) knows.seen;
          own = knows.own ∙ ap (λ (l : List E). entries_of context l v.number) (sym x.2);
          birth = knows.birth ∙ ap (λ (b : B). Some b) (sym x.3);
        } in
        let said : Looked history born context (step slots 1 0 0 none) (v, []) serving (w, (0, home.0) ∷ []) = rw found told in
        (w, takes 0 home.0, ap (λ (l : List (Maybe (Option V))). get_elem? l 0) home.1, (next, serving, refl, both.0, both.1), said)
      where
        clash : (by : ℕ) → get_elem? (stages views) by ≡ some (Holding serving) → get_elem? (stages views) id ≡ some (Waiting serving) → ⊥
        clash by e own =
            let same : by ≡ id = o.apart by id serving (Holding serving) (Waiting serving) e own refl refl in
            let both : some (Holding serving) ≡ some (Waiting serving) =
            sym e ∙ (ap (get_elem? (stages views)) same ∙ own) in cc (some-injective _ _ both)

        empty : (y : Option V) → none ∷ [] ≡ some y ∷ [] → ⊥
        empty y e = let both : none ≡ some y = cc e in some-ne-none y (sym both)
    look_goes t waits false is =
        let stay : set views id v ≡ views = set_again views id v at.0 in
        let said : Looked history born context (step slots 1 0 0 none) (v, []) serving (v, []) = rw (waits, is) refl in (
          v,
          keeps,
          tt,
          subst (InTurn history born context birth seats (next ∷ serving ∷ []) homes) (sym stay)
              (next, serving, refl, o, h),
          said,
        )

    give_goes : (t : ℕ) → v.stage ≡ Holding t → (x : V) (more : List E) → history x ≡ v.seen ++ more
        → AllByRecursion (λ e. context e ≡ v.number) more → born x ≡ birth
        → Goes id (v, (0, Some x) ∷ []) 1 (λ n. (n + 1) % 2 ^ 64)
        (Gave history context (step slots 1 1 0 none) (v, (0, Some x) ∷ [])) homes views (next ∷ serving ∷ [])
    give_goes t holds x more is ours birth_is =
        let held : get_elem? (stages views) id ≡ some (Holding t) = stage_at views id v at.0 ∙ ap some holds in
        let out = o.holding id t held in
        let own : get_elem? (stages views) id ≡ some (Holding serving) = held ∙ ap (λ (k : ℕ). some (Holding k)) out.0 in
        let back : slice_set homes 0 (some (Some x)) ≡ some (Some x) ∷ [] =
        ap (λ (l : List (Maybe (Option V))). slice_set l 0 (some (Some x))) out.1 in
        let below = (o.range id serving (Holding serving) own refl).1 in
        let word : (serving + 1) % 2 ^ 64 ≡ serving + 1 = omega (arith, below, o.fits) in
        let w : View E B = record v { stage = Idle; seen = history x; own = entries_of context (history x) v.number } in
        let tickets = restaged next (serving + 1) (some (Some x) ∷ []) views id w
        (given next serving homes (stages views) o id (Some x) own) in
        let kept = gave history born context birth seats homes views h id v at t holds x more is ours birth_is (alone t holds) w refl in
        let both : Ordered next (serving + 1) (slice_set homes 0 (some (Some x))) (stages (set views id w))
        × Histories history born context birth seats (slice_set homes 0 (some (Some x))) (set views id w)
        = subst (λ (l : List (Maybe (Option V))). Ordered next (serving + 1) l (stages (set views id w))
        × Histories history born context birth seats l (set views id w)) (sym back) (tickets, kept) in
        (w, gives, tt, (next, serving + 1, ap (λ (k : ℕ). next ∷ k ∷ []) word, both.0, both.1), refl)

    learn_goes : (s : Stage) → v.stage ≡ s → ((t : ℕ) → s ≡ Holding t → ⊥)
        → Goes id (v, []) 1 (λ n. n) (Learned (step slots 1 0 0 none) (v, [])) homes views (next ∷ serving ∷ [])
    learn_goes s stage free =
        let long = prefix_longer v.seen v.told h.all knows.seen knows.told in
        let w : View E B = record v { seen = longer v.seen v.told; told = [] } in
        let again : set (stages views) id v.stage ≡ stages views = set_again (stages views) id v.stage (stage_at views id v at.0) in
        let tickets = restaged next serving homes views id w (subst (λ (l : List Stage). Ordered next serving homes l) (sym again) o) in
        let kept = moved history born context birth seats homes views h id v at w (record {
          live = refl;
          number = refl;
          own = refl;
          birth = refl;
          splits = refl;
          kept = refl;
        }) long.2 (prefix_none h.all)
        (λ t e. absurd (free t (sym stage ∙ e))) homes (λ y e. e) in
        (w, keeps, tt, (next, serving, refl, tickets, kept), record { is = refl; seen = long.0; told = long.1 })

  pub draws : (slots id old : ℕ) (v : View E B) → v.live ≡ true → v.stage ≡ Idle → old + 1 < 2 ^ 64
      → Allows Rule slots id (v, []) 0 (λ n. either (n == old) (old + 1) n) (Drew (step slots 0 old (old + 1) none) (v, []))
  draws slots id old v live idle room s kept len at fits =
      subst (Goes id (v, []) 0 (λ n. either (n == old) (old + 1) n) (Drew (step slots 0 old (old + 1) none) (v, [])) s.homes
      s.views) (sym kept.2)
      (draw_goes slots id kept.0 kept.1 s.homes s.views kept.3 kept.4 v (at, live) old room idle (kept.0 == old) refl)

  pub looks : (slots id t : ℕ) (v : View E B) → v.live ≡ true → v.stage ≡ Waiting t
      → Allows Rule slots id (v, []) 1 (λ n. n) (Looked history born context (step slots 1 0 0 none) (v, []))
  looks slots id t v live waits s kept len at fits =
      subst (Goes id (v, []) 1 (λ n. n) (Looked history born context (step slots 1 0 0 none) (v, [])) s.homes s.views) (sym kept.2)
      (look_goes slots id kept.0 kept.1 s.homes s.views kept.3 kept.4 v (at, live) t waits (kept.1 == t) refl)

  pub gives_back : (slots id t : ℕ) (v : View E B) (x : V) (more : List E) → v.live ≡ true → v.stage ≡ Holding t
      → history x ≡ v.seen ++ more
      → AllByRecursion (λ e. context e ≡ v.number) more → v.birth ≡ Some (born x)
      → Allows Rule slots id (v, (0, Some x) ∷ []) 1 (λ n. (n + 1) % 2 ^ 64)
      (Gave history context (step slots 1 1 0 none) (v, (0, Some x) ∷ []))
  gives_back slots id t v x more live holds is ours birth_is s kept len at fits =
      let old : v.birth ≡ Some birth = (kept.4.each id v (at, live)).birth in
      let same : born x ≡ birth = cc (birth_is, old) in
      subst (Goes id (v, (0, Some x) ∷ []) 1 (λ n. (n + 1) % 2 ^ 64)
      (Gave history context (step slots 1 1 0 none) (v, (0, Some x) ∷ [])) s.homes s.views) (sym kept.2)
      (give_goes slots id kept.0 kept.1 s.homes s.views kept.3 kept.4 v (at, live) t holds x more is ours same)

  pub learns : (slots id : ℕ) (v : View E B) → v.live ≡ true → v.stage ≡ Idle
      → Allows Rule slots id (v, []) 1 (λ n. n) (Learned (step slots 1 0 0 none) (v, []))
  learns slots id v live idle s kept len at fits =
      subst (Goes id (v, []) 1 (λ n. n) (Learned (step slots 1 0 0 none) (v, [])) s.homes s.views) (sym kept.2)
      (learn_goes slots id kept.0 kept.1 s.homes s.views kept.3 kept.4 v (at, live) Idle idle (λ t e. cc e))
