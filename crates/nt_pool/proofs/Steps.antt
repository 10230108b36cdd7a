-- Each step keeps the rule.
use Rattle.std.proofs.Common.{◌≡◌, ◌≢◌, ℕ, zero, suc, ◌+◌, ◌-◌, ◌<◌, ◌≤◌, List, [], ◌∷◌, ◌++◌, length, set, sym, refl, ap, ◌∙◌, subst}
use Rattle.std.proofs.Common.{⊎_elim, arith}
use Rattle.std.specs.List.{AllByRecursion}
use Rattle.std.specs.Mem.{manually_drop_value}
use Rattle.std.specs.declared.mem.ManuallyDrop.{ManuallyDrop}
use mathlib.Core.Option.{some, some-ne-none}
use lib.ListN.{get_elem?}
use Rattle.crossbeam_queue.specs.Fifo.{Pushes, Pops, Forks, Merges, Learns}
use Rattle.crossbeam_queue.proofs.Lists.{at_set}
use Rattle.nt_pool.specs.declared.rule.Hand.{Hand}
use Rattle.nt_pool.specs.Rule.{all_parts, hand, weigh, waiting, IsOf, FitsHand, Balanced, Waits, AreSharedOut, TakesOne, PutsOne}
use Rattle.nt_pool.specs.Rule.{LearnsAll}
use Rattle.nt_pool.proofs.Weights.{weigh-append, waiting-append, ones, total_set, total-append, part_below, total_none, others_idle}
use Rattle.nt_pool.proofs.Weights.{each_set, each_snoc, all-append, all-weaker, of-longer, of-last}

module _ {J : Type 0} where
  pub begins : (ready : J → Type 0) → AreSharedOut ready [] (hand all_parts [] [] ∷ [])
  begins ready = (
    [],
    refl,
    (λ f. refl),
    tt,
    λ port v e. each_set (λ j u. FitsHand [] u) (hand all_parts [] [] ∷ []) 0 (hand all_parts [] [])
        (record { idle = λ z. refl; put = λ z. refl; taken = tt }) (λ j u other e. only j u other e) port v e,
  )
    where
      only : (j : ℕ) (u : Hand J) → j ≢ 0 → get_elem? (hand all_parts [] [] ∷ []) j ≡ some u → FitsHand [] u
      only zero u other e = absurd (other refl)
      only (suc j) u other e = absurd (some-ne-none u (sym e))

  pub puts : (ready : J → Type 0) (n port : ℕ) (v : Hand J) (x : ManuallyDrop J) → v.parts ≡ all_parts → ready (manually_drop_value x)
      → Pushes (AreSharedOut ready) n port v x (PutsOne v x)
  puts ready n port v x parts can items views room h at =
      let job = manually_drop_value x in
      let all = h.0 in
      let more = all ++ job ∷ [] in
      let w : Hand J = hand v.parts (v.put ++ job ∷ []) v.taken in
      let mine : FitsHand all v = h.4 port v at in
      let same : waiting (items ++ x ∷ []) ≡ waiting items ++ job ∷ [] = waiting-append items (x ∷ []) in (
        w,
        (
          more,
          (let s = total_set (λ u. u.parts) views port v w at in omega (arith, h.1, s)),
          (λ f.
              let s = total_set (λ u. weigh f u.taken) views port v w at in
              let p = h.2 f in
              let a = ap (weigh f) same ∙ weigh-append f (waiting items) (job ∷ []) in
              let b = weigh-append f all (job ∷ []) in
              omega (arith, s, p, a, b)),
          subst (λ l. AllByRecursion (Waits ready more) l) (sym same)
              (all-append (Waits ready more) (waiting items) (job ∷ [])
              (all-weaker (Waits ready all) (Waits ready more) (waiting items) (λ j is. (of-longer all job j is.0, is.1)) h.3)
              ((of-last all job, can), tt)),
          each_set (λ j u. FitsHand more u) views port w
              (record {
                idle = mine.idle;
                put = λ some_part. ap (λ l. l ++ job ∷ []) (mine.put some_part);
                taken = all-weaker (IsOf all)
                    (IsOf more) v.taken (λ j is. of-longer all job j is) mine.taken;
              })
              (λ j u other e. let none = others_idle views port v h.1 at parts j u other e in let theirs : FitsHand all u = h.4 j u e in
              record {
                idle = theirs.idle;
                put = λ some_part. absurd (omega (arith, none, some_part));
                taken = all-weaker (IsOf all)
                    (IsOf more) u.taken (of-longer all job) theirs.taken;
              }),
        ),
        refl,
      )

  pub takes : (ready : J → Type 0) (port : ℕ) (v : Hand J) → 0 < v.parts → Pops (AreSharedOut ready) port v (TakesOne ready v)
  takes ready port v some_part x items views h at =
      let job = manually_drop_value x in
      let all = h.0 in
      let w : Hand J = hand v.parts v.put (v.taken ++ job ∷ []) in
      let mine : FitsHand all v = h.4 port v at in
      let now : Balanced all (waiting items) (set views port w) = λ f.
      let s = total_set (λ u. weigh f u.taken) views port v w at in
      let p = h.2 f in
      let a = weigh-append f v.taken (job ∷ []) in
      omega (arith, s, p, a) in (
        w,
        (
          all,
          (let s = total_set (λ u. u.parts) views port v w at in omega (arith, h.1, s)),
          now,
          h.3.1,
          each_set (λ j u. FitsHand all u) views port w
              (record {
                idle = λ none. absurd (omega (arith, none, some_part));
                put = mine.put;
                taken = all-append (IsOf all) v.taken
                    (job ∷ []) mine.taken (h.3.0.0, tt);
              })
              (λ j u other e. h.4 j u e),
        ),
        record {
          now = refl;
          can = h.3.0.1;
          few =
              let s = total_set (λ u. weigh (λ j. 1) u.taken) views port v w at in
              let below = part_below (λ u. weigh (λ j. 1) u.taken) views port v at in
              let p = h.2 (λ j. 1) in
              let a = ones all in
              let b = ones w.taken in
              let c = ap length (mine.put some_part) in
              let d = weigh-append (λ j. 1) v.taken (job ∷ []) in
              omega (arith, s, below, p, a, b, c, d);
        },
      )

  pub cuts : (ready : J → Type 0) (port : ℕ) (v : Hand J) → 1 < v.parts
      → Forks (AreSharedOut ready) port v (hand (v.parts - 1) v.put v.taken) (hand 1 v.put [])
  cuts ready port v more items views h at =
      let all = h.0 in
      let l : Hand J = hand (v.parts - 1) v.put v.taken in
      let r : Hand J = hand 1 v.put [] in
      let mine : FitsHand all v = h.4 port v at in
      let put : v.put ≡ all = mine.put (omega (arith, more)) in (
        all,
        (let s = total_set (λ u. u.parts) views port v l at in let t = total-append (λ u. u.parts) (set views port l) (r ∷ []) in omega
            (arith, h.1, s, t, more)),
        (λ f.
            let s = total_set (λ u. weigh f u.taken) views port v l at in
            let t = total-append (λ u. weigh f u.taken) (set views port l) (r ∷ []) in
            let p = h.2 f in
            omega (arith, s, t, p)),
        h.3,
        each_snoc (FitsHand all) (set views port l) r (record { idle = λ none. refl; put = λ some_part. put; taken = tt })
            (each_set (λ j u. FitsHand all u) views port l (record {
              idle = λ none. absurd
                  (omega (arith, none, more));
              put = λ some_part. put;
              taken = mine.taken;
            })
            (λ j u other e. h.4 j u e)),
      )

  pub joins : (ready : J → Type 0) (port : ℕ) (v : Hand J) (other : ℕ) (u : Hand J) → 0 < v.parts
      → Merges (AreSharedOut ready) port v other u (hand (v.parts + u.parts) v.put (v.taken ++ u.taken)) (hand 0 [] [])
  joins ready port v other u some_part items views h at two at' =
      let all = h.0 in
      let both : Hand J = hand (v.parts + u.parts) v.put (v.taken ++ u.taken) in
      let spent : Hand J = hand 0 [] [] in
      let mine : FitsHand all v = h.4 port v at in
      let was : get_elem? views other ≡ some u = ⊎_elim (λ x. absurd (two x.0)) (λ x. x.1) (at_set views port other both u at') in
      let theirs : FitsHand all u = h.4 other u was in (
        all,
        (let s = total_set (λ u. u.parts) views port v both at in let t = total_set (λ u. u.parts) (set views port both)
            other u spent at' in omega (arith, h.1, s, t)),
        (λ f.
            let s = total_set (λ u. weigh f u.taken) views port v both at in
            let t = total_set (λ u. weigh f u.taken) (set views port both) other u spent at' in
            let p = h.2 f in
            let a = weigh-append f v.taken u.taken in
            omega (arith, s, t, p, a)),
        h.3,
        each_set (λ j y. FitsHand all y) (set views port both) other spent
            (record { idle = λ none. refl; put = λ some. absurd (omega (arith, some)); taken = tt })
            (λ j y apart e. each_set (λ j y. FitsHand all y) views port both
            (record {
              idle = λ none. absurd (omega (arith, none, some_part));
              put = λ some. mine.put some_part;
              taken = all-append
                  (IsOf all) v.taken u.taken mine.taken theirs.taken;
            })
            (λ j y apart e. h.4 j y e) j y e),
      )

  few-taken : (ready : J → Type 0) (port : ℕ) (v : Hand J) (items : List (ManuallyDrop J)) (views : List (Hand J))
      → AreSharedOut ready items views → get_elem? views port ≡ some v
      → 0 < v.parts → length v.taken ≤ length v.put
  few-taken ready port v items views h at some_part =
      let mine : FitsHand h.0 v = h.4 port v at in
      let below = part_below (λ u. weigh (λ j. 1) u.taken) views port v at in
      let p = h.2 (λ j. 1) in
      let a = ones h.0 in
      let b = ones v.taken in
      let c = ap length (mine.put some_part) in
      omega (arith, below, p, a, b, c)

  all-taken : (ready : J → Type 0) (port : ℕ) (v : Hand J) (items : List (ManuallyDrop J)) (views : List (Hand J))
      → AreSharedOut ready items views → get_elem? views port ≡ some v
      → v.parts ≡ all_parts → ((f : J → ℕ) → weigh f v.taken + weigh f (waiting items) ≡ weigh f v.put)
      × AllByRecursion (IsOf v.put) v.taken
  all-taken ready port v items views h at parts =
      let all = h.0 in
      let mine : FitsHand all v = h.4 port v at in
      let w : Hand J = hand 0 [] [] in
      let put : v.put ≡ all = mine.put (omega (arith, parts)) in (
        (λ f.
            let s = total_set (λ u. weigh f u.taken) views port v w at in
            let none = total_none (λ u. weigh f u.taken) (set views port w)
            (each_set (λ j u. weigh f u.taken ≡ 0) views port w refl
            (λ j u other e. ap (weigh f) ((h.4 j u e).idle (others_idle views port v h.1 at parts j u other e)))) in
            let p = h.2 f in
            let q = ap (weigh f) put in
            omega (arith, s, none, p, q)),
        subst (λ l. AllByRecursion (IsOf l) v.taken) (sym put) mine.taken,
      )

  pub learns : (ready : J → Type 0) (port : ℕ) (v : Hand J) → Learns (AreSharedOut ready) port v (LearnsAll v)
  learns ready port v items views h at = (few-taken ready port v items views h at, all-taken ready port v items views h at)

  -- a full queue has all that was put: so a queue that has room for one more isn't full
  pub never_full : (v : Hand J) (n : ℕ) (items : List (ManuallyDrop J)) → v.parts ≡ all_parts → v.taken ≡ [] → length v.put < n
      → length items ≡ n → LearnsAll v items → ⊥
  never_full v n items parts none room full all =
      let e = (all.1 parts).0 (λ j. 1) in
      let a = ones v.put in
      let b = ones (waiting items) in
      let c = counted items in
      let d = ap (weigh (λ j. 1)) none in
      omega (arith, e, a, b, c, d, room, full)
    where
      counted : (xs : List (ManuallyDrop J)) → length (waiting xs) ≡ length xs
      counted [] = refl
      counted (x ∷ xs) = let e = counted xs in omega (arith, e)

  -- where none waits, all that was put was taken
  pub took_all : (v : Hand J) (items : List (ManuallyDrop J)) → length items ≡ 0 → LearnsAll v items
      → v.parts ≡ all_parts → ((f : J → ℕ) → weigh f v.taken ≡ weigh f v.put) × AllByRecursion (IsOf v.put) v.taken
  took_all v [] none all parts = ((λ f. let e = (all.1 parts).0 f in omega (arith, e)), (all.1 parts).1)
  took_all v (x ∷ xs) none all parts = absurd (omega (arith, none))
