-- Lists of contexts, each element of which is paired with a range of its context.
use Rattle.std.proofs.Common.{◌≡◌, ◌∙◌, ap, sym, refl, subst, ℕ, suc, ◌==◌, Bool, true, false, cond, List, [], ◌∷◌, ◌++◌, length}
use Rattle.std.proofs.Common.{map, drop, append_assoc, arith}
use Rattle.std.specs.Prelude.{filter, slice_index_or}
use Rattle.std.specs.List.{AllByRecursion, AllZip}
use Rattle.std.proofs.lemmas.Bool.{eq-eqb}
use Rattle.std.proofs.lemmas.List.{length-append}
use Rattle.nt_machine.specs.Deal.{IsDeal}
use Rattle.nt_machine.specs.History.{Cluster, own_of, order_of}
use Rattle.nt_machine.proofs.Histories.{not-eqb}
use Rattle.nt_machine.proofs.Legality.{IsNumbered}
use Rattle.nt_dealing.proofs.Fronts.{own-here, own-other}
use Rattle.nt_dealing.proofs.Takings.{by_number, without, without-here, without-other}
use Rattle.nt_dealing.proofs.Undealt.{deal_on}

module _ {M C : Type 0} (R : C → Cluster M → Type 0) where
  -- the ranges of each context are of its elements
  abbrev pub AreOwned : List (List C) → List (Cluster M) → Type 0
  AreOwned xss cs = (i : ℕ) → AllZip R (slice_index_or xss i []) (own_of cs i)

  -- the first range is of the first element of its context, and the others are of those that are left
  record FirstOwned (xss : List (List C)) (c : Cluster M) (cs : List (Cluster M)) : Type 0 where
    x : C
    xs : List C
    is : slice_index_or xss c.context [] ≡ x ∷ xs
    holds : R x c
    rest : AreOwned (without c.context xss) cs

  first_owned : (xss : List (List C)) (c : Cluster M) (cs : List (Cluster M)) → AreOwned xss (c ∷ cs) → FirstOwned xss c cs
  first_owned xss c cs own = at (slice_index_or xss c.context []) refl
    where
      zip : AllZip R (slice_index_or xss c.context []) (c ∷ own_of cs c.context)
      zip =
          subst (λ (l : List (Cluster M)). AllZip R (slice_index_or xss c.context []) l) (own-here c cs) (own c.context)

      at : (mine : List C) → slice_index_or xss c.context [] ≡ mine → FirstOwned xss c cs
      at [] e =
          let none : AllZip R [] (c ∷ own_of cs c.context) =
          subst (λ (l : List C). AllZip R l (c ∷ own_of cs c.context)) e zip in
          absurd none
      at (x ∷ xs) e =
          let i = c.context in
          let pairs : R x c × AllZip R xs (own_of cs i) = subst (λ (l : List C). AllZip R l (c ∷ own_of cs i)) e zip in
          let left_is : slice_index_or (without i xss) i [] ≡ xs = without-here i xss ∙ ap (λ (l : List C). drop 1 l) e in
          record {
            x = x;
            xs = xs;
            is = e;
            holds = pairs.0;
            rest = by_number (λ k. AllZip R (slice_index_or (without i xss) k []) (own_of cs k)) i
                (subst (λ (l : List C). AllZip R l (own_of cs i)) (sym left_is) pairs.1)
                (λ k differ.
                subst (λ (l : List C). AllZip R l (own_of cs k)) (sym (without-other i k xss differ))
                (subst (λ (l : List (Cluster M)). AllZip R (slice_index_or xss k []) l) (own-other c cs k differ) (own k)));
          }

  -- the ranges are of the elements that were dealt out in their order
  pub owned_dealt : (cs : List (Cluster M)) (xss : List (List C)) (dealt : List C) → IsDeal xss (order_of cs) dealt → AreOwned xss cs
      → AllZip R dealt cs
  owned_dealt [] xss [] deal own = tt
  owned_dealt [] xss (d ∷ ds) deal own = let long = deal.long in absurd (omega (arith, long))
  owned_dealt (c ∷ cs) xss [] deal own = let long = deal.long in absurd (omega (arith, long))
  owned_dealt (c ∷ cs) xss (d ∷ ds) deal own =
      let first = first_owned xss c cs own in
      let on = deal_on c.context (order_of cs) xss d ds first.x first.xs deal first.is in
      (subst (λ (x : C). R x c) on.0 first.holds, owned_dealt cs (without c.context xss) ds on.1 first.rest)

-- to each range something is chosen for the element of which it is
module _ {M C B : Type 0} (G : B → C → Cluster M → Type 0) where
  abbrev Pair : Type 0
  Pair = B × Cluster M

  abbrev pairs_of : List Pair → ℕ → List Pair
  pairs_of ps i = filter (λ (p : Pair). p.1.context == i) ps

  abbrev firsts : List Pair → List B
  firsts ps = map (λ (p : Pair). p.0) ps

  abbrev seconds : List Pair → List (Cluster M)
  seconds ps = map (λ (p : Pair). p.1) ps

  record Paired (xss : List (List C)) (cs : List (Cluster M)) : Type 0 where
    ps : List Pair
    are : seconds ps ≡ cs
    each : AllZip (λ b c. (x : C) × G b x c) (firsts ps) (seconds ps)
    own : (i : ℕ) → AllZip (λ x (p : Pair). G p.0 x p.1) (slice_index_or xss i []) (pairs_of ps i)

  module _ (P : C → Cluster M → Type 0) (choose : (x : C) (c : Cluster M) → P x c → (b : B) × G b x c) where
    paired-none : (xs : List C) → AllZip P xs [] → AllZip (λ x (p : Pair). G p.0 x p.1) xs []
    paired-none [] h = tt
    paired-none (x ∷ xs) h = absurd h

    paired : (cs : List (Cluster M)) (xss : List (List C)) → AreOwned P xss cs → Paired xss cs
    paired [] xss own =
        record { ps = []; are = refl; each = tt; own = λ i. paired-none (slice_index_or xss i []) (own i) }
    paired (c ∷ cs) xss own =
        let i = c.context in
        let first = first_owned P xss c cs own in
        let one = choose first.x c first.holds in
        let rest = paired cs (without i xss) first.rest in
        let p : Pair = (one.0, c) in
        let left_is : slice_index_or (without i xss) i [] ≡ first.xs =
        without-here i xss ∙ ap (λ (l : List C). drop 1 l) first.is in
        record {
          ps = p ∷ rest.ps;
          are = ap (λ (l : List (Cluster M)). c ∷ l) rest.are;
          each = ((first.x, one.1), rest.each);
          own = by_number (λ k. AllZip (λ x (q : Pair). G q.0 x q.1) (slice_index_or xss k []) (pairs_of (p ∷ rest.ps) k)) i
              (subst (λ (b : Bool). AllZip (λ x (q : Pair). G q.0 x q.1) (slice_index_or xss i [])
              (cond b (p ∷ pairs_of rest.ps i) (pairs_of rest.ps i))) (sym (eq-eqb i i refl))
              (subst (λ (l : List C). AllZip (λ x (q : Pair). G q.0 x q.1) l (p ∷ pairs_of rest.ps i)) (sym first.is)
              (one.1, subst (λ (l : List C). AllZip (λ x (q : Pair). G q.0 x q.1) l (pairs_of rest.ps i)) left_is (rest.own i))))
              (λ k differ.
              subst (λ (b : Bool). AllZip (λ x (q : Pair). G q.0 x q.1) (slice_index_or xss k [])
              (cond b (p ∷ pairs_of rest.ps k) (pairs_of rest.ps k))) (sym (not-eqb i k (λ same. differ (sym same))))
              (subst (λ (l : List C). AllZip (λ x (q : Pair). G q.0 x q.1) l (pairs_of rest.ps k)) (without-other i k xss differ)
              (rest.own k)));
        }

  module _ (d : B) where
    at-seam : (before : List B) (b : B) (behind : List B) → slice_index_or (before ++ b ∷ behind) (length before) d ≡ b
    at-seam [] b behind = refl
    at-seam (x ∷ before) b behind = at-seam before b behind

    -- each stands at the number of its range
    at-numbers : (before : List B) (n : ℕ) (ps : List Pair) → length before ≡ n → IsNumbered n (seconds ps)
        → AllByRecursion (λ (p : Pair). slice_index_or (before ++ firsts ps) p.1.number d ≡ p.0) ps
    at-numbers before n [] long is = tt
    at-numbers before n (p ∷ ps) long is = (
      ap (λ (k : ℕ). slice_index_or (before ++ p.0 ∷ firsts ps) k d) (is.0 ∙ sym long) ∙ at-seam before p.0 (firsts ps),
      subst (λ (l : List B). AllByRecursion (λ (q : Pair). slice_index_or l q.1.number d ≡ q.0) ps)
          (append_assoc before (p.0 ∷ []) (firsts ps))
          (at-numbers (before ++ p.0 ∷ []) (suc n) ps (omega (arith, length-append before (p.0 ∷ []), long)) is.1),
    )

    module _ (bs : List B) where
      -- what was chosen for a range
      abbrev At : C → Cluster M → Type 0
      At x c = G (slice_index_or bs c.number d) x c

      own-at : (ps : List Pair) (xs : List C) (i : ℕ) → AllByRecursion (λ (p : Pair). slice_index_or bs p.1.number d ≡ p.0) ps
          → AllZip (λ x (p : Pair). G p.0 x p.1) xs (pairs_of ps i) → AllZip At xs (own_of (seconds ps) i)
      own-at [] [] i all h = tt
      own-at [] (x ∷ xs) i all h = absurd h
      own-at (p ∷ ps) xs i all h = at (p.1.context == i) xs (λ ys k. own-at ps ys i all.1 k) h
        where
          at : (b : Bool) (ys : List C)
              → ((zs : List C) → AllZip (λ x (q : Pair). G q.0 x q.1) zs (pairs_of ps i) → AllZip At zs (own_of (seconds ps) i))
              → AllZip (λ x (q : Pair). G q.0 x q.1) ys (cond b (p ∷ pairs_of ps i) (pairs_of ps i))
              → AllZip At ys (cond b (p.1 ∷ own_of (seconds ps) i) (own_of (seconds ps) i))
          at true [] on k = absurd k
          at true (y ∷ ys) on k = (subst (λ (b : B). G b y p.1) (sym all.0) k.0, on ys k.1)
          at false ys on k = on ys k

    -- what is chosen for each range, in their order, and found by its number
    pub record Chosen (xss : List (List C)) (cs : List (Cluster M)) : Type 0 where
      pub bs : List B
      pub each : AllZip (λ b c. (x : C) × G b x c) bs cs
      pub own : AreOwned (At bs) xss cs

    pub chosen : (P : C → Cluster M → Type 0) → ((x : C) (c : Cluster M) → P x c → (b : B) × G b x c) → (cs : List (Cluster M))
        (xss : List (List C)) → IsNumbered 0 cs → AreOwned P xss cs → Chosen xss cs
    chosen P choose cs xss numbered own =
        let p = paired P choose cs xss own in
        let all = at-numbers [] 0 p.ps refl (subst (λ (l : List (Cluster M)). IsNumbered 0 l) (sym p.are) numbered) in
        subst (λ (l : List (Cluster M)). Chosen xss l) p.are
        (record { bs = firsts p.ps; each = p.each; own = λ i. own-at (firsts p.ps) p.ps (slice_index_or xss i []) i all (p.own i) })
