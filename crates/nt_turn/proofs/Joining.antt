-- Passes that were split off and joined.
use Rattle.std.proofs.Common.{◌≡◌, ◌≢◌, ℕ, ◌+◌, ◌<◌, List, [], ◌∷◌, ◌++◌, sym, ap, ◌∙◌, subst, arith}
use Rattle.std.specs.List.{AllByRecursion}
use Rattle.nt_turn.specs.History.{HasNone}
use Rattle.nt_turn.specs.Pass.{PassState, JoinsSince, AllJoined}

All-of_snoc : {K : Type 0} (P : K → Type 0) (ks : List K) (k : K) → AllByRecursion P (ks ++ k ∷ []) → AllByRecursion P ks × P k
All-of_snoc P [] k all = (tt, all.0)
All-of_snoc P (x ∷ xs) k all = let rest = All-of_snoc P xs k all.1 in ((all.0, rest.0), rest.1)

module _ {E B : Type 0} where
  -- a pass was split off and joined, and others between
  pub joins_since : (old split between new : PassState E B) (number : ℕ) (own : List E) → split ≡ record old {
    splits = old.splits + 1;
  } → JoinsSince split between
      → number ≡ old.splits → new.splits ≡ between.splits → new.kept ≡ between.kept ++ (number, own) ∷ [] → JoinsSince old new
  joins_since old split between new number own split_is since number_is splits kept = record { each = each }
    where
      not_it : (n : ℕ) → n < old.splits + 1 → n ≢ old.splits → n < old.splits
      not_it n less off = grind (arith, less, off)

      each : (n : ℕ) → n < new.splits → HasNone new.kept n → (n < old.splits) × HasNone old.kept n
      each n less none =
          let all = All-of_snoc (λ (k : ℕ × List E). k.0 ≢ n) between.kept (number, own)
          (subst (λ (l : List (ℕ × List E)). HasNone l n) kept none) in
          let below : n < between.splits = omega arith in
          let before = since.each n below all.0 in
          let at = ap (λ (p : PassState E B). p.splits) split_is in
          let first : n < old.splits + 1 = let b = before.0 in omega arith in (
            not_it n first (λ same. all.1 (number_is ∙ sym same)),
            subst (λ (l : List (ℕ × List E)). HasNone l n)
                (ap (λ (p : PassState E B). p.kept) split_is) before.1,
          )

  -- a first pass that had split off none has joined all
  pub all_joined : (old new : PassState E B) → old.splits ≡ 0 → JoinsSince old new → AllJoined new
  all_joined old new none since n less without = let b = (since.each n less without).0 in absurd (omega arith)
