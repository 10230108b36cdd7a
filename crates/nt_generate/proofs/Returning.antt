-- Chunks that were dealt out come back to their contexts.
use Rattle.std.proofs.Common.{◌≡◌, ◌∙◌, ap, sym, refl, ℕ, suc, ◌+◌, ◌<◌, ◌==◌, Bool, true, false, cond, List, [], ◌∷◌, ◌++◌}
use Rattle.std.proofs.Common.{length, take, drop, Some, append_assoc, append-nil, arith}
use Rattle.std.specs.Prelude.{filter, slice_get, slice_index_or}
use Rattle.std.proofs.lemmas.Bool.{eqb-true}
use Rattle.std.proofs.lemmas.List.{take_all, drop_more}
use Rattle.std.proofs.lemmas.Option.{slice_get_within, get_or_from_slice_get}
use Rattle.nt_machine.specs.Deal.{times, Uses, IsDeal}
use Rattle.nt_machine.proofs.Times.{times-snoc, one_if}
use Rattle.nt_generate.specs.Totals.{named_clusters}

drop-at : {C : Type 0} (xs : List C) (n : ℕ) (c : C) → slice_get xs n ≡ Some c → drop n xs ≡ c ∷ drop (n + 1) xs
drop-at xs n c is =
    drop_more xs n c (slice_get_within xs n c is) ∙ ap (λ (y : _). y ∷ drop (n + 1) xs) (get_or_from_slice_get xs n c c is)

module _ {C : Type 0} (chunks : List (List C)) (i : ℕ) where
  abbrev own : List C
  own = slice_index_or chunks i []

  back : (before order : List ℕ) (dealt : List C) → length dealt ≡ length order
      → ((k : ℕ) → k < length order → slice_get dealt k ≡ slice_get (slice_index_or chunks (slice_index_or order k 0) [])
      (times (slice_index_or order k 0) (before ++ take k order)))
      → named_clusters i order dealt ≡ take (times i order) (drop (times i before) own)
  back before [] [] long each = refl
  back before [] (c ∷ cs) long each = absurd (omega (arith, long))
  back before (j ∷ order) [] long each = absurd (omega (arith, long))
  back before (j ∷ order) (c ∷ cs) long each =
      at (back (before ++ j ∷ []) order cs (omega (arith, long)) (λ k less.
      each (suc k) (omega (arith, less))
      ∙ ap (λ (l : List ℕ). slice_get (slice_index_or chunks (slice_index_or order k 0) []) (times (slice_index_or order k 0) l))
      (sym (append_assoc before (j ∷ []) (take k order))))) (j == i) refl
    where
      at : named_clusters i order cs ≡ take (times i order) (drop (times i (before ++ j ∷ [])) own) → (b : Bool) → (j == i) ≡ b
          → cond b (c ∷ named_clusters i order cs) (named_clusters i order cs)
          ≡ take (length (cond b (j ∷ filter (λ k. k == i) order) (filter (λ k. k == i) order))) (drop (times i before) own)
      at rest true is =
          let more : times i (before ++ j ∷ []) ≡ times i before + 1 =
          times-snoc j before i ∙ ap (λ (b : Bool). times i before + one_if b) is in
          let here : slice_get own (times i before) ≡ Some c =
          sym (each 0 (omega arith)
          ∙ ap (λ (l : List ℕ). slice_get (slice_index_or chunks j []) (times j l)) (append-nil before)
          ∙ ap (λ (k : ℕ). slice_get (slice_index_or chunks k []) (times k before)) (eqb-true j i is)) in
          ap (λ (l : List C). c ∷ l) (rest ∙ ap (λ (n : ℕ). take (times i order) (drop n own)) more)
          ∙ sym (ap (λ (l : List C). take (suc (times i order)) l) (drop-at own (times i before) c here))
      at rest false is =
          let same : times i (before ++ j ∷ []) ≡ times i before =
          times-snoc j before i ∙ (ap (λ (b : Bool). times i before + one_if b) is ∙ omega arith) in
          rest ∙ ap (λ (n : ℕ). take (times i order) (drop n own)) same

  pub come_back : (order : List ℕ) (dealt : List C) → Uses order chunks → IsDeal chunks order dealt → i < length chunks
      → named_clusters i order dealt ≡ own
  come_back order dealt uses deal less =
      back [] order dealt deal.long deal.each ∙ take_all (times i order) own (let e = uses.each i less in omega (arith, e))
