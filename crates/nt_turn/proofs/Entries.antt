-- The entries of a number, after entries of one number more.
use Rattle.std.proofs.Common.{◌≡◌, ◌≢◌, ℕ, ◌==◌, cond, List, [], ◌∷◌, ◌++◌, ap, sym, ◌∙◌, refl}
use Rattle.std.specs.List.{AllByRecursion}
use Rattle.std.proofs.lemmas.Bool.{eq-eqb, ne_eqb}
use Rattle.std.proofs.lemmas.List.{append-nil}
use Rattle.std.proofs.lemmas.List.Elements.{filter-append}
use Rattle.nt_turn.specs.History.{entries_of}

module _ {E : Type 0} (context : E → ℕ) where
  -- all of one number
  entries_of-all_own : (n : ℕ) (more : List E) → AllByRecursion (λ e. context e ≡ n) more → entries_of context more n ≡ more
  entries_of-all_own n [] are = refl
  entries_of-all_own n (e ∷ es) are = ap (λ b. cond b (e ∷ entries_of context es n) (entries_of context es n))
      (eq-eqb (context e) n are.0) ∙ ap (λ w. e ∷ w) (entries_of-all_own n es are.1)

  -- none of another
  entries_of-none_own : (n m : ℕ) (more : List E) → AllByRecursion (λ e. context e ≡ n) more → m ≢ n → entries_of context more m ≡ []
  entries_of-none_own n m [] are ne = refl
  entries_of-none_own n m (e ∷ es) are ne =
      ap (λ b. cond b (e ∷ entries_of context es m) (entries_of context es m))
      (ne_eqb (context e) m (λ same. ne (sym same ∙ are.0))) ∙ entries_of-none_own n m es are.1 ne

  pub entries_of-own : (n : ℕ) (all more : List E) → AllByRecursion (λ e. context e ≡ n) more → entries_of context (all ++ more) n
      ≡ entries_of context all n ++ more
  entries_of-own n all more are = filter-append (λ e. context e == n) all more ∙ ap (λ w. entries_of context all n ++ w)
      (entries_of-all_own n more are)

  pub entries_of-other : (n m : ℕ) (all more : List E) → AllByRecursion (λ e. context e ≡ n) more → m ≢ n
      → entries_of context (all ++ more) m ≡ entries_of context all m
  entries_of-other n m all more are ne =
      filter-append (λ e. context e == m) all more ∙ (ap (λ w. entries_of context all m ++ w) (entries_of-none_own n m more are ne)
      ∙ append-nil (entries_of context all m))

-- what is kept of other numbers stays true
pub All-more : {K : Type 0} (P Q R : K → Type 0) → ((k : K) → P k → Q k → R k) → (ks : List K) → AllByRecursion P ks
    → AllByRecursion Q ks → AllByRecursion R ks
All-more P Q R f [] p q = tt
All-more P Q R f (k ∷ ks) p q = (f k p.0 q.0, All-more P Q R f ks p.1 q.1)

pub All-weaker : {K : Type 0} (P R : K → Type 0) → ((k : K) → P k → R k) → (ks : List K) → AllByRecursion P ks → AllByRecursion R ks
All-weaker P R f [] p = tt
All-weaker P R f (k ∷ ks) p = (f k p.0, All-weaker P R f ks p.1)

pub All-snoc : {K : Type 0} (P : K → Type 0) (ks : List K) (k : K) → AllByRecursion P ks → P k → AllByRecursion P (ks ++ k ∷ [])
All-snoc P [] k p q = (q, tt)
All-snoc P (x ∷ xs) k p q = (p.0, All-snoc P xs k p.1 q)
