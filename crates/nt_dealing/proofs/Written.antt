-- What a history has of each context, where a first pass keeps what the contexts wrote.
use Rattle.std.proofs.Common.{◌≡◌, ◌≢◌, ℕ, zero, suc, ◌+◌, ◌<◌, ◌≤◌, ◌==◌, Bool, true, false, List, [], ◌∷◌, length, Option, refl, sym}
use Rattle.std.proofs.Common.{◌∙◌, inl, inr, subst, arith}
use Rattle.std.specs.Prelude.{slice_index_or}
use Rattle.std.specs.List.{AllByRecursion}
use Rattle.std.proofs.lemmas.Bool.{cases_lt, eq-eqb}
use borrow.Author.Tests.{eqb-true}
use Rattle.nt_types.specs.TreeData.{TreesData}
use Rattle.nt_grammar.specs.Table.{Table}
use Rattle.nt_outside.specs.Held.{Held}
use Rattle.nt_turn.specs.History.{HasNone}
use Rattle.nt_machine.specs.declared.entry.Entry.{Entry}
use Rattle.nt_machine.specs.History.{mine_of, IsIdle}
use Rattle.nt_book.specs.declared.meta.ClusterMeta.{ClusterMeta}
use Rattle.nt_commit.specs.Lists.{HasNoFault}
use Rattle.nt_dealing.specs.Written.{WroteAllChunks, AllWroteFrom, HaveWritten}
use Rattle.nt_dealing.proofs.Faultless.{whole-no_fault, none-of_each}

module _ (begun : Option Held) (t : Table) (page : ℕ) (staged : Bool) (history : List (Entry ClusterMeta)) where
  -- what is kept of each context is its entries of the history
  abbrev AreKept : List (ℕ × List (Entry ClusterMeta)) → Type 0
  AreKept kept = AllByRecursion (λ (k : ℕ × List (Entry ClusterMeta)). k.1 ≡ mine_of history k.0) kept

  wrote_at : (i : ℕ) (chunks : List (List (List TreesData))) (kept : List (ℕ × List (Entry ClusterMeta)))
      → AllWroteFrom begun t page staged i chunks kept → AreKept kept → (j : ℕ) → j < length chunks
      → WroteAllChunks begun t page staged (i + j) (slice_index_or chunks j []) (mine_of history (i + j))
  wrote_at i [] [] h kept j less = absurd (omega arith)
  wrote_at i [] (k ∷ ks) h kept j less = absurd h
  wrote_at i (cs ∷ css) [] h kept j less = absurd h
  wrote_at i (cs ∷ css) (k ∷ ks) h kept zero less =
      let here : k.0 ≡ i + 0 = omega (arith, h.0) in
      subst (λ (n : ℕ). WroteAllChunks begun t page staged n cs (mine_of history n)) here
      (subst (λ (l : List (Entry ClusterMeta)). WroteAllChunks begun t page staged k.0 cs l) kept.0
      (subst (λ (n : ℕ). WroteAllChunks begun t page staged n cs k.1) (sym h.0) h.1))
  wrote_at i (cs ∷ css) (k ∷ ks) h kept (suc j) less =
      let next : i + 1 + j ≡ i + suc j = omega arith in
      subst (λ (n : ℕ). WroteAllChunks begun t page staged n (slice_index_or css j []) (mine_of history n)) next
      (wrote_at (i + 1) css ks h.2 kept.1 j (omega arith))

  none_kept : (i : ℕ) (chunks : List (List (List TreesData))) (kept : List (ℕ × List (Entry ClusterMeta)))
      → AllWroteFrom begun t page staged i chunks kept → (n : ℕ) → i + length chunks ≤ n → HasNone kept n
  none_kept i [] [] h n behind = tt
  none_kept i [] (k ∷ ks) h n behind = absurd h
  none_kept i (cs ∷ css) [] h n behind = absurd h
  none_kept i (cs ∷ css) (k ∷ ks) h n behind =
      let not : k.0 ≢ n = λ is. omega (arith, is, h.0, behind) in
      (not, none_kept (i + 1) css ks h.2 n (omega arith))

  none_from : (number n : ℕ) (own : List (Entry ClusterMeta)) → own ≡ mine_of history number → own ≡ []
      → (n ≢ number → mine_of history n ≡ []) → mine_of history n ≡ []
  none_from number n own is unused others = at (n == number) refl
    where
      at : (b : Bool) → (n == number) ≡ b → mine_of history n ≡ []
      at true e =
          let same : number ≡ n = sym (eqb-true n number e) in
          subst (λ (m : ℕ). mine_of history m ≡ []) same (sym is ∙ unused)
      at false e = others (λ same. let yes : (n == number) ≡ true = eq-eqb n number same in cc)

  -- each context wrote its chunks in the history, all of them
  pub each_wrote_all : (chunks : List (List (List TreesData))) (number : ℕ) (own : List (Entry ClusterMeta))
      (kept : List (ℕ × List (Entry ClusterMeta)))
      → HaveWritten begun t page staged chunks number own kept → AreKept kept → (i : ℕ) → i < length chunks
      → WroteAllChunks begun t page staged i (slice_index_or chunks i []) (mine_of history i)
  each_wrote_all chunks number own kept have are i less =
      subst (λ (n : ℕ). WroteAllChunks begun t page staged n (slice_index_or chunks i []) (mine_of history n)) (omega arith)
      (wrote_at 0 chunks kept have.each are i less)

  -- and no other pass entered anything
  pub others_none : (chunks : List (List (List TreesData))) (number : ℕ) (own : List (Entry ClusterMeta))
      (kept : List (ℕ × List (Entry ClusterMeta)))
      → HaveWritten begun t page staged chunks number own kept → own ≡ mine_of history number
      → ((n : ℕ) → n ≢ number → HasNone kept n → mine_of history n ≡ []) → (i : ℕ) → length chunks ≤ i → mine_of history i ≡ []
  others_none chunks number own kept have is others i behind =
      none_from number i own is have.unused (λ differ. others i differ (none_kept 0 chunks kept have.each i (omega arith)))

  pub others_idle : (chunks : List (List (List TreesData))) (number : ℕ) (own : List (Entry ClusterMeta))
      (kept : List (ℕ × List (Entry ClusterMeta)))
      → HaveWritten begun t page staged chunks number own kept → own ≡ mine_of history number
      → ((n : ℕ) → n ≢ number → HasNone kept n → mine_of history n ≡ []) → (i : ℕ) → length chunks ≤ i → IsIdle (mine_of history i)
  others_idle chunks number own kept have is others i behind =
      subst (λ (l : List (Entry ClusterMeta)). IsIdle l) (sym (others_none chunks number own kept have is others i behind)) tt

  -- so no fault was entered
  pub none_failed : (chunks : List (List (List TreesData))) (number : ℕ) (own : List (Entry ClusterMeta))
      (kept : List (ℕ × List (Entry ClusterMeta)))
      → HaveWritten begun t page staged chunks number own kept → AreKept kept → own ≡ mine_of history number
      → ((n : ℕ) → n ≢ number → HasNone kept n → mine_of history n ≡ []) → HasNoFault history
  none_failed chunks number own kept have are is others = none-of_each history (λ i. at i)
    where
      below : (i : ℕ) → WroteAllChunks begun t page staged i (slice_index_or chunks i []) (mine_of history i)
          → HasNoFault (mine_of history i)
      below i wrote =
          subst (λ (l : List (Entry ClusterMeta)). HasNoFault l) (sym wrote.are) (whole-no_fault staged i wrote.writes)

      at : (i : ℕ) → HasNoFault (mine_of history i)
      at i = elim (cases_lt i (length chunks)) [
        | inl low ↦ below i (each_wrote_all chunks number own kept have are i low)
        | inr high ↦
            subst (λ (l : List (Entry ClusterMeta)). HasNoFault l) (sym (others_none chunks number own kept have is others i high)) tt
      ]
