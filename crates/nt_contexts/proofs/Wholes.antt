-- A context that goes on has committed just the whole chunks of what it took.
use Rattle.std.proofs.Common.{◌≡◌, ◌∙◌, ap, sym, refl, inl, inr, ℕ, ◌<◌, ◌==◌, Bool, cond, List, [], ◌∷◌, ◌++◌}
use Rattle.std.proofs.Common.{length, take, append-nil, arith}
use Rattle.std.specs.List.{AllByRecursion}
use Rattle.std.proofs.lemmas.Bool.{eq-eqb, cases_lt}
use Rattle.std.proofs.lemmas.List.{take_all, take-append-le}
use Rattle.std.proofs.lemmas.List.Elements.{filter-append}
use Rattle.nt_lists.specs.Chunks.{chunks}
use Rattle.nt_types.specs.TreeData.{TreesData}
use Rattle.nt_outside.specs.Disk.{DiskState}
use Rattle.nt_machine.specs.History.{ranges_of}
use Rattle.nt_machine.proofs.Histories.{not-eqb}
use Rattle.nt_fill.specs.Context.{gathered}
use Rattle.nt_fill.specs.Flushes.{DiskContext}
use Rattle.nt_dealing.specs.Failing.{whole_chunks}
use Rattle.nt_contexts.specs.Filling.{HasTaken}
use Rattle.nt_contexts.proofs.Chunking.{chunks-full, chunks-none, chunks-last}
use Rattle.nt_contexts.proofs.Committing.{length-committed}

-- whole chunks are whole
all-whole : (n : ℕ) (full : List (List TreesData)) → AllByRecursion (λ (chunk : List TreesData). length chunk ≡ n) full
    → whole_chunks n full ≡ full
all-whole n [] sizes = refl
all-whole n (c ∷ full) sizes =
    ap (λ (b : Bool). cond b (c ∷ whole_chunks n full) (whole_chunks n full)) (eq-eqb (length c) n sizes.0)
    ∙ ap (λ (l : List (List TreesData)). c ∷ l) (all-whole n full sizes.1)

-- a shorter one isn't
none-whole : (n : ℕ) (g : List TreesData) → length g < n → whole_chunks n (g ∷ []) ≡ []
none-whole n g less =
    ap (λ (b : Bool). cond b (g ∷ []) []) (not-eqb (length g) n (λ same. omega (arith, less, same)))

-- what is gathered makes no whole chunk
rest-whole : (n : ℕ) (g : List TreesData) → length g < n → whole_chunks n (chunks n g) ≡ []
rest-whole n g less = elim (cases_lt 0 (length g)) [
  | inl some ↦ ap (λ (l : List (List TreesData)). whole_chunks n l) (chunks-last n (omega (arith, less)) g some (omega (arith, less)))
      ∙ none-whole n g less
  | inr none ↦ ap (λ (l : List (List TreesData)). whole_chunks n l) (chunks-none n (omega (arith, less)) g (omega (arith, none)))
]

module _ {D P : Type 0} (state : D → DiskState) where
  pub taken-whole : (entries : List TreesData) (c : DiskContext D P) → length (gathered c) < c.cluster → HasTaken state entries c
      → take (length (ranges_of c.pass.own)) (chunks c.cluster entries) ≡ whole_chunks c.cluster (chunks c.cluster entries)
  taken-whole entries c room taken =
      let n = c.cluster in
      let rest = chunks n (gathered c) in
      let are : chunks n entries ≡ taken.full ++ rest =
      ap (λ (l : List TreesData). chunks n l) taken.whole ∙ chunks-full n (omega (arith, room)) taken.full (gathered c) taken.sizes in
      let count = length-committed c.table c.page taken.full c.pass.own taken.committed in
      let first : take (length (ranges_of c.pass.own)) (taken.full ++ rest) ≡ taken.full =
      ap (λ (m : ℕ). take m (taken.full ++ rest)) count
      ∙ (take-append-le (length taken.full) taken.full rest (omega arith) ∙ take_all (length taken.full) taken.full (omega arith)) in
      let whole : whole_chunks n (taken.full ++ rest) ≡ taken.full =
      filter-append (λ (chunk : List TreesData). length chunk == n) taken.full rest
      ∙ ((λ i. all-whole n taken.full taken.sizes i ++ rest-whole n (gathered c) room i) ∙ append-nil taken.full) in
      ap (λ (l : List (List TreesData)). take (length (ranges_of c.pass.own)) l) are
      ∙ (first ∙ (sym whole ∙ ap (λ (l : List (List TreesData)). whole_chunks n l) (sym are)))
