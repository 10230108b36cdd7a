-- Who published, in the order in which they did: none twice.
use Rattle.std.proofs.Common.{◌≡◌, ℕ, ◌+◌, ◌==◌, Bool, true, false, cond, List, [], ◌∷◌, ◌++◌, length, refl, sym, ap, ◌∙◌, subst}
use Rattle.std.proofs.Common.{append_assoc, append-nil, arith}
use Rattle.std.specs.Prelude.{filter, Option}
use Rattle.std.specs.List.{AllByRecursion, flat_map}
use Rattle.std.proofs.lemmas.Bool.{eqb-false}
use Rattle.std.proofs.lemmas.List.{length-append}
use Rattle.std.proofs.lemmas.Grind.{flat_map-append}
use Rattle.nt_machine.specs.Deal.{times}
use Rattle.nt_machine.specs.declared.entry.Entry.{Entry}
use Rattle.nt_machine.specs.declared.entry.EntryKind.{EntryKind}
use Rattle.nt_machine.specs.declared.entry.EntryKind.TheVariants as entry
use Rattle.nt_machine.specs.History.{WrittenChunk, mine_of, publisher, publishers_of, entries_of_chunk, whole_entries}
use Rattle.nt_machine.specs.Staging.{IsStagedKind, IsBeforePublishing, IsStagedNext, IsStagedAfter}
use Rattle.nt_machine.specs.Untold.{settles, with_first, without_first, with_bytes}
use Rattle.nt_machine.proofs.Histories.{not-eqb}
use Rattle.nt_machine.proofs.Times.{times-append, one_if}

-- each number is none of those before it
abbrev pub IsOnceAfter : List ℕ → List ℕ → Type 0
IsOnceAfter before [] = Unit {0}
IsOnceAfter before (p ∷ ps) = (times p before ≡ 0) × IsOnceAfter (before ++ p ∷ []) ps

-- a number that isn't there differs from those that are
pub times-differ : (i : ℕ) (ps : List ℕ) → times i ps ≡ 0 → AllByRecursion (λ p. i == p ≡ false) ps
times-differ i [] none_there = tt
times-differ i (p ∷ ps) none_there = at (p == i) refl none_there (λ rest. times-differ i ps rest)
  where
    at : (b : Bool) → p == i ≡ b → length (cond b (p ∷ filter (λ j. j == i) ps) (filter (λ j. j == i) ps)) ≡ 0
        → (times i ps ≡ 0 → AllByRecursion (λ p. i == p ≡ false) ps) → AllByRecursion (λ p. i == p ≡ false) (p ∷ ps)
    at true e count rest = absurd (omega arith)
    at false e count rest = (not-eqb i p (λ is. eqb-false p i e (sym is)), rest count)

pub times-first : (i p : ℕ) (ps : List ℕ) → times i (p ∷ ps) ≡ one_if (p == i) + times i ps
times-first i p ps = at (p == i)
  where
    at : (b : Bool) → length (cond b (p ∷ filter (λ j. j == i) ps) (filter (λ j. j == i) ps)) ≡ one_if b + times i ps
    at true = omega arith
    at false = omega arith

none_of : (b : Bool) → length {A = ℕ} [] ≡ cond b 0 0
none_of true = refl
none_of false = refl

one_of : (j : ℕ) (b : Bool) → length (cond b (j ∷ []) []) ≡ cond b 1 0
one_of j true = refl
one_of j false = refl

module _ {M : Type 0} where
  pub publishers-snoc : (history : List (Entry M)) (e : Entry M)
      → publishers_of (history ++ e ∷ []) ≡ publishers_of history ++ publisher e.context e.kind
  publishers-snoc history e =
      flat_map-append (λ (e : Entry M). publisher e.context e.kind) history (e ∷ [])
      ∙ ap (λ (l : List ℕ). publishers_of history ++ l) (append-nil (publisher e.context e.kind))

  -- one entry more
  pub staged-snoc : (staged : Bool) (published : List ℕ) (history : List (Entry M)) (e : Entry M)
      → IsStagedAfter staged published history → IsStagedNext staged (published ++ publishers_of history) e
      → IsStagedAfter staged published (history ++ e ∷ [])
  staged-snoc staged published [] e h next = (subst (λ (l : List ℕ). IsStagedNext staged l e) (append-nil published) next, tt)
  staged-snoc staged published (d ∷ ds) e h next = (
    h.0,
    staged-snoc staged (published ++ publisher d.context d.kind) ds e h.1
        (subst (λ (l : List ℕ). IsStagedNext staged l e)
        (sym (append_assoc published (publisher d.context d.kind) (publishers_of ds))) next),
  )

  -- who publishes did not before
  pub once-publishers : (staged : Bool) (published : List ℕ) (history : List (Entry M)) → IsStagedAfter staged published history
      → IsOnceAfter published (publishers_of history)
  once-publishers staged published [] h = tt
  once-publishers staged published (e ∷ es) h =
      at e.context e.kind h.0.1 (once-publishers staged (published ++ publisher e.context e.kind) es h.1)
    where
      same : IsOnceAfter (published ++ []) (publishers_of es) → IsOnceAfter published (publishers_of es)
      same h = subst (λ (l : List ℕ). IsOnceAfter l (publishers_of es)) (append-nil published) h

      at : (i : ℕ) (k : EntryKind M) → IsBeforePublishing published i k
          → IsOnceAfter (published ++ publisher i k) (publishers_of es) → IsOnceAfter published (publisher i k ++ publishers_of es)
      at i (entry.Committed n start len meta) before rest = same rest
      at i (entry.Reserved n start len meta) before rest = same rest
      at i (entry.Published ns) before rest = (before, rest)
      at i (entry.Settled n bytes) before rest = same rest
      at i (entry.Spoiled n faults) before rest = same rest
      at i (entry.Faulted faults) before rest = same rest

  times-publisher : (j : ℕ) (k : EntryKind M) (i : ℕ) → times i (publisher j k) ≡ cond (j == i) (length (publisher j k)) 0
  times-publisher j (entry.Committed n start len meta) i = none_of (j == i)
  times-publisher j (entry.Reserved n start len meta) i = none_of (j == i)
  times-publisher j (entry.Published ns) i = one_of j (j == i)
  times-publisher j (entry.Settled n bytes) i = none_of (j == i)
  times-publisher j (entry.Spoiled n faults) i = none_of (j == i)
  times-publisher j (entry.Faulted faults) i = none_of (j == i)

  -- a context published as often as its own entries do
  times-publishers : (history : List (Entry M)) (i : ℕ) → times i (publishers_of history) ≡ length (publishers_of (mine_of history i))
  times-publishers [] i = refl
  times-publishers (e ∷ es) i =
      times-append i (publisher e.context e.kind) (publishers_of es)
      ∙ (ap (λ (n : ℕ). n + times i (publishers_of es)) (times-publisher e.context e.kind i)
      ∙ (ap (λ (n : ℕ). cond (e.context == i) (length (publisher e.context e.kind)) 0 + n) (times-publishers es i)
      ∙ at (e.context == i)))
    where
      at : (b : Bool) → cond b (length (publisher e.context e.kind)) 0 + length (publishers_of (mine_of es i))
          ≡ length (publishers_of (cond b (e ∷ mine_of es i) (mine_of es i)))
      at true = sym (length-append (publisher e.context e.kind) (publishers_of (mine_of es i)))
      at false = omega arith

  publishers-whole : (i : ℕ) (ws : List (WrittenChunk M)) (ns : List ℕ)
      → publishers_of (flat_map (entries_of_chunk true i) ws ++ record { context = i; kind = entry.Published ns } ∷ []) ≡ i ∷ []
  publishers-whole i [] ns = refl
  publishers-whole i (w ∷ ws) ns = publishers-whole i ws ns

  -- a context that wrote all its chunks, staged, published once
  pub published-whole : (history : List (Entry M)) (i : ℕ) (ws : List (WrittenChunk M))
      → mine_of history i ≡ whole_entries true i ws → times i (publishers_of history) ≡ 1
  published-whole history i ws is =
      times-publishers history i ∙ (ap (λ (l : List (Entry M)). length (publishers_of l)) is ∙ ap length (publishers-whole i ws _))

  publisher-first : (i : ℕ) (k : EntryKind M) (told : List (Option (List ℕ))) → publisher i (with_first k told) ≡ publisher i k
  publisher-first i (entry.Committed n start len meta) told = refl
  publisher-first i (entry.Reserved n start len meta) told = refl
  publisher-first i (entry.Published ns) told = refl
  publisher-first i (entry.Settled n bytes) [] = refl
  publisher-first i (entry.Settled n bytes) (first ∷ rest) = refl
  publisher-first i (entry.Spoiled n faults) told = refl
  publisher-first i (entry.Faulted faults) told = refl

  -- who published is the same with bytes as without
  pub same_publishers : (history : List (Entry M)) (told : List (Option (List ℕ)))
      → publishers_of (with_bytes history told) ≡ publishers_of history
  same_publishers [] told = refl
  same_publishers (e ∷ es) told =
      ap (λ (l : List ℕ). l ++ publishers_of (with_bytes es (without_first (settles e.kind) told)))
      (publisher-first e.context e.kind told)
      ∙ ap (λ (l : List ℕ). publisher e.context e.kind ++ l) (same_publishers es (without_first (settles e.kind) told))

  next-first : (staged : Bool) (published : List ℕ) (i : ℕ) (k : EntryKind M) (told : List (Option (List ℕ)))
      → IsStagedKind staged k × IsBeforePublishing published i k
      → IsStagedKind staged (with_first k told) × IsBeforePublishing published i (with_first k told)
  next-first staged published i (entry.Committed n start len meta) told h = h
  next-first staged published i (entry.Reserved n start len meta) told h = h
  next-first staged published i (entry.Published ns) told h = h
  next-first staged published i (entry.Settled n bytes) [] h = h
  next-first staged published i (entry.Settled n bytes) (first ∷ rest) h = h
  next-first staged published i (entry.Spoiled n faults) told h = h
  next-first staged published i (entry.Faulted faults) told h = h

  -- and so is how clusters are staged
  pub same_staging : (staged : Bool) (published : List ℕ) (history : List (Entry M)) (told : List (Option (List ℕ)))
      → IsStagedAfter staged published history → IsStagedAfter staged published (with_bytes history told)
  same_staging staged published [] told h = tt
  same_staging staged published (e ∷ es) told h = (
    next-first staged published e.context e.kind told h.0,
    subst (λ (l : List ℕ). IsStagedAfter staged (published ++ l) (with_bytes es (without_first (settles e.kind) told)))
        (sym (publisher-first e.context e.kind told))
        (same_staging staged (published ++ publisher e.context e.kind) es (without_first (settles e.kind) told) h.1),
  )
