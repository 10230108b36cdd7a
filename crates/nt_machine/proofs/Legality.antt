-- What holds of the ranges of a legal history.
use Rattle.std.proofs.Common.{◌≡◌, ℕ, zero, suc, ◌+◌, ◌<◌, ◌≤◌, ◌==◌, ◌&&◌, Bool, true, false, cond, List, [], ◌∷◌, ◌++◌, length, map, Some}
use Rattle.std.proofs.Common.{refl, sym, ap, ◌∙◌, subst, arith}
use Rattle.std.specs.Prelude.{slice_get}
use Rattle.std.specs.List.{fold}
use Rattle.std.proofs.Math.ListN.{set}
use Rattle.std.proofs.lemmas.Bool.{eq-eqb, false≢true}
use Rattle.std.proofs.lemmas.List.{map-append}
use Rattle.std.proofs.lemmas.List.Sums.{fold-append, sum_by-append}
use Rattle.nt_machine.proofs.Histories.{not-eqb}
use Rattle.nt_machine.proofs.Spread.{IsDisjoint-snoc}
use Rattle.nt_machine.specs.declared.entry.Entry.{Entry}
use Rattle.nt_machine.specs.declared.entry.EntryKind.{EntryKind}
use Rattle.nt_machine.specs.declared.entry.EntryKind.TheVariants as entry
use Rattle.nt_machine.specs.History.{Fate, Out, Settled, Spoiled, Cluster, handed_back, after_kind, after_entry, ranges_of, is_out}
use Rattle.nt_machine.specs.Spans.{Span, IsDisjoint}
use Rattle.nt_machine.specs.Legal.{spans_of, ranges_end, end_after, IsOut, IsKindAllowed, IsAllowed, IsLegalAfter, IsLegal}

module _ {M : Type 0} where
  -- handing back changes no range
  handed_back-same : {B : Type 0} (f : Cluster M → B) → ((c : Cluster M) (state : Fate) → f (record c { state = state }) ≡ f c)
      → (i n : ℕ) (state : Fate) (cs : List (Cluster M)) → map f (map (handed_back i n state) cs) ≡ map f cs
  handed_back-same f keeps i n state [] = refl
  handed_back-same f keeps i n state (c ∷ cs) =
      ap (λ (b : _). b ∷ map f (map (handed_back i n state) cs)) (at (c.context == i && c.number == n && is_out c.state))
      ∙ ap (λ (l : List _). f c ∷ l) (handed_back-same f keeps i n state cs)
    where
      at : (b : Bool) → f (cond b (record c { state = state }) c) ≡ f c
      at true = keeps c state
      at false = refl

  abbrev pub IsApart : ℕ → List (Cluster M) → Type 0
  IsApart place cs = IsDisjoint place (spans_of cs) (ranges_end place cs)

  pub ranges_end-back : (place i n : ℕ) (state : Fate) (cs : List (Cluster M)) → ranges_end place (map (handed_back i n state) cs)
      ≡ ranges_end place cs
  ranges_end-back place i n state [] = refl
  ranges_end-back place i n state (c ∷ cs) =
      ap (λ (e : ℕ). ranges_end e (map (handed_back i n state) cs)) (at (c.context == i && c.number == n && is_out c.state))
      ∙ ranges_end-back (c.start + c.len) i n state cs
    where
      at : (b : Bool) → (cond b (record c { state = state }) c).start + (cond b (record c { state = state }) c).len ≡ c.start + c.len
      at true = refl
      at false = refl

  pub ranges_end-snoc : (place : ℕ) (cs : List (Cluster M)) (c : Cluster M) → ranges_end place (cs ++ c ∷ []) ≡ c.start + c.len
  ranges_end-snoc place [] c = refl
  ranges_end-snoc place (d ∷ cs) c = ranges_end-snoc (d.start + d.len) cs c

  IsApart-back : (place i n : ℕ) (state : Fate) (cs : List (Cluster M)) → IsApart place cs → IsApart place (map (handed_back i n state) cs)
  IsApart-back place i n state cs h =
      let ranges : spans_of (map (handed_back i n state) cs) ≡ spans_of cs =
      handed_back-same (λ (c : Cluster M). record { start = c.start; len = c.len }) (λ c s. refl) i n state cs in
      subst (λ (l : List Span). IsDisjoint place l (ranges_end place (map (handed_back i n state) cs))) (sym ranges)
      (subst (λ (e : ℕ). IsDisjoint place (spans_of cs) e) (sym (ranges_end-back place i n state cs)) h)

  pub end_after-snoc : (place : ℕ) (cs : List (Cluster M)) (c : Cluster M) → end_after place (cs ++ c ∷ []) ≡ end_after place cs + c.len
  end_after-snoc place cs c = omega (arith, sum_by-append (λ (d : Cluster M). d.len) cs (c ∷ []))

  IsApart-snoc : (place : ℕ) (cs : List (Cluster M)) (c : Cluster M) → ranges_end place cs ≤ c.start → IsApart place cs
      → IsApart place (cs ++ c ∷ [])
  IsApart-snoc place cs c after h =
      let grown = IsDisjoint-snoc place (spans_of cs) (ranges_end place cs) (record { start = c.start; len = c.len }) h after in
      let ranges : spans_of (cs ++ c ∷ []) ≡ spans_of cs ++ record { start = c.start; len = c.len } ∷ [] =
      map-append (λ (d : Cluster M). record { start = d.start; len = d.len }) cs (c ∷ []) in
      subst (λ (l : List Span). IsDisjoint place l (ranges_end place (cs ++ c ∷ []))) (sym ranges)
      (subst (λ (e : ℕ). IsDisjoint place (spans_of cs ++ record { start = c.start; len = c.len } ∷ []) e)
      (sym (ranges_end-snoc place cs c)) grown)

  pub IsApart-after_entry : (place : ℕ) (cs : List (Cluster M)) (i : ℕ) (k : EntryKind M) → IsKindAllowed place cs i k
      → IsApart place cs → IsApart place (after_kind cs i k)
  IsApart-after_entry place cs i (entry.Committed n start len meta) ok h = IsApart-snoc place cs _ ok.1 h
  IsApart-after_entry place cs i (entry.Reserved n start len meta) ok h = IsApart-snoc place cs _ ok.1 h
  IsApart-after_entry place cs i (entry.Published ns) ok h = h
  IsApart-after_entry place cs i (entry.Settled n bytes) ok h = IsApart-back place i n (Settled bytes) cs h
  IsApart-after_entry place cs i (entry.Spoiled n faults) ok h = IsApart-back place i n (Spoiled faults) cs h
  IsApart-after_entry place cs i (entry.Faulted faults) ok h = h

  pub IsApart-fold : (place : ℕ) (cs : List (Cluster M)) (history : List (Entry M)) → IsLegalAfter place cs history
      → IsApart place cs → IsApart place (fold after_entry cs history)
  IsApart-fold place cs [] ok h = h
  IsApart-fold place cs (e ∷ es) ok h = IsApart-fold place (after_entry cs e) es ok.1 (IsApart-after_entry place cs e.context e.kind ok.0 h)

  -- one entry more
  pub IsLegalAfter-snoc : (place : ℕ) (cs : List (Cluster M)) (history : List (Entry M)) (e : Entry M)
      → IsLegalAfter place cs history → IsAllowed place (fold after_entry cs history) e → IsLegalAfter place cs (history ++ e ∷ [])
  IsLegalAfter-snoc place cs [] e ok allowed = (allowed, tt)
  IsLegalAfter-snoc place cs (d ∷ ds) e ok allowed = (ok.0, IsLegalAfter-snoc place (after_entry cs d) ds e ok.1 allowed)

  -- the ranges are numbered in order
  abbrev pub IsNumbered : ℕ → List (Cluster M) → Type 0
  IsNumbered n [] = Unit {0}
  IsNumbered n (c ∷ cs) = (c.number ≡ n) × IsNumbered (suc n) cs

  IsNumbered-snoc : (n : ℕ) (cs : List (Cluster M)) (c : Cluster M) → IsNumbered n cs → c.number ≡ n + length cs
      → IsNumbered n (cs ++ c ∷ [])
  IsNumbered-snoc n [] c h is = (omega arith, tt)
  IsNumbered-snoc n (d ∷ cs) c h is = (h.0, IsNumbered-snoc (suc n) cs c h.1 (omega arith))

  IsNumbered-back : (m i n : ℕ) (state : Fate) (cs : List (Cluster M)) → IsNumbered m cs → IsNumbered m (map (handed_back i n state) cs)
  IsNumbered-back m i n state [] h = tt
  IsNumbered-back m i n state (c ∷ cs) h = (
    at (c.context == i && c.number == n && is_out c.state),
    IsNumbered-back (suc m) i n state cs h.1,
  )
    where
      at : (b : Bool) → (cond b (record c { state = state }) c).number ≡ m
      at true = h.0
      at false = h.0

  pub IsNumbered-after_entry : (place : ℕ) (cs : List (Cluster M)) (i : ℕ) (k : EntryKind M) → IsKindAllowed place cs i k
      → IsNumbered 0 cs → IsNumbered 0 (after_kind cs i k)
  IsNumbered-after_entry place cs i (entry.Committed n start len meta) ok h = IsNumbered-snoc 0 cs _ h (omega arith)
  IsNumbered-after_entry place cs i (entry.Reserved n start len meta) ok h = IsNumbered-snoc 0 cs _ h (omega arith)
  IsNumbered-after_entry place cs i (entry.Published ns) ok h = h
  IsNumbered-after_entry place cs i (entry.Settled n bytes) ok h = IsNumbered-back 0 i n (Settled bytes) cs h
  IsNumbered-after_entry place cs i (entry.Spoiled n faults) ok h = IsNumbered-back 0 i n (Spoiled faults) cs h
  IsNumbered-after_entry place cs i (entry.Faulted faults) ok h = h

  pub IsNumbered-fold : (place : ℕ) (cs : List (Cluster M)) (history : List (Entry M)) → IsLegalAfter place cs history → IsNumbered 0 cs
      → IsNumbered 0 (fold after_entry cs history)
  IsNumbered-fold place cs [] ok h = h
  IsNumbered-fold place cs (e ∷ es) ok h = IsNumbered-fold place (after_entry cs e) es ok.1
      (IsNumbered-after_entry place cs e.context e.kind ok.0 h)

  handed_back-number : (i n : ℕ) (state : Fate) (c : Cluster M) → (c.number ≡ n → ⊥) → handed_back i n state c ≡ c
  handed_back-number i n state c differ = ap (λ (b : Bool). cond (c.context == i && b && is_out c.state) (record c {
    state = state;
  }) c) (not-eqb c.number n differ) ∙ at (c.context == i)
    where
      at : (b : Bool) → cond (b && false && is_out c.state) (record c { state = state }) c ≡ c
      at true = refl
      at false = refl

  handed_back-higher : (m i n : ℕ) (state : Fate) (cs : List (Cluster M)) → IsNumbered m cs → n < m → map (handed_back i n state) cs ≡ cs
  handed_back-higher m i n state [] h less = refl
  handed_back-higher m i n state (c ∷ cs) h less =
      ap (λ (d : Cluster M). d ∷ map (handed_back i n state) cs) (handed_back-number i n state c (λ is. omega (arith, is, h.0)))
      ∙ ap (λ (l : List (Cluster M)). c ∷ l) (handed_back-higher (suc m) i n state cs h.1 (omega arith))

  pub handed_back-here : (i n : ℕ) (state : Fate) (c : Cluster M) → c.context ≡ i → c.number ≡ n → c.state ≡ Out
      → handed_back i n state c ≡ record c { state = state }
  handed_back-here i n state c own is out = at (c.context == i) (c.number == n) (is_out c.state) (eq-eqb c.context i own)
      (eq-eqb c.number n is) (ap is_out out)
    where
      at : (x y z : Bool) → x ≡ true → y ≡ true → z ≡ true → cond (x && y && z) (record c { state = state }) c ≡ record c { state = state }
      at true true true p q r = refl
      at true true false p q r = absurd (false≢true r)
      at true false z p q r = absurd (false≢true q)
      at false y z p q r = absurd (false≢true p)

  -- the one range changes
  pub map-handed_back : (m i : ℕ) (state : Fate) (cs : List (Cluster M)) (k n : ℕ) (c : Cluster M) → IsNumbered m cs → n ≡ m + k
      → slice_get cs k ≡ Some c → c.context ≡ i → c.state ≡ Out → map (handed_back i n state) cs ≡ set cs k (record c { state = state })
  map-handed_back m i state [] k n c h is at own out = cc
  map-handed_back m i state (d ∷ cs) zero n c h is at own out =
      let same : d ≡ c = cc in
      let number : d.number ≡ n = omega (arith, h.0) in
      ap (λ (e : Cluster M). e ∷ map (handed_back i n state) cs)
      (handed_back-here i n state d (ap (λ (e : Cluster M). e.context) same ∙ own) number (ap (λ (e : Cluster M). e.state) same ∙ out))
      ∙ (ap (λ (l : List (Cluster M)). record d { state = state } ∷ l) (handed_back-higher (suc m) i n state cs h.1 (omega arith))
      ∙ ap (λ (e : Cluster M). record e { state = state } ∷ cs) same)
  map-handed_back m i state (d ∷ cs) (suc k) n c h is at own out =
      ap (λ (e : Cluster M). e ∷ map (handed_back i n state) cs) (handed_back-number i n state d (λ same. omega (arith, same, h.0)))
      ∙ ap (λ (l : List (Cluster M)). d ∷ l) (map-handed_back (suc m) i state cs k n c h.1 (omega arith) at own out)

  pub IsNumbered-at : (m : ℕ) (cs : List (Cluster M)) (n : ℕ) (c : Cluster M) → IsNumbered m cs → slice_get cs n ≡ Some c → c.number ≡ m + n
  IsNumbered-at m [] n c h at = cc
  IsNumbered-at m (d ∷ cs) zero c h at =
      let same : d ≡ c = cc in
      let number : d.number ≡ c.number = ap (λ (e : Cluster M). e.number) same in
      let first = h.0 in
      omega arith
  IsNumbered-at m (d ∷ cs) (suc n) c h at = let rest = IsNumbered-at (suc m) cs n c h.1 at in omega arith

  -- in a legal history a range changes in its place
  pub ranges_of-back : (place i n : ℕ) (state : Fate) (history : List (Entry M)) → IsLegal place history
      → (is : IsOut (ranges_of history) i n)
      → map (handed_back i n state) (ranges_of history) ≡ set (ranges_of history) n (record is.cluster { state = state })
  ranges_of-back place i n state history ok is =
      map-handed_back 0 i state (ranges_of history) n n is.cluster (IsNumbered-fold place [] history ok tt) (omega arith)
      is.at is.own is.out

  pub ranges_of-snoc : (history : List (Entry M)) (e : Entry M) → ranges_of (history ++ e ∷ []) ≡ after_entry (ranges_of history) e
  ranges_of-snoc history e = fold-append after_entry [] history (e ∷ [])
