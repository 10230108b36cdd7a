-- Ranges of clusters that are out, and those that are handed back.
use Rattle.std.proofs.Common.{◌≡◌, ◌∙◌, ap, sym, refl, ℕ, zero, suc, ◌+◌, ◌==◌, ◌&&◌, ◌≤◌, Bool, true, false, cond, List, [], ◌∷◌, ◌++◌}
use Rattle.std.proofs.Common.{map, Some, arith, subst, eq-eqb}
use Rattle.std.specs.Prelude.{filter, slice_get, sum_by, if◌then◌else◌, Contains}
use Rattle.std.specs.List.{AllByRecursion}
use Rattle.std.proofs.Math.ListN.{set}
use Rattle.std.proofs.lemmas.Bool.{ne_eqb, false≢true}
use Rattle.std.proofs.lemmas.List.{map-append}
use Rattle.std.proofs.lemmas.List.Elements.{filter-append}
use Rattle.std.proofs.lemmas.List.Sums.{sum_by-cons}
use Rattle.nt_outside.specs.declared.range.Range.{Range}
use Rattle.nt_outside.specs.Range.{is_same_range, without}
use Rattle.nt_machine.specs.declared.entry.Entry.{Entry}
use Rattle.nt_machine.specs.declared.entry.EntryKind.{EntryKind}
use Rattle.nt_machine.specs.declared.entry.EntryKind.TheVariants as entry
use Rattle.nt_machine.specs.History.{Cluster, Fate, Out, Settled, Spoiled, is_out, handed_back, after_kind, ranges_of}
use Rattle.nt_machine.specs.Legal.{spans_of, end_after}
use Rattle.nt_machine.specs.Spans.{IsDisjoint}
use Rattle.nt_machine.proofs.Histories.{AllByRecursion-map}
use Rattle.nt_machine.proofs.Legality.{ranges_of-snoc, end_after-snoc}
use Rattle.nt_commit.specs.Locked.{HasToldBytes, place_of, ranges_out}

same_range-start : (one two : Range) → (one.start == two.start) ≡ false → is_same_range one two ≡ false
same_range-start one two differ = ap (λ (b : Bool). b && (one.len == two.len)) differ

same_range-same : (one two : Range) → one ≡ two → is_same_range one two ≡ true
same_range-same one two is =
    both (one.start == two.start) (one.len == two.len) (eq-eqb one.start two.start (ap (λ (r : Range). r.start) is))
    (eq-eqb one.len two.len (ap (λ (r : Range). r.len) is))
  where
    both : (a b : Bool) → a ≡ true → b ≡ true → (a && b) ≡ true
    both true b p q = q
    both false b p q = absurd (false≢true p)

module _ {M : Type 0} where
  abbrev pub IsRoomy : Cluster M → Type 0
  IsRoomy c = 42 ≤ c.len

  -- a range that is out is one of those
  pub contains_out : (cs : List (Cluster M)) (k : ℕ) (c : Cluster M) → slice_get cs k ≡ Some c → c.state ≡ Out
      → Contains (ranges_out cs) (place_of c)
  contains_out [] k c at out = cc
  contains_out (d ∷ cs) zero c at out =
      let same : d ≡ c = cc in
      here (is_out d.state) (ap (λ (e : Cluster M). is_out e.state) same ∙ ap is_out out) (ap place_of same)
    where
      here : (b : Bool) → b ≡ true → place_of d ≡ place_of c
          → Contains (map place_of (cond b (d ∷ filter (λ (e : Cluster M). is_out e.state) cs)
          (filter (λ (e : Cluster M). is_out e.state) cs))) (place_of c)
      here true is same = (0, omega arith, same)
      here false is same = absurd (false≢true is)
  contains_out (d ∷ cs) (suc k) c at out = later (is_out d.state) (contains_out cs k c at out)
    where
      later : (b : Bool) → Contains (ranges_out cs) (place_of c)
          → Contains (map place_of (cond b (d ∷ filter (λ (e : Cluster M). is_out e.state) cs)
          (filter (λ (e : Cluster M). is_out e.state) cs))) (place_of c)
      later true r = (suc r.0, omega (arith, r.1), r.2)
      later false r = r

  -- one range more
  pub ranges_out-snoc : (cs : List (Cluster M)) (c : Cluster M) → c.state ≡ Out → ranges_out (cs ++ c ∷ []) ≡ ranges_out cs
      ++ place_of c ∷ []
  ranges_out-snoc cs c out =
      ap (λ (l : List (Cluster M)). map place_of l)
      (filter-append (λ (d : Cluster M). is_out d.state) cs (c ∷ [])
      ∙ ap (λ (s : Fate). filter (λ (d : Cluster M). is_out d.state) cs ++ cond (is_out s) (c ∷ []) []) out)
      ∙ map-append place_of (filter (λ (d : Cluster M). is_out d.state) cs) (c ∷ [])

  starts_above : (from end : ℕ) (cs : List (Cluster M)) (k : ℕ) (c : Cluster M) → IsDisjoint from (spans_of cs) end
      → slice_get cs k ≡ Some c → from ≤ c.start
  starts_above from end [] k c apart at = cc
  starts_above from end (d ∷ cs) zero c apart at =
      let same : d ≡ c = cc in
      let start : d.start ≡ c.start = ap (λ (e : Cluster M). e.start) same in
      omega (arith, start, apart.0)
  starts_above from end (d ∷ cs) (suc k) c apart at =
      let above = starts_above (d.start + d.len) end cs k c apart.1 at in
      omega (arith, above, apart.0)

  -- a range that is handed back is taken off those that are out
  pub ranges_out-set : (from end : ℕ) (cs : List (Cluster M)) (k : ℕ) (c : Cluster M) (fate : Fate)
      → IsDisjoint from (spans_of cs) end → AllByRecursion IsRoomy cs
      → slice_get cs k ≡ Some c → c.state ≡ Out → is_out fate ≡ false → ranges_out (set cs k (record c { state = fate }))
      ≡ without (place_of c) (ranges_out cs)
  ranges_out-set from end [] k c fate apart roomy at out back = cc
  ranges_out-set from end (d ∷ cs) zero c fate apart roomy at out back =
      let same : d ≡ c = cc in
      gone (is_out fate) back ∙ sym (found (is_out d.state) (ap (λ (e : Cluster M). is_out e.state) same ∙ ap is_out out)
      (same_range-same (place_of d) (place_of c) (ap place_of same)))
    where
      rest : List (Cluster M)
      rest = filter (λ (e : Cluster M). is_out e.state) cs

      gone : (b : Bool) → b ≡ false → map place_of (cond b (record c { state = fate } ∷ rest) rest) ≡ map place_of rest
      gone true is = absurd (false≢true (sym is))
      gone false is = refl

      found : (b : Bool) → b ≡ true → is_same_range (place_of d) (place_of c) ≡ true
          → without (place_of c) (map place_of (cond b (d ∷ rest) rest)) ≡ map place_of rest
      found true is same = ap (λ (t : Bool). if t then map place_of rest else place_of d ∷ without (place_of c) (map place_of rest)) same
      found false is same = absurd (false≢true is)
  ranges_out-set from end (d ∷ cs) (suc k) c fate apart roomy at out back =
      let above = starts_above (d.start + d.len) end cs k c apart.1 at in
      let differ : (d.start == c.start) ≡ false = ne_eqb d.start c.start (λ is. omega (arith, is, above, roomy.0)) in
      both (is_out d.state) (same_range-start (place_of d) (place_of c) differ)
      (ranges_out-set (d.start + d.len) end cs k c fate apart.1 roomy.1 at out back)
    where
      after : List (Cluster M)
      after = filter (λ (e : Cluster M). is_out e.state) (set cs k (record c { state = fate }))

      before : List (Cluster M)
      before = filter (λ (e : Cluster M). is_out e.state) cs

      both : (b : Bool) → is_same_range (place_of d) (place_of c) ≡ false → map place_of after ≡ without (place_of c) (map place_of before)
          → map place_of (cond b (d ∷ after) after) ≡ without (place_of c) (map place_of (cond b (d ∷ before) before))
      both true differ is =
          ap (λ (l : List Range). place_of d ∷ l) is
          ∙ sym (ap (λ (t : Bool). if t then map place_of before else place_of d ∷ without (place_of c) (map place_of before)) differ)
      both false differ is = is

  pub len-handed_back : (i n : ℕ) (fate : Fate) (c : Cluster M) → (handed_back i n fate c).len ≡ c.len
  len-handed_back i n fate c = at (c.context == i && c.number == n && is_out c.state)
    where
      at : (b : Bool) → (cond b (record c { state = fate }) c).len ≡ c.len
      at true = refl
      at false = refl

  sum-handed_back : (i n : ℕ) (fate : Fate) (cs : List (Cluster M))
      → sum_by (λ (c : Cluster M). c.len) (map (handed_back i n fate) cs) ≡ sum_by (λ (c : Cluster M). c.len) cs
  sum-handed_back i n fate [] = refl
  sum-handed_back i n fate (c ∷ cs) =
      omega (
        arith,
        sum_by-cons (λ (c : Cluster M). c.len) (handed_back i n fate c) (map (handed_back i n fate) cs),
        sum_by-cons (λ (c : Cluster M). c.len) c cs,
        len-handed_back i n fate c,
        sum-handed_back i n fate cs,
      )

  -- handing back moves no range
  pub end_after-handed_back : (place i n : ℕ) (fate : Fate) (cs : List (Cluster M))
      → end_after place (map (handed_back i n fate) cs) ≡ end_after place cs
  end_after-handed_back place i n fate cs = ap (λ (s : ℕ). place + s) (sum-handed_back i n fate cs)

  -- how many bytes the range has that an entry reserves
  abbrev pub reserved_len : EntryKind M → ℕ
  reserved_len (entry.Committed n start len meta) = len
  reserved_len (entry.Reserved n start len meta) = len
  reserved_len (entry.Published ns) = 0
  reserved_len (entry.Settled n bytes) = 0
  reserved_len (entry.Spoiled n faults) = 0
  reserved_len (entry.Faulted faults) = 0

  end_after-kind : (place : ℕ) (cs : List (Cluster M)) (i : ℕ) (k : EntryKind M)
      → end_after place (after_kind cs i k) ≡ end_after place cs + reserved_len k
  end_after-kind place cs i (entry.Committed n start len meta) = end_after-snoc place cs _
  end_after-kind place cs i (entry.Reserved n start len meta) = end_after-snoc place cs _
  end_after-kind place cs i (entry.Published ns) = omega arith
  end_after-kind place cs i (entry.Settled n bytes) = omega (arith, end_after-handed_back place i n (Settled bytes) cs)
  end_after-kind place cs i (entry.Spoiled n faults) = omega (arith, end_after-handed_back place i n (Spoiled faults) cs)
  end_after-kind place cs i (entry.Faulted faults) = omega arith

  -- where ranges end with one entry more
  pub end_after-entry : (place : ℕ) (history : List (Entry M)) (e : Entry M)
      → end_after place (ranges_of (history ++ e ∷ [])) ≡ end_after place (ranges_of history) + reserved_len e.kind
  end_after-entry place history e =
      ap (λ (l : List (Cluster M)). end_after place l) (ranges_of-snoc history e)
      ∙ end_after-kind place (ranges_of history) e.context e.kind

  -- ranges that have bytes where they are settled, one of them handed back so
  pub bytes-handed_back : (i n : ℕ) (fate : Fate) (cs : List (Cluster M)) → HasToldBytes fate
      → AllByRecursion (λ (c : Cluster M). HasToldBytes c.state) cs
      → AllByRecursion (λ (c : Cluster M). HasToldBytes c.state) (map (handed_back i n fate) cs)
  bytes-handed_back i n fate cs has all =
      AllByRecursion-map (λ (c : Cluster M). HasToldBytes c.state) (λ (c : Cluster M). HasToldBytes c.state) (handed_back i n fate)
      (λ c h. at c (c.context == i && c.number == n && is_out c.state) h) cs all
    where
      at : (c : Cluster M) (b : Bool) → HasToldBytes c.state → HasToldBytes (cond b (record c { state = fate }) c).state
      at c true h = has
      at c false h = h

  pub roomy-handed_back : (i n : ℕ) (fate : Fate) (cs : List (Cluster M)) → AllByRecursion IsRoomy cs
      → AllByRecursion IsRoomy (map (handed_back i n fate) cs)
  roomy-handed_back i n fate cs roomy =
      AllByRecursion-map IsRoomy IsRoomy (handed_back i n fate)
      (λ c h. subst (λ (len : ℕ). 42 ≤ len) (sym (len-handed_back i n fate c)) h) cs roomy
