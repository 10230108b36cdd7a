-- Optionals that are added as a run: the elements of their values, and then their ends.
use Rattle.std.proofs.Common.{◌≡◌, ℕ, suc, ℤ, ◌+◌, ◌-◌, ◌≤◌, ◌<◌, ◌==◌, Bool, true, false, cond, List, [], ◌∷◌, ◌++◌, length, map}
use Rattle.std.proofs.Common.{refl, sym, ◌∙◌, ap, ap₂, arith, subst, append_assoc, append-nil, length-append}
use Rattle.std.proofs.lemmas.List.{length-map}
use Rattle.std.proofs.lemmas.Bool.{eq-eqb, true≢false, eqb-true}
use Rattle.nt_types.specs.ShapeData.{no_kinds}
use Rattle.nt_types.specs.TreeData.{num, nothing, trees_of}
use Rattle.nt_types.specs.Fits.{all_trees}
use Rattle.nt_event.specs.Standing.{StandsFrom}
use Rattle.nt_event.proofs.Texts.{reads-null}
use Rattle.nt_column.specs.Column.{Buffer}
use Rattle.nt_column.specs.Elements.{Element, plain}
use Rattle.nt_plans.specs.Plan.{number, maybe}
use Rattle.nt_trees.specs.Columns.{Cols, last_end, add_to}
use Rattle.nt_trees.specs.Integers.{twos_complement}
use Rattle.nt_trees.specs.Put.{put_each, put_tree}
use Rattle.nt_trees.specs.Fits.{fits_plan}
use Rattle.nt_trees.specs.Views.{cols_of}
use Rattle.nt_trees.proofs.Elsewhere.{add_to-here}
use Rattle.nt_trees.proofs.Lists.{new_last}
use Rattle.nt_shred.specs.Frame.{set_frame, ends_below, FitsIn}
use Rattle.nt_shred.specs.Steps.{GainsInRoom}
use Rattle.nt_shred.proofs.Sets.{frame-within, same-length}
use Rattle.nt_shred.specs.Runs.{PutsRun, AllInts, integer_elements, PutsIntegers, ends_behind}
use Rattle.nt_shred.specs.Walk.{CanPut, Puts}
use Rattle.nt_shred.proofs.Singles.{one-more}
use Rattle.nt_shred.proofs.Runs.{run-long}
use Rattle.nt_shred.proofs.RunOfIntegers.{length-integers, range-ints, length-ends}

-- ---- two columns that differ

-- an element and an end, and then more of both
both-more : (a b : Bool) (c xs ys : List Element) (x y : Element) → (a ≡ true → b ≡ true → ⊥)
    → ((((c ++ cond a (x ∷ []) []) ++ cond b (y ∷ []) []) ++ cond a xs []) ++ cond b ys [])
    ≡ ((c ++ cond a (x ∷ xs) []) ++ cond b (y ∷ ys) [])
both-more true true c xs ys x y apart = absurd (apart refl refl)
both-more true false c xs ys x y apart =
    ap (λ (l : List Element). l ++ []) (ap (λ (l : List Element). l ++ xs) (append-nil (c ++ x ∷ [])) ∙ append_assoc c (x ∷ []) xs)
both-more false true c xs ys x y apart =
    ap (λ (l : List Element). l ++ ys) (append-nil ((c ++ []) ++ y ∷ [])) ∙ append_assoc (c ++ []) (y ∷ []) ys
both-more false false c xs ys x y apart = ap (λ (l : List Element). (l ++ []) ++ []) (append-nil (c ++ [])) ∙ append-nil ((c ++ []) ++ [])

both-long : (a b : Bool) (c xs ys : List Element) (n : ℕ) → (a ≡ true → b ≡ true → ⊥) → length xs ≤ n → length ys ≤ n
    → length ((c ++ cond a xs []) ++ cond b ys []) ≤ length c + n
both-long true true c xs ys n apart h i = absurd (apart refl refl)
both-long true false c xs ys n apart h i = omega (arith, length-append (c ++ xs) [], length-append c xs, h)
both-long false true c xs ys n apart h i = omega (arith, length-append (c ++ []) ys, length-append c [], i)
both-long false false c xs ys n apart h i = omega (arith, length-append (c ++ []) [], length-append c [])

not-both : (e k j : ℕ) → (e == k) ≡ false → (j == k) ≡ true → (j == e) ≡ true → ⊥
not-both e k j apart here there =
    let one : j ≡ k = eqb-true j k here in
    let two : j ≡ e = eqb-true j e there in
    true≢false (sym (eq-eqb e k (sym two ∙ one)) ∙ apart)

-- ---- optionals that all have values

module _ (e k bits : ℕ) (signed : Bool) (apart : (e == k) ≡ false) where
  put-ends : (zs : List ℤ) (cols : Cols) → put_each (put_tree (maybe e (number k bits signed))) (trees_of (map (λ z. num z) zs)) cols
      ≡ add_to e (ends_behind (last_end (cols e)) (length zs)) (add_to k (integer_elements bits zs) cols)
  put-ends [] cols = λ i j. sym (none (j == k) (j == e) (cols j)) i
    where
      none : (a b : Bool) (c : List Element) → (c ++ cond a [] []) ++ cond b [] [] ≡ c
      none true true c = append-nil (c ++ []) ∙ append-nil c
      none true false c = append-nil (c ++ []) ∙ append-nil c
      none false true c = append-nil (c ++ []) ∙ append-nil c
      none false false c = append-nil (c ++ []) ∙ append-nil c
  put-ends (z ∷ zs) cols =
      let x = plain (twos_complement bits z) in
      let m = last_end (cols e) in
      let one = add_to e (plain (m + 1) ∷ []) (add_to k (x ∷ []) cols) in
      let same : m + 1 ≡ suc m = omega arith in
      let here : last_end (one e) ≡ suc m = ap last_end (add_to-here e (plain (m + 1) ∷ []) (add_to k (x ∷ []) cols))
      ∙ new_last (add_to k (x ∷ []) cols e) (m + 1) 0 ∙ same in
      put-ends zs one ∙ ap (λ (n : ℕ). add_to e (ends_behind n (length zs)) (add_to k (integer_elements bits zs) one)) here
      ∙ ap (λ (n : ℕ). add_to e (ends_behind (suc m) (length zs)) (add_to k (integer_elements bits zs)
      (add_to e (plain n ∷ []) (add_to k (x ∷ []) cols)))) same
      ∙ (λ i j. both-more (j == k) (j == e) (cols j) (integer_elements bits zs) (ends_behind (suc m) (length zs)) x (plain (suc m))
      (not-both e k j apart) i)

  fit-optionals : (zs : List ℤ) → AllInts bits signed zs
      → all_trees (fits_plan (maybe e (number k bits signed))) (trees_of (map (λ z. num z) zs)) ≡ true
  fit-optionals [] h = refl
  fit-optionals (z ∷ zs) h = rw (h.0, fit-optionals zs h.2) refl

-- ---- as many ends as values

module _ (e k bits : ℕ) (signed : Bool) (line : List ℕ) (at : ℕ) (old : List Buffer)
    (can : CanPut (maybe e (number k bits signed)) (length line - at) old) where
  -- the last end is how many values there are
  pub values-are : length (cols_of old k) ≡ last_end (cols_of old e)
  values-are = can.sound.3

  pub within-values : k < length old
  within-values = frame-within old k (can.takes.1.0.0, 0) can.takes.1.0.1

  within-ends : e < length old
  within-ends = frame-within old e (can.takes.0.0, 0) can.takes.0.1

  pub count-fits : length (cols_of old k) < ends_below (set_frame old)
  count-fits = omega (arith, can.room.ends k within-values)

  -- one more
  pub next-fits : at < length line → length (cols_of old k) + 1 < ends_below (set_frame old)
  next-fits some = omega (arith, can.room.ends k within-values, some)

  -- nothing
  pub null-put : (end n : ℕ) (new : List Buffer) → StandsFrom (110 ∷ 117 ∷ 108 ∷ 108 ∷ []) line at end → n ≡ length (cols_of old k)
      → GainsInRoom (add_to e (plain n ∷ [])) old new → Puts (maybe e (number k bits signed)) line at end old new
  null-put end n new h is g =
      let one = subst (λ (m : ℕ). GainsInRoom (add_to e (plain m ∷ [])) old new) (is ∙ values-are) g in
      record {
        found = nothing;
        stands = (reads-null 0 no_kinds line at end h).stands;
        range = tt;
        fitting = refl;
        gains = record { columns = one.columns; frame = one.frame; room = one.room };
        few = one-more e (plain n) (end - at) old new (omega (arith, h.some)) g;
      }

  module _ (end : ℕ) (mid : List Buffer) (h : PutsIntegers k bits signed line at end old mid) where
    long : (at + length h.values ≤ end) × (end ≤ length line) × (at < end)
    long =
        let l = run-long (map (λ z. num z) h.values) line at end h.stands in
        (omega (arith, l.0, length-map h.values (λ z. num z)), l.1, l.2)

    pub mid-values : length (cols_of mid k) ≡ length (cols_of old k) + length h.values
    mid-values = ap (λ (c : Cols). length (c k)) h.gains.columns ∙ ap length (add_to-here k (integer_elements bits h.values) (cols_of old))
        ∙ length-append (cols_of old k) (integer_elements bits h.values)
        ∙ ap (λ n. length (cols_of old k) + n) (length-integers bits h.values)

    pub mid-fits : length (cols_of mid k) < ends_below (set_frame mid)
    mid-fits = omega (arith, mid-values, can.room.ends k within-values, long.0, long.1, ap ends_below h.gains.frame)

    both : (before last : ℕ) → before ≡ length (cols_of old k) → last ≡ length (cols_of mid k)
        → add_to e (ends_behind before (last - before)) (cols_of mid)
        ≡ add_to e (ends_behind (last_end (cols_of old e)) (length h.values)) (add_to k (integer_elements bits h.values) (cols_of old))
    both before last first final =
        let n : last - before ≡ length h.values = omega (arith, first, final, mid-values) in
        ap₂ (λ (m n : ℕ). add_to e (ends_behind m n) (cols_of mid)) (first ∙ values-are) n
        ∙ ap (add_to e (ends_behind (last_end (cols_of old e)) (length h.values))) h.gains.columns

    both-few : (j : ℕ) → length (add_to e (ends_behind (last_end (cols_of old e)) (length h.values))
        (add_to k (integer_elements bits h.values) (cols_of old)) j) ≤ length (cols_of old j) + (end - at)
    both-few j = both-long (j == k) (j == e) (cols_of old j) (integer_elements bits h.values)
        (ends_behind (last_end (cols_of old e)) (length h.values)) (end - at) (not-both e k j can.differ.0)
        (omega (arith, length-integers bits h.values, long.0))
        (omega (arith, length-ends (last_end (cols_of old e)) (length h.values), long.0))

    pub mid-room : (before last : ℕ) → before ≡ length (cols_of old k) → last ≡ length (cols_of mid k)
        → FitsIn mid (add_to e (ends_behind before (last - before)) (cols_of mid))
    mid-room before last first final = subst (FitsIn mid) (sym (both before last first final)) (record {
      memory = λ j w. omega (
        arith,
        both-few j,
        can.room.memory j (omega (arith, w, same-length old mid h.gains.frame)),
        h.gains.room j,
        long.1,
        long.2,
      );
      ends = λ j w. omega (
        arith,
        both-few j,
        can.room.ends j (omega (arith, w, same-length old mid h.gains.frame)),
        ap ends_below h.gains.frame,
        long.1,
        long.2,
      );
    })

    pub run-put : (before last : ℕ) (new : List Buffer) → before ≡ length (cols_of old k) → last ≡ length (cols_of mid k)
        → GainsInRoom (add_to e (ends_behind before (last - before))) mid new → PutsRun (maybe e (number k bits signed)) line at end old new
    run-put before last new first final g =
        let columns = g.columns ∙ both before last first final in
        record {
          found = map (λ z. num z) h.values;
          stands = h.stands;
          range = range-ints bits signed h.values h.ints;
          fitting = fit-optionals e k bits signed can.differ.0 h.values h.ints;
          gains = record {
            columns = columns ∙ sym (put-ends e k bits signed can.differ.0 h.values (cols_of old));
            frame = g.frame ∙ h.gains.frame;
            room = λ j. omega (arith, h.gains.room j, g.room j);
          };
          few = λ j. omega (arith, both-few j, ap (λ (c : Cols). length (c j)) columns);
        }
