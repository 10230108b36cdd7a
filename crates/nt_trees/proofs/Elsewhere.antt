-- What isn't named stays, and what is sound rests on the columns that are named.
use Rattle.std.proofs.Common.{cond, ◌≡◌, ℕ, zero, suc, ◌+◌, ◌<◌, ◌==◌, ◌||◌, List, [], ◌∷◌, ◌++◌, length, map, Bool, true, false, refl, sym}
use Rattle.std.proofs.Common.{ap, ◌∙◌, arith, append-nil, subst}
use Rattle.std.proofs.lemmas.Bool.{eq-eqb, ne_eqb, or_parts, false≢true, true≢false}
use Rattle.nt_types.specs.TreeData.{is_nothing, TreeData, TreesData, flag, num, items, parts, pick, nothing, no_trees, tree}
use Rattle.nt_types.specs.TreeData as trees
use Rattle.nt_column.specs.Bits.{bit_of}
use Rattle.nt_column.specs.Elements.{Element, plain}
use Rattle.nt_plans.specs.Plan.{PlanData, PlansData, bool, number, text, list, maybe, record_of, choice, no_plans, plan, has, has_any}
use Rattle.nt_trees.specs.Sound.{FewSteps, how_many_plans, Rises, TagsUpTo, IndicesCount, Sound, AllSound, EachSound}
use Rattle.nt_trees.specs.Integers.{twos_complement}
use Rattle.nt_trees.specs.Columns.{Cols, last_end, count_tag, add_to}
use Rattle.nt_trees.specs.Put.{how_many_trees, put_each, put_tree, put_trees, put_one}

pub add_to-elsewhere : (k : ℕ) (es : List Element) (cols : Cols) (j : ℕ) → (j == k) ≡ false → add_to k es cols j ≡ cols j
add_to-elsewhere k es cols j h = rw h (append-nil (cols j))

pub add_to-here : (k : ℕ) (es : List Element) (cols : Cols) → add_to k es cols k ≡ cols k ++ es
add_to-here k es cols = rw (eq-eqb k k refl) refl

pub put_each-elsewhere : (f : TreeData → Cols → Cols) (j : ℕ) → ((t : TreeData) (cols : Cols) → f t cols j ≡ cols j)
    → (ts : TreesData) (cols : Cols) → put_each f ts cols j ≡ cols j
put_each-elsewhere f j each no_trees cols = refl
put_each-elsewhere f j each (tree t ts) cols = put_each-elsewhere f j each ts (f t cols) ∙ each t cols

either-at : (b : Bool) (x y : Cols) (j : ℕ) (es : List Element) → x j ≡ es → y j ≡ es → cond b x y j ≡ es
either-at true x y j es f g = f
either-at false x y j es f g = g

mutual
  pub put_tree-elsewhere : (p : PlanData) (t : TreeData) (cols : Cols) (j : ℕ) → has p j ≡ false → put_tree p t cols j ≡ cols j
  put_tree-elsewhere (bool k) (flag b) cols j h = add_to-elsewhere k (plain (bit_of b) ∷ []) cols j h
  put_tree-elsewhere (number k bits signed) (num n) cols j h = add_to-elsewhere k (plain (twos_complement bits n) ∷ []) cols j h
  put_tree-elsewhere (text e c) (trees.text s) cols j h =
      let q = or_parts (j == e) (j == c) h in
      add_to-elsewhere e (plain (last_end (cols e) + length s) ∷ []) (add_to c (map plain s) cols) j q.0
      ∙ add_to-elsewhere c (map plain s) cols j q.1
  put_tree-elsewhere (list e p) (items ts) cols j h =
      let q = or_parts (j == e) (has p j) h in
      add_to-elsewhere e (plain (last_end (cols e) + how_many_trees ts) ∷ []) (put_each (put_tree p) ts cols) j q.0
      ∙ put_each-elsewhere (put_tree p) j (λ t cs. put_tree-elsewhere p t cs j q.1) ts cols
  put_tree-elsewhere (maybe e p) t cols j h =
      let q = or_parts (j == e) (has p j) h in
      either-at (is_nothing t) (add_to e (plain (last_end (cols e)) ∷ []) cols)
      (add_to e (plain (last_end (cols e) + 1) ∷ []) (put_tree p t cols)) j (cols j)
      (add_to-elsewhere e (plain (last_end (cols e)) ∷ []) cols j q.0)
      (add_to-elsewhere e (plain (last_end (cols e) + 1) ∷ []) (put_tree p t cols) j q.0 ∙ put_tree-elsewhere p t cols j q.1)
  put_tree-elsewhere (record_of ps) (parts ts) cols j h = put_trees-elsewhere ps ts cols j h
  put_tree-elsewhere (choice s ps) nothing cols j h = add_to-elsewhere s ((0, 0) ∷ []) cols j (or_parts (j == s) (has_any ps j) h).0
  put_tree-elsewhere (choice s ps) (pick tag t) cols j h =
      let q = or_parts (j == s) (has_any ps j) h in
      add_to-elsewhere s ((count_tag tag (cols s), tag) ∷ []) (put_one ps tag t cols) j q.0 ∙ put_one-elsewhere ps tag t cols j q.1
  put_tree-elsewhere _ _ cols j h = refl

  pub put_trees-elsewhere : (ps : PlansData) (ts : TreesData) (cols : Cols) (j : ℕ) → has_any ps j ≡ false → put_trees ps ts cols j ≡ cols j
  put_trees-elsewhere no_plans ts cols j h = refl
  put_trees-elsewhere (plan p ps) no_trees cols j h = refl
  put_trees-elsewhere (plan p ps) (tree t ts) cols j h =
      let q = or_parts (has p j) (has_any ps j) h in put_trees-elsewhere ps ts (put_tree p t cols) j q.1 ∙ put_tree-elsewhere p t cols j q.0

  pub put_one-elsewhere : (ps : PlansData) (tag : ℕ) (t : TreeData) (cols : Cols) (j : ℕ) → has_any ps j ≡ false
      → put_one ps tag t cols j ≡ cols j
  put_one-elsewhere no_plans tag t cols j h = refl
  put_one-elsewhere (plan p ps) zero t cols j h = refl
  put_one-elsewhere (plan p ps) (suc zero) t cols j h = put_tree-elsewhere p t cols j (or_parts (has p j) (has_any ps j) h).0
  put_one-elsewhere (plan p ps) (suc (suc n)) t cols j h = put_one-elsewhere ps (suc n) t cols j (or_parts (has p j) (has_any ps j) h).1

-- ---- columns that differ

pub apart : (f : ℕ → Bool) (k j : ℕ) → f k ≡ false → f j ≡ true → (j == k) ≡ false
apart f k j h i = ne_eqb j k (λ (e : j ≡ k). true≢false (sym i ∙ ap f e ∙ h))

pub other_side : (a b : Bool) → (a ≡ true → b ≡ false) → b ≡ true → a ≡ false
other_side true b h i = absurd (true≢false (sym i ∙ h refl))
other_side false b h i = refl

-- ---- columns that are the same where they are named

abbrev pub Agree : (ℕ → Bool) → Cols → Cols → Type 0
Agree f old new = (j : ℕ) → f j ≡ true → new j ≡ old j

pub or_left : (a b : Bool) → a ≡ true → (a || b) ≡ true
or_left true b h = refl
or_left false b h = absurd (false≢true h)

pub or_right : (a b : Bool) → b ≡ true → (a || b) ≡ true
or_right true b h = refl
or_right false b h = h

pub same_key : (k : ℕ) → (k == k) ≡ true
same_key k = eq-eqb k k refl

mutual
  pub sound-agrees : (p : PlanData) (old new : Cols) (n : ℕ) → Agree (has p) old new → Sound p old n → Sound p new n
  sound-agrees (bool k) old new n a s = ap length (a k (same_key k)) ∙ s
  sound-agrees (number k bits signed) old new n a s = ap length (a k (same_key k)) ∙ s
  sound-agrees (text e c) old new n a s =
      let at_e = a e (or_left (e == e) (e == c) (same_key e)) in
      let at_c = a c (or_right (c == e) (c == c) (same_key c)) in
      (ap length at_e ∙ s.0, subst Rises (sym at_e) s.1, ap length at_c ∙ s.2 ∙ ap last_end (sym at_e))
  sound-agrees (list e p) old new n a s =
      let at_e = a e (or_left (e == e) (has p e) (same_key e)) in (
        ap length at_e ∙ s.0,
        subst Rises (sym at_e) s.1,
        subst (λ es. Sound p new (last_end es)) (sym at_e)
            (sound-agrees p old new _ (λ j h. a j (or_right (j == e) (has p j) h)) s.2),
      )
  sound-agrees (maybe e p) old new n a s =
      let at_e = a e (or_left (e == e) (has p e) (same_key e)) in (
        ap length at_e ∙ s.0,
        subst Rises (sym at_e) s.1,
        subst FewSteps (sym at_e) s.2,
        subst (λ es. Sound p new (last_end es)) (sym at_e)
            (sound-agrees p old new _ (λ j h. a j (or_right (j == e) (has p j) h)) s.3),
      )
  sound-agrees (record_of ps) old new n a s = all_sound-agrees ps old new n a s
  sound-agrees (choice k ps) old new n a s =
      let at_k = a k (or_left (k == k) (has_any ps k) (same_key k)) in (
        ap length at_k ∙ s.0,
        subst (TagsUpTo (how_many_plans ps)) (sym at_k) s.1,
        subst IndicesCount (sym at_k) s.2,
        subst (λ es. EachSound 0 ps es new) (sym at_k) (each_sound-agrees 0 ps _ _ old new
            (λ j h. a j (or_right (j == k) (has_any ps j) h)) (λ t h. refl) s.3),
      )

  pub all_sound-agrees : (ps : PlansData) (old new : Cols) (n : ℕ) → Agree (has_any ps) old new → AllSound ps old n → AllSound ps new n
  all_sound-agrees no_plans old new n a s = tt
  all_sound-agrees (plan p ps) old new n a s = (
    sound-agrees p old new n (λ j h. a j (or_left (has p j) (has_any ps j) h)) s.0,
    all_sound-agrees ps old new n (λ j h. a j (or_right (has p j) (has_any ps j) h)) s.1,
  )

  pub each_sound-agrees : (before : ℕ) (ps : PlansData) (es new_es : List Element) (old new : Cols) → Agree (has_any ps) old new
      → ((t : ℕ) → before < t → count_tag t new_es ≡ count_tag t es) → EachSound before ps es old → EachSound before ps new_es new
  each_sound-agrees before no_plans es new_es old new a c s = tt
  each_sound-agrees before (plan p ps) es new_es old new a c s = (
    subst (Sound p new) (sym (c (suc before) (omega arith)))
        (sound-agrees p old new _ (λ j h. a j (or_left (has p j) (has_any ps j) h)) s.0),
    each_sound-agrees (suc before) ps es new_es old new (λ j h. a j (or_right (has p j) (has_any ps j) h)) (λ t h. c t (omega arith)) s.1,
  )
