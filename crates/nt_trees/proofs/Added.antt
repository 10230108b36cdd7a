-- What a tree adds is one element of its field, which is that tree.
use Rattle.std.proofs.Common.{◌≡◌, ℕ, zero, suc, ◌+◌, ◌-◌, ◌<◌, ◌≤◌, List, [], ◌∷◌, ◌++◌, length, true, false, refl, sym, ap, ap₂, ◌∙◌}
use Rattle.std.proofs.Common.{arith, subst}
use Rattle.std.proofs.lemmas.Bool.{and_parts, false≢true}
use Rattle.nt_types.specs.TreeData.{TreeData, TreesData, flag, num, items, parts, pick, nothing, no_trees, tree}
use Rattle.nt_types.specs.TreeData as trees
use Rattle.nt_types.specs.TreeBytes.{HasBytes, AllHaveBytes}
use Rattle.nt_types.specs.Fits.{all_trees}
use Rattle.nt_column.specs.Elements.{Element, plain}
use Rattle.nt_plans.specs.Plan.{PlanData, PlansData, bool, number, text, list, maybe, record_of, choice, no_plans, plan, has, has_any}
use Rattle.nt_plans.specs.Plan.{Differ, AllDiffer}
use Rattle.nt_trees.specs.Sound.{how_many_plans, Rises, TagsUpTo, IndicesCount, Sound, AllSound, EachSound}
use Rattle.nt_trees.specs.TreeAt.{trees_from, picked, tree_at, each_at, one_at}
use Rattle.nt_trees.specs.Columns.{Cols, number_at, tag_at, begin_at, last_end, count_tag, add_to}
use Rattle.nt_trees.specs.Put.{how_many_trees, put_each, put_tree, put_trees, put_one}
use Rattle.nt_trees.specs.Fits.{fits_plan, fit_plans, fits_alternative}
use Rattle.nt_trees.proofs.Lists.{add_to-extends, longer, new_number, new_tag, new_last, old_end, rises-more, tags-more, indices-more}
use Rattle.nt_trees.proofs.Lists.{count_tag-same, count_tag-other}
use Rattle.nt_trees.proofs.Stable.{put_each-extends, put_tree-extends, put_trees-extends, trees_from-same, picked-same, tree_at-stays}
use Rattle.nt_trees.proofs.Stable.{one_at-stays}
use Rattle.nt_trees.proofs.Elsewhere.{add_to-elsewhere, add_to-here, put_each-elsewhere, put_tree-elsewhere, put_trees-elsewhere}
use Rattle.nt_trees.proofs.Elsewhere.{put_one-elsewhere, apart, other_side, Agree, sound-agrees, all_sound-agrees, each_sound-agrees}
use Rattle.nt_trees.proofs.Leaves.{IsAdded, flag_added, number_added, text_added}
use Rattle.nt_trees.proofs.Optionals.{maybe_added}

pub all_added : (p : PlanData) → ((t : TreeData) (cols : Cols) (n : ℕ) → Sound p cols n → fits_plan p t ≡ true → IsAdded p t cols n)
    → (ts : TreesData) (cols : Cols) (m : ℕ) → Sound p cols m
    → all_trees (fits_plan p) ts ≡ true → Sound p (put_each (put_tree p) ts cols) (m + how_many_trees ts)
    × (AllHaveBytes ts → trees_from (tree_at p (put_each (put_tree p) ts cols)) m (how_many_trees ts) ≡ ts)
all_added p each no_trees cols m s h = (subst (Sound p cols) (omega arith) s, λ b. refl)
all_added p each (tree t ts) cols m s h =
    let q = and_parts (fits_plan p t) (all_trees (fits_plan p) ts) h in
    let first = each t cols m s q.0 in
    let rest = all_added p each ts (put_tree p t cols) (suc m) first.0 q.1 in
    let whole : suc m + how_many_trees ts ≡ m + suc (how_many_trees ts) = omega arith in (
      subst (Sound p (put_each (put_tree p) ts (put_tree p t cols))) whole rest.0,
      λ b. ap₂ tree (tree_at-stays p (put_tree p t cols) (put_each (put_tree p) ts (put_tree p t cols)) (suc m) m
          (put_each-extends (put_tree p) (put_tree-extends p) ts (put_tree p t cols)) first.0 (omega arith) ∙ first.1 b.0) (rest.1 b.1),
    )

pub list_added : (e : ℕ) (p : PlanData) (ts : TreesData) (cols : Cols) (n : ℕ) → has p e ≡ false
    → ((t : TreeData) (cols : Cols) (n : ℕ) → Sound p cols n → fits_plan p t ≡ true → IsAdded p t cols n)
    → Sound (list e p) cols n → all_trees (fits_plan p) ts ≡ true → IsAdded (list e p) (items ts) cols n
list_added e p ts cols n fresh each s h =
    let m = last_end (cols e) in
    let k = how_many_trees ts in
    let mid = put_each (put_tree p) ts cols in
    let new = add_to e (plain (m + k) ∷ []) mid in
    let all = all_added p each ts cols m s.2 h in
    let is : new e ≡ cols e ++ plain (m + k) ∷ [] =
    add_to-here e (plain (m + k) ∷ []) mid ∙ ap (λ l. l ++ plain (m + k) ∷ [])
    (put_each-elsewhere (put_tree p) e (λ t cs. put_tree-elsewhere p t cs e fresh) ts cols) in
    let sound_mid : Sound p new (m + k) = sound-agrees p mid new (m + k)
    (λ j i. add_to-elsewhere e (plain (m + k) ∷ []) mid j (apart (has p) e j fresh i)) all.0 in
    let at_n : begin_at (new e) n ≡ m = ap (λ l. begin_at l n) is ∙ ap (begin_at (cols e ++ plain (m + k) ∷ [])) (sym s.0)
    ∙ old_end (cols e) (m + k) 0 in
    let at_end : begin_at (new e) (suc n) ≡ m + k = ap (λ l. begin_at l (suc n)) is
    ∙ ap (λ i. begin_at (cols e ++ plain (m + k) ∷ []) (suc i)) (sym s.0) ∙ new_number (cols e) (m + k) 0 in
    let span : (m + k) - m ≡ k = omega arith in (
      (
        ap length is ∙ longer (cols e) (m + k) 0 ∙ ap suc s.0,
        subst Rises (sym is) (rises-more (cols e) (m + k) 0 s.1 (omega arith)),
        subst (Sound p new) (sym (ap last_end is ∙ new_last (cols e) (m + k) 0)) sound_mid,
      ),
      λ b. (λ i. items (trees_from (tree_at p new) (at_n i) (at_end i - at_n i))) ∙ ap (λ l. items (trees_from (tree_at p new) m l)) span
          ∙ ap items (trees_from-same _ _ m k (λ x l u. tree_at-stays p mid new (m + k) x
          (add_to-extends e (plain (m + k) ∷ []) mid) all.0 u) ∙ all.1 b),
    )

-- ---- choices

tag_within : (ps : PlansData) (tag : ℕ) (t : TreeData) → fits_alternative ps tag t ≡ true → tag ≤ how_many_plans ps
tag_within no_plans tag t h = absurd (false≢true h)
tag_within (plan p ps) zero t h = omega arith
tag_within (plan p ps) (suc zero) t h = omega arith
tag_within (plan p ps) (suc (suc n)) t h = omega (arith, tag_within ps (suc n) t h)

is_pick : (ps : PlansData) (tag : ℕ) (t : TreeData) → fits_alternative ps tag t ≡ true → picked tag (λ u. t) ≡ pick tag t
is_pick no_plans tag t h = absurd (false≢true h)
is_pick (plan p ps) zero t h = absurd (false≢true h)
is_pick (plan p ps) (suc n) t h = refl

-- a new Switch is sound, where its alternatives are
module _ (k : ℕ) (ps : PlansData) (cols new : Cols) (n x tag : ℕ) where
  pub choice_sound : new k ≡ cols k ++ (x, tag) ∷ [] → Sound (choice k ps) cols n → tag ≤ how_many_plans ps
      → (0 < tag → x ≡ count_tag tag (cols k)) → EachSound 0 ps (new k) new → Sound (choice k ps) new (suc n)
  choice_sound is s low index each = (
    ap length is ∙ longer (cols k) x tag ∙ ap suc s.0,
    subst (TagsUpTo (how_many_plans ps)) (sym is) (tags-more (cols k) x tag (how_many_plans ps) s.1 low),
    subst IndicesCount (sym is) (indices-more (cols k) x tag s.2 index),
    each,
  )

  -- the tree at it is that of its tag and index
  pub choice_tree : new k ≡ cols k ++ (x, tag) ∷ [] → length (cols k) ≡ n → tree_at (choice k ps) new n
      ≡ picked tag (λ t. one_at ps t new x)
  choice_tree is long =
      ap (λ l. picked (tag_at l n) (λ t. one_at ps t new (number_at l n))) is
      ∙ ap (λ i. picked (tag_at (cols k ++ (x, tag) ∷ []) i) (λ t. one_at ps t new (number_at (cols k ++ (x, tag) ∷ []) i))) (sym long)
      ∙ (λ i. picked (new_tag (cols k) x tag i) (λ t. one_at ps t new (new_number (cols k) x tag i)))

nothing_added : (k : ℕ) (ps : PlansData) (cols : Cols) (n : ℕ) → has_any ps k ≡ false → Sound (choice k ps) cols n
    → IsAdded (choice k ps) nothing cols n
nothing_added k ps cols n fresh s =
    let new = add_to k ((0, 0) ∷ []) cols in
    let is : new k ≡ cols k ++ (0, 0) ∷ [] = add_to-here k ((0, 0) ∷ []) cols in
    let each = each_sound-agrees 0 ps (cols k) (new k) cols new (λ j i. add_to-elsewhere k ((0, 0) ∷ []) cols j
    (apart (has_any ps) k j fresh i)) (λ t h. ap (count_tag t) is ∙ count_tag-other (cols k) 0 0 t (λ e. omega arith)) s.3 in (
      choice_sound k ps cols new n 0 0 is s (omega arith) (λ some. absurd (omega (arith, some))) each,
      λ b. choice_tree k ps cols
          new n 0 0 is s.0,
    )

mutual
  pub added : (p : PlanData) (t : TreeData) (cols : Cols) (n : ℕ) → Differ p → Sound p cols n → fits_plan p t ≡ true → IsAdded p t cols n
  added (bool k) (flag b) cols n d s g = flag_added k b cols n s
  added (number k bits signed) (num z) cols n d s g = number_added k bits signed z cols n s g
  added (text e c) (trees.text t) cols n d s g = text_added e c t cols n d s
  added (list e p) (items ts) cols n d s g = list_added e p ts cols n d.0 (λ t cs m h i. added p t cs m d.1 h i) s g
  added (maybe e p) t cols n d s g = maybe_added e p t cols n d.0 (λ cs m h i. added p t cs m d.1 h i) s g
  added (record_of ps) (parts ts) cols n d s g = let r = each_added ps ts cols n d s g in (r.0, λ b. ap parts (r.1 b))
  added (choice k ps) nothing cols n d s g = nothing_added k ps cols n d.0 s
  added (choice k ps) (pick tag t) cols n d s g =
      let x = count_tag tag (cols k) in
      let mid = put_one ps tag t cols in
      let new = add_to k ((x, tag) ∷ []) mid in
      let is : new k ≡ cols k ++ (x, tag) ∷ [] = add_to-here k ((x, tag) ∷ []) mid
      ∙ ap (λ l. l ++ (x, tag) ∷ []) (put_one-elsewhere ps tag t cols k d.0) in
      let one = one_added ps 0 tag tag x (cols k) t cols d.1 (omega arith) s.3 g in
      let agrees : Agree (has_any ps) mid new = λ j i. add_to-elsewhere k ((x, tag) ∷ []) mid j (apart (has_any ps) k j d.0 i) in
      let stays = one_at-stays ps 0 tag tag (cols k ++ (x, tag) ∷ []) mid new x (omega arith) (add_to-extends k ((x, tag) ∷ []) mid)
      one.0 (omega (arith, count_tag-same (cols k) x tag tag refl)) in
      let each = each_sound-agrees 0 ps (cols k ++ (x, tag) ∷ []) (new k) mid new agrees (λ u h. ap (count_tag u) is) one.0 in (
        choice_sound k ps cols new n x tag is s (tag_within ps tag t g) (λ some. refl) each,
        λ b. choice_tree k ps cols new n x tag is s.0
            ∙ picked-same tag (λ u. one_at ps u new x) (λ u. t) (λ some. stays ∙ one.1 b)
            ∙ is_pick ps tag t g,
      )
  added _ _ cols n d s g = absurd (false≢true g)

  pub each_added : (ps : PlansData) (ts : TreesData) (cols : Cols) (n : ℕ) → AllDiffer ps → AllSound ps cols n
      → fit_plans ps ts ≡ true → AllSound ps (put_trees ps ts cols) (suc n) × (AllHaveBytes ts → each_at ps (put_trees ps ts cols) n ≡ ts)
  each_added no_plans no_trees cols n d s h = (tt, λ b. refl)
  each_added no_plans (tree t ts) cols n d s h = absurd (false≢true h)
  each_added (plan p ps) no_trees cols n d s h = absurd (false≢true h)
  each_added (plan p ps) (tree t ts) cols n d s h =
      let q = and_parts (fits_plan p t) (fit_plans ps ts) h in
      let mid = put_tree p t cols in
      let new = put_trees ps ts mid in
      let first = added p t cols n d.0 s.0 q.0 in
      let rest = each_added ps ts mid n d.1 (all_sound-agrees ps cols mid n
      (λ j i. put_tree-elsewhere p t cols j (other_side (has p j) (has_any ps j) (d.2 j) i)) s.1) q.1 in (
        (sound-agrees p mid new (suc n) (λ j i. put_trees-elsewhere ps ts mid j (d.2 j i)) first.0, rest.0),
        λ b. ap₂ tree (tree_at-stays p mid new (suc n) n (put_trees-extends ps ts mid) first.0 (omega arith) ∙ first.1 b.0) (rest.1 b.1),
      )

  -- tags are counted behind those before
  pub one_added : (ps : PlansData) (before tag whole x : ℕ) (es : List Element) (t : TreeData) (cols : Cols) → AllDiffer ps
      → whole ≡ before + tag → EachSound before ps es cols → fits_alternative ps tag t ≡ true
      → EachSound before ps (es ++ (x, whole) ∷ []) (put_one ps tag t cols)
      × (HasBytes t → one_at ps tag (put_one ps tag t cols) (count_tag whole es) ≡ t)
  one_added no_plans before tag whole x es t cols d is s h = absurd (false≢true h)
  one_added (plan p ps) before zero whole x es t cols d is s h = absurd (false≢true h)
  one_added (plan p ps) before (suc zero) whole x es t cols d is s h =
      let same : whole ≡ suc before = omega arith in
      let first = added p t cols (count_tag (suc before) es) d.0 s.0 h in (
        (
          subst (Sound p (put_tree p t cols)) (sym (count_tag-same es x whole (suc before) same)) first.0,
          each_sound-agrees (suc before) ps es _ cols (put_tree p t cols)
              (λ j i. put_tree-elsewhere p t cols j (other_side (has p j) (has_any ps j) (d.2 j) i))
              (λ u l. count_tag-other es x whole u (λ e. omega arith)) s.1,
        ),
        λ b. ap (λ u. tree_at p (put_tree p t cols) (count_tag u es)) same ∙ first.1 b,
      )
  one_added (plan p ps) before (suc (suc n)) whole x es t cols d is s h =
      let mid = put_one ps (suc n) t cols in
      let rest = one_added ps (suc before) (suc n) whole x es t cols d.1 (omega arith) s.1 h in (
        (
          subst (Sound p mid) (sym (count_tag-other es x whole (suc before) (λ e. omega arith)))
              (sound-agrees p cols mid _ (λ j i. put_one-elsewhere ps (suc n) t cols j (d.2 j i)) s.0),
          rest.0,
        ),
        rest.1,
      )
