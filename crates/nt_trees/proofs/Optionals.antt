-- What a tree adds to an optional is one end more: that of before for nothing, else the next one behind its value.
use Rattle.std.proofs.Common.{Bool, cond, ◌||◌, ◌≡◌, ℕ, suc, ◌+◌, ◌-◌, ◌≤◌, [], ◌∷◌, ◌++◌, length, true, false, refl, sym, ap, ◌∙◌, arith}
use Rattle.std.proofs.Common.{subst}
use Rattle.std.proofs.lemmas.Bool.{false≢true}
use Rattle.nt_types.specs.TreeData.{is_nothing, TreeData, nothing}
use Rattle.nt_types.specs.TreeBytes.{HasBytes}
use Rattle.nt_column.specs.Elements.{plain}
use Rattle.nt_plans.specs.Plan.{PlanData, maybe, has}
use Rattle.nt_trees.specs.Sound.{FewSteps, Rises, Sound}
use Rattle.nt_trees.specs.TreeAt.{only, trees_from, tree_at}
use Rattle.nt_trees.specs.Columns.{Cols, begin_at, last_end, add_to}
use Rattle.nt_trees.specs.Put.{put_tree}
use Rattle.nt_trees.specs.Fits.{fits_plan}
use Rattle.nt_trees.proofs.Lists.{steps-more, add_to-extends, longer, new_number, new_last, old_end, rises-more}
use Rattle.nt_trees.proofs.Stable.{tree_at-stays}
use Rattle.nt_trees.proofs.Elsewhere.{add_to-elsewhere, add_to-here, put_tree-elsewhere, apart, sound-agrees}
use Rattle.nt_trees.proofs.Leaves.{IsAdded}

is_nothing-is : (t : TreeData) → is_nothing t ≡ true → t ≡ nothing
is_nothing-is nothing h = refl
is_nothing-is _ h = absurd (false≢true h)

-- the columns of an optional that has an end more
module _ (e : ℕ) (p : PlanData) (cols mid : Cols) (n m : ℕ) (fresh : has p e ≡ false) (s : Sound (maybe e p) cols n)
    (kept : mid e ≡ cols e) (low : last_end (cols e) ≤ m) (few : m ≤ last_end (cols e) + 1) (inner : Sound p mid m) where
  abbrev grown : Cols
  grown = add_to e (plain m ∷ []) mid

  grown-is : grown e ≡ cols e ++ plain m ∷ []
  grown-is = add_to-here e (plain m ∷ []) mid ∙ ap (λ l. l ++ plain m ∷ []) kept

  begins-at : begin_at (grown e) n ≡ last_end (cols e)
  begins-at =
      ap (λ l. begin_at l n) grown-is ∙ ap (begin_at (cols e ++ plain m ∷ [])) (sym s.0) ∙ old_end (cols e) m 0

  ends-at : begin_at (grown e) (suc n) ≡ m
  ends-at =
      ap (λ l. begin_at l (suc n)) grown-is
      ∙ ap (λ i. begin_at (cols e ++ plain m ∷ []) (suc i)) (sym s.0) ∙ new_number (cols e) m 0

  maybe_sound : Sound (maybe e p) grown (suc n)
  maybe_sound = (
    ap length grown-is ∙ longer (cols e) m 0 ∙ ap suc s.0,
    subst Rises (sym grown-is) (rises-more (cols e) m 0 s.1 low),
    subst FewSteps (sym grown-is) (steps-more (cols e) m 0 s.2 few),
    subst (Sound p grown) (sym (ap last_end grown-is ∙ new_last (cols e) m 0))
        (sound-agrees p mid grown m (λ j i. add_to-elsewhere e (plain m ∷ []) mid j (apart (has p) e j fresh i)) inner),
  )

  maybe_tree : tree_at (maybe e p) grown n ≡ only (trees_from (tree_at p grown) (last_end (cols e)) (m - last_end (cols e)))
  maybe_tree = λ i. only (trees_from (tree_at p grown) (begins-at i) (ends-at i - begins-at i))

pub maybe_added : (e : ℕ) (p : PlanData) (t : TreeData) (cols : Cols) (n : ℕ) → has p e ≡ false
    → ((cols : Cols) (n : ℕ) → Sound p cols n → fits_plan p t ≡ true → IsAdded p t cols n)
    → Sound (maybe e p) cols n → fits_plan (maybe e p) t ≡ true → IsAdded (maybe e p) t cols n
maybe_added e p t cols n fresh each s g = by (is_nothing t) refl g
  where
    m : ℕ
    m = last_end (cols e)

    by : (b : Bool) → is_nothing t ≡ b → (b || fits_plan p t) ≡ true
        → Sound (maybe e p) (cond b (add_to e (plain m ∷ []) cols) (add_to e (plain (m + 1) ∷ []) (put_tree p t cols))) (suc n)
        × (HasBytes t → tree_at (maybe e p)
        (cond b (add_to e (plain m ∷ []) cols) (add_to e (plain (m + 1) ∷ []) (put_tree p t cols))) n ≡ t)
    by true is h =
        let none : last_end (cols e) - last_end (cols e) ≡ 0 = omega arith in (
          maybe_sound e p cols cols n (last_end (cols e)) fresh s refl (omega arith) (omega arith) s.3,
          λ b. maybe_tree e p cols cols n (last_end (cols e)) fresh s refl (omega arith) (omega arith) s.3
              ∙ (ap (λ (k : ℕ). only (trees_from (tree_at p (add_to e (plain (last_end (cols e)) ∷ []) cols)) (last_end (cols e)) k)) none
              ∙ sym (is_nothing-is t is)),
        )
    by false is h =
        let first = each cols (last_end (cols e)) s.3 h in
        let mid = put_tree p t cols in
        let whole : suc (last_end (cols e)) ≡ last_end (cols e) + 1 = omega arith in
        let inner : Sound p (put_tree p t cols) (last_end (cols e) + 1) = subst (Sound p (put_tree p t cols)) whole first.0 in
        let kept = put_tree-elsewhere p t cols e fresh in
        let one : (last_end (cols e) + 1) - last_end (cols e) ≡ 1 = omega arith in (
          maybe_sound e p cols mid n (last_end (cols e) + 1) fresh s kept (omega arith) (omega arith) inner,
          λ b. maybe_tree e p cols mid n (last_end (cols e) + 1) fresh s kept (omega arith) (omega arith) inner
              ∙ (ap (λ (k : ℕ). only (trees_from (tree_at p (add_to e (plain (last_end (cols e) + 1) ∷ []) (put_tree p t cols)))
              (last_end (cols e)) k)) one
              ∙ (tree_at-stays p mid (add_to e (plain (last_end (cols e) + 1) ∷ []) mid) (last_end (cols e) + 1) (last_end (cols e))
              (add_to-extends e (plain (last_end (cols e) + 1) ∷ []) mid) inner (omega arith) ∙ first.1 b)),
        )
