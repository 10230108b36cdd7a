-- The alternative of a tag, and its tree that is added.
use Rattle.std.proofs.Common.{◌≡◌, ℕ, zero, suc, ◌+◌, ◌-◌, ◌<◌, ◌≤◌, true, List, [], ◌∷◌, length, get_or, sym, ◌∙◌, ap, ap₂, subst, arith}
use Rattle.std.proofs.lemmas.Bool.{false≢true}
use Rattle.nt_types.specs.TreeData.{TreeData, pick}
use Rattle.nt_column.specs.Column.{Buffer}
use Rattle.nt_column.specs.Elements.{Element}
use Rattle.nt_plans.specs.Plan.{PlanData, PlansData, choice, no_plans, plan, Differ, AllDiffer}
use Rattle.nt_plans.specs.declared.plan.Plan.{Plan}
use Rattle.nt_plans.specs.PlanViews.{plan_view}
use Rattle.nt_trees.specs.Columns.{Cols, count_tag, add_to}
use Rattle.nt_trees.specs.Sound.{Sound, EachSound}
use Rattle.nt_trees.specs.Put.{put_tree, put_one}
use Rattle.nt_trees.specs.Fits.{fits_plan, fits_alternative}
use Rattle.nt_trees.specs.Views.{cols_of, plans_in}
use Rattle.nt_trees.proofs.Lists.{add_to-extends}
use Rattle.nt_shred.specs.Frame.{Frame, set_frame, Takes, AllTake, FitsIn}
use Rattle.nt_shred.specs.Steps.{Ready, GainsInRoom}
use Rattle.nt_shred.proofs.Sets.{less-room}
use Rattle.nt_shred.proofs.Arms.{rest-room}

-- the alternative of a tag, from 1
abbrev pub IsNth : PlansData → ℕ → PlanData → Type 0
IsNth no_plans t p = ⊥
IsNth (plan q qs) zero p = ⊥
IsNth (plan q qs) (suc zero) p = q ≡ p
IsNth (plan q qs) (suc (suc n)) p = IsNth qs (suc n) p

pub nth-fits : (ps : PlansData) (tag : ℕ) (p : PlanData) (t : TreeData) → IsNth ps tag p → fits_alternative ps tag t ≡ true
    → fits_plan p t ≡ true
nth-fits no_plans tag p t n h = absurd n
nth-fits (plan q qs) zero p t n h = absurd n
nth-fits (plan q qs) (suc zero) p t n h = subst (λ x. fits_plan x t ≡ true) n h
nth-fits (plan q qs) (suc (suc tag)) p t n h = nth-fits qs (suc tag) p t n h

pub nth-differ : (ps : PlansData) (tag : ℕ) (p : PlanData) → IsNth ps tag p → AllDiffer ps → Differ p
nth-differ no_plans tag p n h = absurd n
nth-differ (plan q qs) zero p n h = absurd n
nth-differ (plan q qs) (suc zero) p n h = subst Differ n h.0
nth-differ (plan q qs) (suc (suc tag)) p n h = nth-differ qs (suc tag) p n h.1

pub nth-takes : (ps : PlansData) (tag : ℕ) (p : PlanData) (fr : Frame) → IsNth ps tag p → AllTake ps fr → Takes p fr
nth-takes no_plans tag p fr n h = absurd n
nth-takes (plan q qs) zero p fr n h = absurd n
nth-takes (plan q qs) (suc zero) p fr n h = subst (λ x. Takes x fr) n h.0
nth-takes (plan q qs) (suc (suc tag)) p fr n h = nth-takes qs (suc tag) p fr n h.1

pub nth-put : (ps : PlansData) (tag : ℕ) (p : PlanData) (t : TreeData) (cols : Cols) → IsNth ps tag p
    → put_one ps tag t cols ≡ put_tree p t cols
nth-put no_plans tag p t cols n = absurd n
nth-put (plan q qs) zero p t cols n = absurd n
nth-put (plan q qs) (suc zero) p t cols n = ap (λ x. put_tree x t cols) n
nth-put (plan q qs) (suc (suc tag)) p t cols n = nth-put qs (suc tag) p t cols n

pub nth-sound : (ps : PlansData) (before tag whole : ℕ) (p : PlanData) (es : List Element) (cols : Cols) → whole ≡ before + tag
    → IsNth ps tag p → EachSound before ps es cols → Sound p cols (count_tag whole es)
nth-sound no_plans before tag whole p es cols is n h = absurd n
nth-sound (plan q qs) before zero whole p es cols is n h = absurd n
nth-sound (plan q qs) before (suc zero) whole p es cols is n h =
    let same : suc before ≡ whole = omega arith in
    subst (λ w. Sound p cols (count_tag w es)) same (subst (λ x. Sound x cols (count_tag (suc before) es)) n h.0)
nth-sound (plan q qs) before (suc (suc tag)) whole p es cols is n h =
    nth-sound qs (suc before) (suc tag) whole p es cols (omega arith) n h.1

pub pick-some : (ps : PlansData) (tag : ℕ) (t : TreeData) → fits_alternative ps tag t ≡ true → 0 < tag
pick-some no_plans tag t h = absurd (false≢true h)
pick-some (plan q qs) zero t h = absurd (false≢true h)
pick-some (plan q qs) (suc tag) t h = omega arith

pub pick-among : (l : List Plan) (tag : ℕ) (t : TreeData) → fits_alternative (plans_in l) tag t ≡ true → tag ≤ length l
pick-among [] tag t h = absurd (false≢true h)
pick-among (x ∷ l) zero t h = omega arith
pick-among (x ∷ l) (suc zero) t h = omega arith
pick-among (x ∷ l) (suc (suc tag)) t h = omega (arith, pick-among l (suc tag) t h)

pub nth-read : (l : List Plan) (i : ℕ) (x : Plan) → i < length l → x ≡ get_or l i x → IsNth (plans_in l) (suc i) (plan_view x)
nth-read [] i x h is = absurd (omega arith)
nth-read (y ∷ l) zero x h is = ap plan_view (sym is)
nth-read (y ∷ l) (suc i) x h is = nth-read l i x (omega arith) is

-- the alternative that is read at a tag
pub nth-at : (l : List Plan) (tag : ℕ) (x : Plan) (t : TreeData) → fits_alternative (plans_in l) tag t ≡ true
    → x ≡ get_or l (tag - 1) x → IsNth (plans_in l) tag (plan_view x)
nth-at l tag x t h is =
    let some = pick-some (plans_in l) tag t h in
    let among = pick-among l tag t h in
    let same : suc (tag - 1) ≡ tag = omega arith in
    subst (λ n. IsNth (plans_in l) n (plan_view x)) same (nth-read l (tag - 1) x (omega arith) is)

module _ (s : ℕ) (ps : PlansData) (tag : ℕ) (p : PlanData) (t : TreeData) (n : IsNth ps tag p) where
  pub pick-ready : (bs : List Buffer) → Ready (choice s ps) (pick tag t) bs → Ready p t bs
  pick-ready bs r = record {
    size = count_tag tag (cols_of bs s);
    sound = nth-sound ps 0 tag tag p (cols_of bs s) (cols_of bs) (omega arith) n r.sound.3;
    differ = nth-differ ps tag p n r.differ.1;
    fitting = nth-fits ps tag p t n r.fitting;
    takes = nth-takes ps tag p (set_frame bs) n r.takes.1;
    room = subst (FitsIn bs) (nth-put ps tag p t (cols_of bs) n)
        (less-room bs _ _ (add_to-extends s ((count_tag tag (cols_of bs s), tag) ∷ []) (put_one ps tag t (cols_of bs))) r.room);
  }

  module _ (old now : List Buffer) (g : GainsInRoom (put_tree p t) old now) (x : ℕ) (is : x ≡ count_tag tag (cols_of old s)) where
    pub pick-whole : add_to s ((x, tag) ∷ []) (cols_of now) ≡ put_tree (choice s ps) (pick tag t) (cols_of old)
    pick-whole = ap₂ (λ (m : ℕ) (c : Cols). add_to s ((m, tag) ∷ []) c) is (g.columns ∙ sym (nth-put ps tag p t (cols_of old) n))

    pub pick-room : Ready (choice s ps) (pick tag t) old → FitsIn now (add_to s ((x, tag) ∷ []) (cols_of now))
    pick-room r = rest-room (put_tree p t) (add_to s ((x, tag) ∷ [])) old now _ g pick-whole r.room

    pub pick-done : (new : List Buffer) → GainsInRoom (add_to s ((x, tag) ∷ [])) now new
        → GainsInRoom (put_tree (choice s ps) (pick tag t)) old new
    pick-done new h = record {
      columns = h.columns ∙ pick-whole;
      frame = h.frame ∙ g.frame;
      room = λ k. omega (arith, g.room k, h.room k);
    }
