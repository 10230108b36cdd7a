-- Values that were added one after the other.
use Rattle.std.proofs.Common.{◌≡◌, ℕ, suc, ◌-◌, ◌≤◌, Bool, true, false, List, [], ◌∷◌, ◌++◌, length}
use Rattle.std.proofs.Common.{refl, sym, ◌∙◌, ap, arith, subst}
use Rattle.nt_types.specs.TreeData.{TreeData, TreesData, no_trees, tree, trees_of}
use Rattle.nt_types.specs.Fits.{all_trees}
use Rattle.nt_event.specs.Entry.{trees_then}
use Rattle.nt_event.specs.Json.{AllInRange}
use Rattle.nt_event.specs.Standing.{StandsFrom, MayStand}
use Rattle.nt_event.proofs.Texts.{OpenStands, are_some, open-next, open-end, may-past}
use Rattle.nt_column.specs.Column.{Buffer}
use Rattle.nt_plans.specs.Plan.{PlanData, PlansData, no_plans, plan, has, has_any}
use Rattle.nt_trees.specs.Sound.{Sound, AllSound}
use Rattle.nt_trees.specs.Put.{put_each, put_tree, put_trees}
use Rattle.nt_trees.specs.Fits.{fits_plan, fit_plans}
use Rattle.nt_trees.specs.Views.{cols_of}
use Rattle.nt_trees.proofs.Lists.{Extends}
use Rattle.nt_trees.proofs.Stable.{put_each-extends, put_tree-extends, put_trees-extends}
use Rattle.nt_trees.proofs.Elsewhere.{put_tree-elsewhere, all_sound-agrees, other_side}
use Rattle.nt_trees.proofs.Added.{added}
use Rattle.nt_shred.specs.Frame.{set_frame, Takes, AllTake, capacity_at}
use Rattle.nt_shred.specs.Places.{AddsUpTo, Grew}
use Rattle.nt_shred.specs.Walk.{CanPut, CanPutEach, Puts, PutsAll, PutsEach}
use Rattle.nt_shred.proofs.LineGrowth.{grew-not, grew-then, grew-by, room-later, few-then}

-- ---- trees and more of them

then-more : (vs : List TreeData) (w : TreeData) (more : TreesData) → trees_then (vs ++ w ∷ []) more ≡ trees_then vs (tree w more)
then-more [] w more = refl
then-more (v ∷ vs) w more = ap (tree v) (then-more vs w more)

then-none : (vs : List TreeData) → trees_then vs no_trees ≡ trees_of vs
then-none [] = refl
then-none (v ∷ vs) = ap (tree v) (then-none vs)

some-more : (vs : List TreeData) (w : TreeData) → are_some (vs ++ w ∷ []) ≡ true
some-more [] w = refl
some-more (v ∷ vs) w = refl

pub puts-grew : (p : PlanData) (line : List ℕ) (at end : ℕ) (old new : List Buffer) → Puts p line at end old new → Grew old new
puts-grew p line at end old new h = grew-by (put_tree p h.found) old new h.gains (put_tree-extends p h.found (cols_of old))

pub all-grew : (p : PlanData) (line : List ℕ) (at end : ℕ) (old new : List Buffer) → PutsAll p line at end old new → Grew old new
all-grew p line at end old new h = grew-by (put_each (put_tree p) (trees_of h.found)) old new h.gains
    (put_each-extends (put_tree p) (put_tree-extends p) (trees_of h.found) (cols_of old))

pub each-grew : (ps : PlansData) (line : List ℕ) (at end : ℕ) (old new : List Buffer) → PutsEach ps line at end old new → Grew old new
each-grew ps line at end old new h = grew-by (put_trees ps (trees_of h.found)) old new h.gains
    (put_trees-extends ps (trees_of h.found) (cols_of old))

-- ---- the items of a list so far

-- the items up to a place are added, some or none
pub record SoFarAll (p : PlanData) (some : Bool) (line : List ℕ) (at i : ℕ) (start now : List Buffer) : Type 0 where
  pub found : List TreeData
  pub are : are_some found ≡ some
  pub stands : OpenStands found line at i
  pub within : i ≤ length line
  pub past : at ≤ i
  pub range : (more : TreesData) → AllInRange more → AllInRange (trees_then found more)
  pub fitting : (more : TreesData) → all_trees (fits_plan p) more ≡ true → all_trees (fits_plan p) (trees_then found more) ≡ true
  pub put : (more : TreesData) → put_each (put_tree p) more (cols_of now) ≡ put_each (put_tree p) (trees_then found more) (cols_of start)
  pub frame : set_frame now ≡ set_frame start
  pub room : (k : ℕ) → capacity_at start k ≤ capacity_at now k
  pub few : AddsUpTo (i - at) start now
  pub can : CanPut p (length line - i) now

pub all-none : (p : PlanData) (line : List ℕ) (at : ℕ) (bs : List Buffer) → at ≤ length line → CanPut p (length line - at) bs
    → SoFarAll p false line at at bs bs
all-none p line at bs within can = record {
  found = [];
  are = refl;
  stands = refl;
  within = within;
  past = omega arith;
  range = λ more h. h;
  fitting = λ more h. h;
  put = λ more. refl;
  frame = refl;
  room = λ k. omega arith;
  few = λ k. omega arith;
  can = can;
}

-- a place further on
pub can-later : (p : PlanData) (line : List ℕ) (i next : ℕ) (bs : List Buffer) → i ≤ next → CanPut p (length line - i) bs
    → CanPut p (length line - next) bs
can-later p line i next bs le can = record {
  size = can.size;
  sound = can.sound;
  differ = can.differ;
  takes = can.takes;
  room = room-later bs bs (length line - i) 0 (length line - next) refl (λ k. omega arith) (λ k. omega arith) (omega (arith, le)) can.room;
}

can-again : (p : PlanData) (line : List ℕ) (next end : ℕ) (now new : List Buffer) → CanPut p (length line - next) now
    → Puts p line next end now new → CanPut p (length line - end) new
can-again p line next end now new can h = record {
  size = suc can.size;
  sound = subst (λ c. Sound p c (suc can.size)) (sym h.gains.columns)
      (added p h.found (cols_of now) can.size can.differ can.sound h.fitting).0;
  differ = can.differ;
  takes = subst (Takes p) (sym h.gains.frame) can.takes;
  room = room-later now new (length line - next) (end - next) (length line - end) h.gains.frame h.gains.room h.few
      (omega (arith, h.stands.within, h.stands.some)) can.room;
}

pub all-more : (p : PlanData) (b : Bool) (line : List ℕ) (at i next end : ℕ) (start now new : List Buffer)
    → SoFarAll p b line at i start now → MayStand b line i next → Puts p line next end now new → SoFarAll p true line at end start new
all-more p b line at i next end start now new s comma h =
    let stands : MayStand (are_some s.found) line i next = subst (λ c. MayStand c line i next) (sym s.are) comma in
    let past = may-past b line i next comma in
    record {
      found = s.found ++ h.found ∷ [];
      are = some-more s.found h.found;
      stands = open-next line at i next end s.found h.found s.stands stands h.stands;
      within = h.stands.within;
      past = omega (arith, s.past, past, h.stands.some);
      range = λ more m. subst AllInRange (sym (then-more s.found h.found more)) (s.range (tree h.found more) (h.range, m));
      fitting = λ more m. subst (λ ts. all_trees (fits_plan p) ts ≡ true) (sym (then-more s.found h.found more))
          (s.fitting (tree h.found more) (rw (h.fitting, m) refl));
      put = λ more. ap (put_each (put_tree p) more) h.gains.columns ∙ s.put (tree h.found more)
          ∙ ap (λ ts. put_each (put_tree p) ts (cols_of start)) (sym (then-more s.found h.found more));
      frame = h.gains.frame ∙ s.frame;
      room = λ k. omega (arith, s.room k, h.gains.room k);
      few = few-then (i - at) (end - next) (end - at) start now new s.few h.few (omega (arith, past, s.past, h.stands.some));
      can = can-again p line next end now new (can-later p line i next now past s.can) h;
    }

-- up to the closing bracket
pub all-done : (p : PlanData) (b : Bool) (line : List ℕ) (at i end : ℕ) (start now : List Buffer) → SoFarAll p b line at i start now
    → StandsFrom (93 ∷ []) line i end → PutsAll p line at end start now
all-done p b line at i end start now s close = record {
  found = s.found;
  stands = open-end line at i end s.found s.past s.stands close;
  range = subst AllInRange (then-none s.found) (s.range no_trees tt);
  fitting = subst (λ ts. all_trees (fits_plan p) ts ≡ true) (then-none s.found) (s.fitting no_trees refl);
  gains = record {
    columns = s.put no_trees ∙ ap (λ ts. put_each (put_tree p) ts (cols_of start)) (then-none s.found);
    frame = s.frame;
    room = s.room;
  };
  few = λ k. omega (arith, s.few k, close.some);
}

pub so_far-grew : (p : PlanData) (b : Bool) (line : List ℕ) (at i : ℕ) (start now : List Buffer) → SoFarAll p b line at i start now
    → Grew start now
so_far-grew p b line at i start now s = record {
  columns = subst (Extends (cols_of start)) (sym (s.put no_trees))
      (put_each-extends (put_tree p) (put_tree-extends p) (trees_then s.found no_trees) (cols_of start));
  frame = s.frame;
}

-- ---- a value of each plan so far

-- values of the first plans are added, and those of the rest can be
pub record SoFarEach (ps rest : PlansData) (some : Bool) (line : List ℕ) (at i : ℕ) (start now : List Buffer) : Type 0 where
  pub found : List TreeData
  pub are : are_some found ≡ some
  pub stands : OpenStands found line at i
  pub within : i ≤ length line
  pub past : at ≤ i
  pub range : (more : TreesData) → AllInRange more → AllInRange (trees_then found more)
  pub fitting : (more : TreesData) → fit_plans rest more ≡ true → fit_plans ps (trees_then found more) ≡ true
  pub put : (more : TreesData) → put_trees rest more (cols_of now) ≡ put_trees ps (trees_then found more) (cols_of start)
  pub extends : Extends (cols_of start) (cols_of now)
  pub frame : set_frame now ≡ set_frame start
  pub room : (k : ℕ) → capacity_at start k ≤ capacity_at now k
  pub few : AddsUpTo (i - at) start now
  pub can : CanPutEach rest (length line - i) now

pub each-none : (ps : PlansData) (line : List ℕ) (at : ℕ) (bs : List Buffer) → at ≤ length line → CanPutEach ps (length line - at) bs
    → SoFarEach ps ps false line at at bs bs
each-none ps line at bs within can = record {
  found = [];
  are = refl;
  stands = refl;
  within = within;
  past = omega arith;
  range = λ more h. h;
  fitting = λ more h. h;
  put = λ more. refl;
  extends = (grew-not bs).columns;
  frame = refl;
  room = λ k. omega arith;
  few = λ k. omega arith;
  can = can;
}

-- the first plan of the rest
pub can-first : (p : PlanData) (qs : PlansData) (line : List ℕ) (i next : ℕ) (bs : List Buffer) → i ≤ next
    → CanPutEach (plan p qs) (length line - i) bs → CanPut p (length line - next) bs
can-first p qs line i next bs le can = can-later p line i next bs le
    (record { size = can.size; sound = can.sound.0; differ = can.differ.0; takes = can.takes.0; room = can.room })

can-rest : (p : PlanData) (qs : PlansData) (line : List ℕ) (i next end : ℕ) (now new : List Buffer) → i ≤ next
    → CanPutEach (plan p qs) (length line - i) now → Puts p line next end now new → CanPutEach qs (length line - end) new
can-rest p qs line i next end now new le can h = record {
  size = can.size;
  sound = subst (λ c. AllSound qs c can.size) (sym h.gains.columns)
      (all_sound-agrees qs (cols_of now) (put_tree p h.found (cols_of now)) can.size
      (λ j x. put_tree-elsewhere p h.found (cols_of now) j (other_side (has p j) (has_any qs j) (can.differ.2 j) x)) can.sound.1);
  differ = can.differ.1;
  takes = subst (AllTake qs) (sym h.gains.frame) can.takes.1;
  room = room-later now new (length line - i) (end - next) (length line - end) h.gains.frame h.gains.room h.few
      (omega (arith, le, h.stands.within, h.stands.some)) can.room;
}

pub each-more : (ps : PlansData) (p : PlanData) (qs : PlansData) (b : Bool) (line : List ℕ) (at i next end : ℕ)
    (start now new : List Buffer) → SoFarEach ps (plan p qs) b line at i start now → MayStand b line i next
    → Puts p line next end now new → SoFarEach ps qs true line at end start new
each-more ps p qs b line at i next end start now new s comma h =
    let stands : MayStand (are_some s.found) line i next = subst (λ c. MayStand c line i next) (sym s.are) comma in
    let past = may-past b line i next comma in
    let grown = grew-then start now new (record { columns = s.extends; frame = s.frame }) (puts-grew p line next end now new h) in
    record {
      found = s.found ++ h.found ∷ [];
      are = some-more s.found h.found;
      stands = open-next line at i next end s.found h.found s.stands stands h.stands;
      within = h.stands.within;
      past = omega (arith, s.past, past, h.stands.some);
      range = λ more m. subst AllInRange (sym (then-more s.found h.found more)) (s.range (tree h.found more) (h.range, m));
      fitting = λ more m. subst (λ ts. fit_plans ps ts ≡ true) (sym (then-more s.found h.found more))
          (s.fitting (tree h.found more) (rw (h.fitting, m) refl));
      put = λ more. ap (put_trees qs more) h.gains.columns ∙ s.put (tree h.found more)
          ∙ ap (λ ts. put_trees ps ts (cols_of start)) (sym (then-more s.found h.found more));
      extends = grown.columns;
      frame = h.gains.frame ∙ s.frame;
      room = λ k. omega (arith, s.room k, h.gains.room k);
      few = few-then (i - at) (end - next) (end - at) start now new s.few h.few (omega (arith, past, s.past, h.stands.some));
      can = can-rest p qs line i next end now new past s.can h;
    }

-- up to the closing bracket
pub each-done : (ps : PlansData) (b : Bool) (line : List ℕ) (at i end : ℕ) (start now : List Buffer)
    → SoFarEach ps no_plans b line at i start now → StandsFrom (93 ∷ []) line i end → PutsEach ps line at end start now
each-done ps b line at i end start now s close = record {
  found = s.found;
  stands = open-end line at i end s.found s.past s.stands close;
  range = subst AllInRange (then-none s.found) (s.range no_trees tt);
  fitting = subst (λ ts. fit_plans ps ts ≡ true) (then-none s.found) (s.fitting no_trees refl);
  gains = record {
    columns = s.put no_trees ∙ ap (λ ts. put_trees ps ts (cols_of start)) (then-none s.found);
    frame = s.frame;
    room = s.room;
  };
  few = λ k. omega (arith, s.few k, close.some);
}
