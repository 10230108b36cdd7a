-- Trees that are added one after the other.
use Rattle.std.proofs.Common.{◌≡◌, ℕ, suc, ◌≤◌, List, [], ◌∷◌, length, refl, sym, ◌∙◌, ap, subst, arith}
use Rattle.std.proofs.lemmas.Bool.{and_parts, false≢true}
use Rattle.nt_types.specs.TreeData.{TreeData, TreesData, no_trees, tree}
use Rattle.nt_types.specs.Fits.{all_trees}
use Rattle.nt_types.specs.declared.tree.Tree.{Tree}
use Rattle.nt_column.specs.Column.{Buffer}
use Rattle.nt_plans.specs.Plan.{PlanData, PlansData, no_plans, plan, has, has_any}
use Rattle.nt_trees.specs.Sound.{Sound, AllSound}
use Rattle.nt_trees.specs.Put.{put_each, put_tree, put_trees}
use Rattle.nt_trees.specs.Fits.{fits_plan, fit_plans}
use Rattle.nt_trees.specs.Views.{cols_of, trees_in}
use Rattle.nt_trees.proofs.Stable.{put_each-extends, put_tree-extends, put_trees-extends}
use Rattle.nt_trees.proofs.Elsewhere.{put_tree-elsewhere, all_sound-agrees, other_side}
use Rattle.nt_trees.proofs.Added.{added}
use Rattle.nt_shred.specs.Frame.{set_frame, Takes, AllTake, capacity_at, FitsIn}
use Rattle.nt_shred.specs.Steps.{Ready, ReadyAll, ReadyEach, GainsInRoom}
use Rattle.nt_shred.proofs.Sets.{less-room, later-room}

-- what is left of trees of one plan
pub record LeftAll (p : PlanData) (all rest : TreesData) (start now : List Buffer) : Type 0 where
  pub ready : ReadyAll p rest now
  pub columns : put_each (put_tree p) rest (cols_of now) ≡ put_each (put_tree p) all (cols_of start)
  pub frame : set_frame now ≡ set_frame start
  pub room : (k : ℕ) → capacity_at start k ≤ capacity_at now k

-- what is left of trees of plans
pub record LeftEach (ps : PlansData) (all : TreesData) (qs : PlansData) (rest : TreesData) (start now : List Buffer) : Type 0 where
  pub ready : ReadyEach qs rest now
  pub columns : put_trees qs rest (cols_of now) ≡ put_trees ps all (cols_of start)
  pub frame : set_frame now ≡ set_frame start
  pub room : (k : ℕ) → capacity_at start k ≤ capacity_at now k

pub all-begins : (p : PlanData) (ts : TreesData) (bs : List Buffer) → ReadyAll p ts bs → LeftAll p ts ts bs bs
all-begins p ts bs r = record { ready = r; columns = refl; frame = refl; room = λ k. omega arith }

pub all-first : (p : PlanData) (all rest : TreesData) (t : TreeData) (start now : List Buffer)
    → LeftAll p all (tree t rest) start now → Ready p t now
all-first p all rest t start now l =
    let r = l.ready in
    let q = and_parts (fits_plan p t) (all_trees (fits_plan p) rest) r.fitting in
    record {
      size = r.size;
      sound = r.sound;
      differ = r.differ;
      fitting = q.0;
      takes = r.takes;
      room = less-room now (put_tree p t (cols_of now)) _ (put_each-extends (put_tree p) (put_tree-extends p) rest
          (put_tree p t (cols_of now))) r.room;
    }

pub all-next : (p : PlanData) (all rest : TreesData) (t : TreeData) (start now new : List Buffer)
    → LeftAll p all (tree t rest) start now → GainsInRoom (put_tree p t) now new → LeftAll p all rest start new
all-next p all rest t start now new l g =
    let r = l.ready in
    let q = and_parts (fits_plan p t) (all_trees (fits_plan p) rest) r.fitting in
    let a = added p t (cols_of now) r.size r.differ r.sound q.0 in
    record {
      ready = record {
        size = suc r.size;
        sound = subst (λ c. Sound p c (suc r.size)) (sym g.columns) a.0;
        differ = r.differ;
        fitting = q.1;
        takes = subst (Takes p) (sym g.frame) r.takes;
        room = subst (λ c. FitsIn new (put_each (put_tree p) rest c)) (sym g.columns) (later-room now new _ g.frame g.room r.room);
      };
      columns = ap (put_each (put_tree p) rest) g.columns ∙ l.columns;
      frame = g.frame ∙ l.frame;
      room = λ k. omega (arith, l.room k, g.room k);
    }

pub all-ends : (p : PlanData) (all : TreesData) (start now : List Buffer) → LeftAll p all no_trees start now
    → GainsInRoom (put_each (put_tree p) all) start now
all-ends p all start now l = record { columns = l.columns; frame = l.frame; room = l.room }

pub each-begins : (ps : PlansData) (ts : TreesData) (bs : List Buffer) → ReadyEach ps ts bs → LeftEach ps ts ps ts bs bs
each-begins ps ts bs r = record { ready = r; columns = refl; frame = refl; room = λ k. omega arith }

pub each-first : (ps : PlansData) (all : TreesData) (p : PlanData) (qs : PlansData) (t : TreeData) (rest : TreesData)
    (start now : List Buffer) → LeftEach ps all (plan p qs) (tree t rest) start now → Ready p t now
each-first ps all p qs t rest start now l =
    let r = l.ready in
    let q = and_parts (fits_plan p t) (fit_plans qs rest) r.fitting in
    record {
      size = r.size;
      sound = r.sound.0;
      differ = r.differ.0;
      fitting = q.0;
      takes = r.takes.0;
      room = less-room now (put_tree p t (cols_of now)) _ (put_trees-extends qs rest (put_tree p t (cols_of now))) r.room;
    }

pub each-next : (ps : PlansData) (all : TreesData) (p : PlanData) (qs : PlansData) (t : TreeData) (rest : TreesData)
    (start now new : List Buffer) → LeftEach ps all (plan p qs) (tree t rest) start now → GainsInRoom (put_tree p t) now new
    → LeftEach ps all qs rest start new
each-next ps all p qs t rest start now new l g =
    let r = l.ready in
    let q = and_parts (fits_plan p t) (fit_plans qs rest) r.fitting in
    let sound = all_sound-agrees qs (cols_of now) (put_tree p t (cols_of now)) r.size
    (λ j i. put_tree-elsewhere p t (cols_of now) j (other_side (has p j) (has_any qs j) (r.differ.2 j) i)) r.sound.1 in
    record {
      ready = record {
        size = r.size;
        sound = subst (λ c. AllSound qs c r.size) (sym g.columns) sound;
        differ = r.differ.1;
        fitting = q.1;
        takes = subst (AllTake qs) (sym g.frame) r.takes.1;
        room = subst (λ c. FitsIn new (put_trees qs rest c)) (sym g.columns) (later-room now new _ g.frame g.room r.room);
      };
      columns = ap (put_trees qs rest) g.columns ∙ l.columns;
      frame = g.frame ∙ l.frame;
      room = λ k. omega (arith, l.room k, g.room k);
    }

pub each-ends : (ps : PlansData) (all rest : TreesData) (start now : List Buffer) → LeftEach ps all no_plans rest start now
    → GainsInRoom (put_trees ps all) start now
each-ends ps all rest start now l = record { columns = l.columns; frame = l.frame; room = l.room }

-- there is a tree for each plan that is left
pub tree-left : (ps : PlansData) (all : TreesData) (p : PlanData) (qs : PlansData) (ts : List Tree) (start now : List Buffer)
    → LeftEach ps all (plan p qs) (trees_in ts) start now → 1 ≤ length ts
tree-left ps all p qs [] start now l = absurd (false≢true l.ready.fitting)
tree-left ps all p qs (t ∷ ts) start now l = omega arith
