-- Trees of each form, that are added part by part.
use Rattle.std.proofs.Common.{◌≡◌, ℕ, ◌+◌, ◌<◌, List, [], ◌∷◌, length, map, sym, ◌∙◌, ap, ap₂, subst, arith, length-append}
use Rattle.nt_types.specs.TreeData.{TreeData, TreesData, flag, num, items, parts, pick, nothing, no_trees, tree}
use Rattle.nt_types.specs.TreeData as trees
use Rattle.nt_column.specs.Column.{Buffer}
use Rattle.nt_column.specs.Elements.{plain}
use Rattle.nt_plans.specs.Plan.{PlanData, text, list}
use Rattle.nt_trees.specs.Columns.{Cols, last_end, add_to}
use Rattle.nt_trees.specs.Sound.{Sound}
use Rattle.nt_trees.specs.Put.{how_many_trees, put_each, put_tree}
use Rattle.nt_trees.specs.Views.{cols_of}
use Rattle.nt_trees.proofs.Lists.{Extends, add_to-extends}
use Rattle.nt_trees.proofs.Stable.{put_tree-extends}
use Rattle.nt_trees.proofs.Elsewhere.{add_to-here}
use Rattle.nt_trees.proofs.Leaves.{length-plain}
use Rattle.nt_trees.proofs.Added.{added, all_added}
use Rattle.nt_shred.specs.Frame.{set_frame, ends_below, FitsIn}
use Rattle.nt_shred.specs.Steps.{Ready, ReadyAll, GainsInRoom}
use Rattle.nt_shred.proofs.Sets.{less-room, later-room, same-length, frame-within}

-- ---- by what plans and trees are

pub ready-is : (p q : PlanData) (t u : TreeData) (bs : List Buffer) → p ≡ q → t ≡ u → Ready p t bs → Ready q u bs
ready-is p q t u bs e f r = subst (λ x. Ready x u bs) e (subst (λ x. Ready p x bs) f r)

pub gains-is : (p q : PlanData) (t u : TreeData) (old new : List Buffer) → p ≡ q → t ≡ u → GainsInRoom (put_tree q u) old new
    → GainsInRoom (put_tree p t) old new
gains-is p q t u old new e f g = subst (λ x. GainsInRoom (put_tree x t) old new) (sym e) (subst (λ x. GainsInRoom
    (put_tree q x) old new) (sym f) g)

-- what is still to be added has room, where all had it
pub rest-room : (f g : Cols → Cols) (old now : List Buffer) (final : Cols) → GainsInRoom f old now → g (cols_of now) ≡ final
    → FitsIn old final → FitsIn now (g (cols_of now))
rest-room f g old now final gain is r = subst (FitsIn now) (sym is) (later-room old now final gain.frame gain.room r)

-- what was added has room
pub now-room : (f : Cols → Cols) (old now : List Buffer) (final : Cols) → GainsInRoom f old now → Extends (f (cols_of old)) final
    → FitsIn old final → FitsIn now (cols_of now)
now-room f old now final gain x r = subst (FitsIn now) (sym gain.columns)
    (less-room now _ final x (later-room old now final gain.frame gain.room r))

pub old-room : (p : PlanData) (t : TreeData) (bs : List Buffer) → Ready p t bs → FitsIn bs (cols_of bs)
old-room p t bs r = less-room bs (cols_of bs) _ (put_tree-extends p t (cols_of bs)) r.room

-- ---- a list

pub list-all : (e : ℕ) (p : PlanData) (ts : TreesData) (bs : List Buffer) → Ready (list e p) (items ts) bs → ReadyAll p ts bs
list-all e p ts bs r = record {
  size = last_end (cols_of bs e);
  sound = r.sound.2;
  differ = r.differ.1;
  fitting = r.fitting;
  takes = r.takes.1;
  room = less-room bs _ _ (add_to-extends e (plain (last_end (cols_of bs e) + how_many_trees ts) ∷ [])
      (put_each (put_tree p) ts (cols_of bs))) r.room;
}

module _ (e : ℕ) (p : PlanData) (ts : TreesData) (old now : List Buffer) (r : Ready (list e p) (items ts) old)
    (g : GainsInRoom (put_each (put_tree p) ts) old now) where
  pub list-sound : Sound p (cols_of now) (last_end (cols_of old e) + how_many_trees ts)
  list-sound = subst (λ c. Sound p c (last_end (cols_of old e) + how_many_trees ts)) (sym g.columns)
      (all_added p (λ t cs m s i. added p t cs m r.differ.1 s i) ts (cols_of old) (last_end (cols_of old e)) r.sound.2 r.fitting).0

  pub list-room : FitsIn now (cols_of now)
  list-room = now-room (put_each (put_tree p) ts) old now _ g
      (add_to-extends e (plain (last_end (cols_of old e) + how_many_trees ts) ∷ []) (put_each (put_tree p) ts (cols_of old))) r.room

  -- the columns with the new end
  pub list-whole : (end : ℕ) → end ≡ last_end (cols_of old e) + how_many_trees ts → add_to e (plain end ∷ []) (cols_of now)
      ≡ put_tree (list e p) (items ts) (cols_of old)
  list-whole end is = ap₂ (λ (n : ℕ) (c : Cols). add_to e (plain n ∷ []) c) is g.columns

  pub list-end : (end : ℕ) → end ≡ last_end (cols_of old e) + how_many_trees ts → FitsIn now (add_to e (plain end ∷ []) (cols_of now))
  list-end end is = rest-room (put_each (put_tree p) ts) (add_to e (plain end ∷ [])) old now _ g (list-whole end is) r.room

  pub list-done : (new : List Buffer) (end : ℕ) → GainsInRoom (add_to e (plain end ∷ [])) now new → end ≡ last_end (cols_of old e)
      + how_many_trees ts → GainsInRoom (put_tree (list e p) (items ts)) old new
  list-done new end h is = record {
    columns = h.columns ∙ list-whole end is;
    frame = h.frame ∙ g.frame;
    room = λ k. omega (arith, g.room k, h.room k);
  }

-- ---- a text

pub text-bytes : (e c : ℕ) (s : List ℕ) (bs : List Buffer) → Ready (text e c) (trees.text s) bs
    → FitsIn bs (add_to c (map plain s) (cols_of bs))
text-bytes e c s bs r = less-room bs _ _ (add_to-extends e (plain (last_end (cols_of bs e) + length s) ∷ [])
    (add_to c (map plain s) (cols_of bs))) r.room

module _ (e c : ℕ) (s : List ℕ) (old now : List Buffer) (r : Ready (text e c) (trees.text s) old)
    (g : GainsInRoom (add_to c (map plain s)) old now) where
  pub text-end : length (cols_of now c) ≡ last_end (cols_of old e) + length s
  text-end =
      let here = ap (λ (f : Cols). length (f c)) g.columns in
      let is = ap length (add_to-here c (map plain s) (cols_of old)) in
      here ∙ is ∙ length-append (cols_of old c) (map plain s) ∙ ap₂ (λ a b. a + b) r.sound.2 (length-plain s)

  pub text-room : FitsIn now (cols_of now)
  text-room = now-room (add_to c (map plain s)) old now _ g (add_to-extends e (plain (last_end (cols_of old e) + length s) ∷ [])
      (add_to c (map plain s) (cols_of old))) r.room

  pub text-whole : (end : ℕ) → end ≡ last_end (cols_of old e) + length s → add_to e (plain end ∷ []) (cols_of now)
      ≡ put_tree (text e c) (trees.text s) (cols_of old)
  text-whole end is = ap₂ (λ (n : ℕ) (x : Cols). add_to e (plain n ∷ []) x) is g.columns

  -- the ends of all columns can count the new end
  pub text-ends_below : length (cols_of now c) < ends_below (set_frame now)
  text-ends_below =
      let there = r.takes.1 in
      let within = frame-within old c _ there.1 in
      text-room.ends c (omega (arith, within, same-length old now g.frame))

  pub text-last : (end : ℕ) → end ≡ last_end (cols_of old e) + length s → FitsIn now (add_to e (plain end ∷ []) (cols_of now))
  text-last end is = rest-room (add_to c (map plain s)) (add_to e (plain end ∷ [])) old now _ g (text-whole end is) r.room

  pub text-done : (new : List Buffer) (end : ℕ) → GainsInRoom (add_to e (plain end ∷ [])) now new → end ≡ last_end (cols_of old e)
      + length s → GainsInRoom (put_tree (text e c) (trees.text s)) old new
  text-done new end h is = record {
    columns = h.columns ∙ text-whole end is;
    frame = h.frame ∙ g.frame;
    room = λ k. omega (arith, g.room k, h.room k);
  }
