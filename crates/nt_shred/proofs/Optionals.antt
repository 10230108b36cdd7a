-- The value of an optional that is added, if there is one, and the end behind it.
use Rattle.std.proofs.Common.{◌≡◌, ℕ, suc, ◌+◌, ◌||◌, Bool, cond, true, false, List, [], ◌∷◌, refl, sym, ◌∙◌, ap, ap₂, subst, arith}
use Rattle.std.specs.Prelude.{if◌then◌else◌}
use Rattle.nt_types.specs.TreeData.{TreeData, is_nothing}
use Rattle.nt_column.specs.Column.{Buffer}
use Rattle.nt_column.specs.Elements.{plain}
use Rattle.nt_plans.specs.Plan.{PlanData, maybe, Differ}
use Rattle.nt_trees.specs.Columns.{Cols, last_end, add_to}
use Rattle.nt_trees.specs.Sound.{Sound}
use Rattle.nt_trees.specs.Put.{put_maybe, put_tree}
use Rattle.nt_trees.specs.Fits.{fits_plan}
use Rattle.nt_trees.specs.Views.{cols_of}
use Rattle.nt_trees.proofs.Lists.{add_to-extends}
use Rattle.nt_trees.proofs.Added.{added}
use Rattle.nt_shred.specs.Frame.{FitsIn}
use Rattle.nt_shred.specs.Steps.{put_some, Ready, ReadySome, GainsInRoom}
use Rattle.nt_shred.proofs.Sets.{less-room}
use Rattle.nt_shred.proofs.Arms.{rest-room, now-room}

-- how many values an optional has
abbrev pub how_many_in : TreeData → ℕ
how_many_in t = if is_nothing t then 0 else 1

-- the end counts the value, if there is one
pub put_maybe-some : (e : ℕ) (f : TreeData → Cols → Cols) (t : TreeData) (cols : Cols)
    → put_maybe e f t cols ≡ add_to e (plain (last_end (cols e) + how_many_in t) ∷ []) (put_some f t cols)
put_maybe-some e f t cols = go (is_nothing t)
  where
    go : (b : Bool) → cond b (add_to e (plain (last_end (cols e)) ∷ []) cols) (add_to e (plain (last_end (cols e) + 1) ∷ []) (f t cols))
        ≡ add_to e (plain (last_end (cols e) + cond b 0 1) ∷ []) (cond b cols (f t cols))
    go true = let same : last_end (cols e) ≡ last_end (cols e) + 0 = omega arith in ap (λ (n : ℕ). add_to e (plain n ∷ []) cols) same
    go false = refl

some_sound : (p : PlanData) (t : TreeData) (cols : Cols) (n : ℕ) → Differ p → Sound p cols n → (is_nothing t || fits_plan p t) ≡ true
    → Sound p (put_some (put_tree p) t cols) (n + how_many_in t)
some_sound p t cols n d s h = go (is_nothing t) h
  where
    go : (b : Bool) → (b || fits_plan p t) ≡ true → Sound p (cond b cols (put_tree p t cols)) (n + cond b 0 1)
    go true h = let same : n ≡ n + 0 = omega arith in subst (Sound p cols) same s
    go false h = let same : suc n ≡ n + 1 = omega arith in subst (Sound p (put_tree p t cols)) same (added p t cols n d s h).0

-- ---- the value

pub some-ready : (p : PlanData) (t : TreeData) (bs : List Buffer) → is_nothing t ≡ false → ReadySome p t bs → Ready p t bs
some-ready p t bs is r = record {
  size = r.size;
  sound = r.sound;
  differ = r.differ;
  fitting = subst (λ b. (b || fits_plan p t) ≡ true) is r.fitting;
  takes = r.takes;
  room = subst (λ b. FitsIn bs (cond b (cols_of bs) (put_tree p t (cols_of bs)))) is r.room;
}

pub some-gains : (f : TreeData → Cols → Cols) (t : TreeData) (old new : List Buffer) → is_nothing t ≡ false → GainsInRoom (f t) old new
    → GainsInRoom (put_some f t) old new
some-gains f t old new is g = record {
  columns = g.columns ∙ sym (ap (λ b. cond b (cols_of old) (f t (cols_of old))) is);
  frame = g.frame;
  room = g.room;
}

pub none-gains : (f : TreeData → Cols → Cols) (t : TreeData) (bs : List Buffer) → is_nothing t ≡ true → GainsInRoom (put_some f t) bs bs
none-gains f t bs is = record {
  columns = sym (ap (λ b. cond b (cols_of bs) (f t (cols_of bs))) is);
  frame = refl;
  room = λ k. omega arith;
}

-- ---- the value and its end

maybe-room : (e : ℕ) (p : PlanData) (t : TreeData) (bs : List Buffer) → Ready (maybe e p) t bs
    → FitsIn bs (add_to e (plain (last_end (cols_of bs e) + how_many_in t) ∷ []) (put_some (put_tree p) t (cols_of bs)))
maybe-room e p t bs r = subst (FitsIn bs) (put_maybe-some e (put_tree p) t (cols_of bs)) r.room

pub maybe-some : (e : ℕ) (p : PlanData) (t : TreeData) (bs : List Buffer) → Ready (maybe e p) t bs → ReadySome p t bs
maybe-some e p t bs r = record {
  size = last_end (cols_of bs e);
  sound = r.sound.3;
  differ = r.differ.1;
  fitting = r.fitting;
  takes = r.takes.1;
  room = less-room bs _ _ (add_to-extends e (plain (last_end (cols_of bs e) + how_many_in t) ∷ []) (put_some (put_tree p) t (cols_of bs)))
      (maybe-room e p t bs r);
}

module _ (e : ℕ) (p : PlanData) (t : TreeData) (old now : List Buffer) (r : Ready (maybe e p) t old)
    (g : GainsInRoom (put_some (put_tree p) t) old now) where
  pub maybe-sound : Sound p (cols_of now) (last_end (cols_of old e) + how_many_in t)
  maybe-sound = subst (λ c. Sound p c (last_end (cols_of old e) + how_many_in t)) (sym g.columns)
      (some_sound p t (cols_of old) (last_end (cols_of old e)) r.differ.1 r.sound.3 r.fitting)

  pub maybe-now : FitsIn now (cols_of now)
  maybe-now = now-room (put_some (put_tree p) t) old now _ g
      (add_to-extends e (plain (last_end (cols_of old e) + how_many_in t) ∷ []) (put_some (put_tree p) t (cols_of old)))
      (maybe-room e p t old r)

  -- the columns with the new end
  maybe-whole : (end : ℕ) → end ≡ last_end (cols_of old e) + how_many_in t
      → add_to e (plain end ∷ []) (cols_of now) ≡ put_tree (maybe e p) t (cols_of old)
  maybe-whole end is = ap₂ (λ (n : ℕ) (c : Cols). add_to e (plain n ∷ []) c) is g.columns
      ∙ sym (put_maybe-some e (put_tree p) t (cols_of old))

  pub maybe-end : (end : ℕ) → end ≡ last_end (cols_of old e) + how_many_in t → FitsIn now (add_to e (plain end ∷ []) (cols_of now))
  maybe-end end is = rest-room (put_some (put_tree p) t) (add_to e (plain end ∷ [])) old now _ g (maybe-whole end is) r.room

  pub maybe-done : (new : List Buffer) (end : ℕ) → GainsInRoom (add_to e (plain end ∷ [])) now new
      → end ≡ last_end (cols_of old e) + how_many_in t → GainsInRoom (put_tree (maybe e p) t) old new
  maybe-done new end h is = record {
    columns = h.columns ∙ maybe-whole end is;
    frame = h.frame ∙ g.frame;
    room = λ k. omega (arith, g.room k, h.room k);
  }
