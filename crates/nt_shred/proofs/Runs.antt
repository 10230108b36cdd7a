-- Values that stand one after the other inside a list, and are added.
use Rattle.std.proofs.Common.{◌≡◌, ℕ, ◌+◌, ◌-◌, ◌≤◌, ◌<◌, Bool, true, List, [], ◌∷◌, ◌++◌, length}
use Rattle.std.proofs.Common.{refl, sym, ◌∙◌, ap, arith, subst, append_assoc}
use Rattle.std.proofs.lemmas.Bool.{and_parts}
use Rattle.nt_types.specs.TreeData.{TreeData, TreesData, tree, trees_of}
use Rattle.nt_types.specs.Fits.{all_trees}
use Rattle.nt_event.specs.Entry.{trees_then}
use Rattle.nt_event.specs.Json.{AllInRange}
use Rattle.nt_event.specs.Standing.{ValueStands, CommaStands, MayStand, json_of}
use Rattle.nt_event.proofs.Texts.{OpenStands, are_some, open-next, may-past}
use Rattle.nt_column.specs.Column.{Buffer}
use Rattle.nt_plans.specs.Plan.{PlanData}
use Rattle.nt_trees.specs.Columns.{Cols}
use Rattle.nt_trees.specs.Sound.{Sound}
use Rattle.nt_trees.specs.Put.{put_each, put_tree, how_many_trees}
use Rattle.nt_trees.specs.Fits.{fits_plan}
use Rattle.nt_trees.specs.Views.{cols_of}
use Rattle.nt_trees.proofs.Stable.{put_each-extends, put_tree-extends}
use Rattle.nt_trees.proofs.Added.{added, all_added}
use Rattle.nt_shred.specs.Frame.{Takes}
use Rattle.nt_shred.specs.Places.{Grew}
use Rattle.nt_shred.specs.Runs.{RunStands, PutsRun}
use Rattle.nt_shred.specs.Walk.{CanPut}
use Rattle.nt_shred.proofs.LineGrowth.{grew-by, room-later, few-then}
use Rattle.nt_shred.proofs.Walks.{SoFarAll, can-later}

-- ---- where they stand

-- one more behind a comma
pub run-next : (vs : List TreeData) (w : TreeData) (text : List ℕ) (at i next end : ℕ) → RunStands vs text at i
    → CommaStands text i next → ValueStands (json_of w) text next end → RunStands (vs ++ w ∷ []) text at end
run-next [] w text at i next end run comma value = absurd run
run-next (v ∷ []) w text at i next end run comma value = (i, next, run, comma, value)
run-next (v ∷ u ∷ us) w text at i next end run comma value =
    (run.0, run.1, run.2, run.3, run-next (u ∷ us) w text run.1 i next end run.4 comma value)

-- they take a byte each, and stand within the text
pub run-long : (vs : List TreeData) (text : List ℕ) (at end : ℕ) → RunStands vs text at end
    → (at + length vs ≤ end) × (end ≤ length text) × (at < end)
run-long [] text at end run = absurd run
run-long (v ∷ []) text at end run = (omega (arith, run.some), run.within, run.some)
run-long (v ∷ u ∷ us) text at end run =
    let rest = run-long (u ∷ us) text run.1 end run.4 in
    (omega (arith, rest.0, run.2.some, run.3.some), rest.1, omega (arith, rest.2, run.2.some, run.3.some))

some-then : (vs : List TreeData) (w : TreeData) (ws : List TreeData) → are_some (vs ++ w ∷ ws) ≡ true
some-then [] w ws = refl
some-then (v ∷ vs) w ws = refl

-- behind those that stand already
run-open : (vs ws : List TreeData) (text : List ℕ) (at i next end : ℕ) → OpenStands vs text at i → MayStand (are_some vs) text i next
    → RunStands ws text next end → OpenStands (vs ++ ws) text at end
run-open vs [] text at i next end before comma run = absurd run
run-open vs (w ∷ []) text at i next end before comma run = open-next text at i next end vs w before comma run
run-open vs (w ∷ u ∷ us) text at i next end before comma run =
    let first : OpenStands (vs ++ w ∷ []) text at run.0 = open-next text at i next run.0 vs w before comma run.2 in
    let again : MayStand (are_some (vs ++ w ∷ [])) text run.0 run.1 =
    subst (λ b. MayStand b text run.0 run.1) (sym (some-then vs w [])) run.3 in
    subst (λ l. OpenStands l text at end) (append_assoc vs (w ∷ []) (u ∷ us))
    (run-open (vs ++ w ∷ []) (u ∷ us) text at run.0 run.1 end first again run.4)

some-run : (vs ws : List TreeData) (text : List ℕ) (at end : ℕ) → RunStands ws text at end → are_some (vs ++ ws) ≡ true
some-run vs [] text at end run = absurd run
some-run vs (w ∷ ws) text at end run = some-then vs w ws

-- ---- trees and more of them

then-run : (vs ws : List TreeData) (more : TreesData) → trees_then (vs ++ ws) more ≡ trees_then vs (trees_then ws more)
then-run [] ws more = refl
then-run (v ∷ vs) ws more = ap (tree v) (then-run vs ws more)

put-run : (f : TreeData → Cols → Cols) (ws : List TreeData) (more : TreesData) (cols : Cols)
    → put_each f more (put_each f (trees_of ws) cols) ≡ put_each f (trees_then ws more) cols
put-run f [] more cols = refl
put-run f (w ∷ ws) more cols = put-run f ws more (f w cols)

range-run : (ws : List TreeData) (more : TreesData) → AllInRange (trees_of ws) → AllInRange more → AllInRange (trees_then ws more)
range-run [] more h m = m
range-run (w ∷ ws) more h m = (h.0, range-run ws more h.1 m)

fitting-run : (f : TreeData → Bool) (ws : List TreeData) (more : TreesData) → all_trees f (trees_of ws) ≡ true
    → all_trees f more ≡ true → all_trees f (trees_then ws more) ≡ true
fitting-run f [] more h m = m
fitting-run f (w ∷ ws) more h m =
    let q = and_parts (f w) (all_trees f (trees_of ws)) h in rw (q.0, fitting-run f ws more q.1 m) refl

-- ---- they are added

pub run-grew : (p : PlanData) (line : List ℕ) (at end : ℕ) (old new : List Buffer) → PutsRun p line at end old new → Grew old new
run-grew p line at end old new h = grew-by (put_each (put_tree p) (trees_of h.found)) old new h.gains
    (put_each-extends (put_tree p) (put_tree-extends p) (trees_of h.found) (cols_of old))

can-run : (p : PlanData) (line : List ℕ) (next end : ℕ) (now new : List Buffer) → CanPut p (length line - next) now
    → PutsRun p line next end now new → CanPut p (length line - end) new
can-run p line next end now new can h =
    let long = run-long h.found line next end h.stands in
    record {
      size = can.size + how_many_trees (trees_of h.found);
      sound = subst (λ c. Sound p c (can.size + how_many_trees (trees_of h.found))) (sym h.gains.columns)
          (all_added p (λ t cs m s i. added p t cs m can.differ s i) (trees_of h.found) (cols_of now) can.size can.sound h.fitting).0;
      differ = can.differ;
      takes = subst (Takes p) (sym h.gains.frame) can.takes;
      room = room-later now new (length line - next) (end - next) (length line - end) h.gains.frame h.gains.room h.few
          (omega (arith, long.1, long.2)) can.room;
    }

-- the items of a list so far, and these
pub all-run : (p : PlanData) (b : Bool) (line : List ℕ) (at i next end : ℕ) (start now new : List Buffer)
    → SoFarAll p b line at i start now → MayStand b line i next → PutsRun p line next end now new → SoFarAll p true line at end start new
all-run p b line at i next end start now new s comma h =
    let stands : MayStand (are_some s.found) line i next = subst (λ c. MayStand c line i next) (sym s.are) comma in
    let past = may-past b line i next comma in
    let long = run-long h.found line next end h.stands in
    record {
      found = s.found ++ h.found;
      are = some-run s.found h.found line next end h.stands;
      stands = run-open s.found h.found line at i next end s.stands stands h.stands;
      within = long.1;
      past = omega (arith, s.past, past, long.2);
      range = λ more m. subst AllInRange (sym (then-run s.found h.found more))
          (s.range (trees_then h.found more) (range-run h.found more h.range m));
      fitting = λ more m. subst (λ ts. all_trees (fits_plan p) ts ≡ true) (sym (then-run s.found h.found more))
          (s.fitting (trees_then h.found more) (fitting-run (fits_plan p) h.found more h.fitting m));
      put = λ more. ap (put_each (put_tree p) more) h.gains.columns ∙ put-run (put_tree p) h.found more (cols_of now)
          ∙ s.put (trees_then h.found more) ∙ ap (λ ts. put_each (put_tree p) ts (cols_of start)) (sym (then-run s.found h.found more));
      frame = h.gains.frame ∙ s.frame;
      room = λ k. omega (arith, s.room k, h.gains.room k);
      few = few-then (i - at) (end - next) (end - at) start now new s.few h.few (omega (arith, past, s.past, long.2));
      can = can-run p line next end now new (can-later p line i next now past s.can) h;
    }
