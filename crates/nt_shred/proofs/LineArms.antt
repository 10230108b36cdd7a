-- Lists, records and choices that are added.
use Rattle.std.proofs.Common.{◌≡◌, ℕ, zero, suc, ◌+◌, ◌-◌, ◌<◌, ◌≤◌, ◌^◌, true}
use Rattle.std.proofs.Common.{List, [], ◌∷◌, length, get_or, decimal, refl, sym, ap, arith, subst}
use Rattle.nt_types.specs.TreeData.{TreeData, items, parts, pick, nothing, trees_of}
use Rattle.nt_event.specs.Standing.{StandsFrom, CommaStands, jsons_of}
use Rattle.nt_event.proofs.Texts.{array-stands, pick-items, reads-null}
use Rattle.nt_types.specs.ShapeData.{no_kinds}
use Rattle.nt_column.specs.Column.{Buffer}
use Rattle.nt_column.specs.Elements.{plain}
use Rattle.nt_plans.specs.Plan.{PlanData, PlansData, list, record_of, choice, no_plans, plan}
use Rattle.nt_plans.specs.PlanViews.{plan_view}
use Rattle.nt_plans.specs.declared.plan.Plan.{Plan}
use Rattle.nt_trees.specs.Columns.{Cols, last_end, count_tag, add_to}
use Rattle.nt_trees.specs.Put.{how_many_trees, put_each, put_tree}
use Rattle.nt_trees.specs.Fits.{fits_plan, fits_alternative}
use Rattle.nt_trees.specs.Views.{cols_of, plans_in}
use Rattle.nt_shred.specs.Frame.{set_frame}
use Rattle.nt_shred.specs.Steps.{Ready, GainsInRoom}
use Rattle.nt_shred.proofs.Arms.{list-done}
use Rattle.nt_shred.proofs.Alternatives.{IsNth, nth-read, nth-differ, nth-takes, nth-sound, pick-done}
use Rattle.nt_shred.specs.Walk.{CanPut, CanPutEach, Puts, PutsAll, PutsEach}
use Rattle.nt_shred.proofs.LineGrowth.{adds, room-later, few-more}
use Rattle.nt_shred.proofs.Singles.{one-more}

-- ---- lists

-- behind its bracket
pub list-inside : (e : ℕ) (p : PlanData) (line : List ℕ) (at first : ℕ) (bs : List Buffer) → at < first
    → CanPut (list e p) (length line - at) bs → CanPut p (length line - first) bs
list-inside e p line at first bs past can = record {
  size = last_end (cols_of bs e);
  sound = can.sound.2;
  differ = can.differ.1;
  takes = can.takes.1;
  room = room-later bs bs (length line - at) 0 (length line - first) refl (λ k. omega arith) (λ k. omega arith)
      (omega (arith, past)) can.room;
}

module _ (e : ℕ) (p : PlanData) (line : List ℕ) (at first end : ℕ) (old now : List Buffer) (begin : StandsFrom (91 ∷ []) line at first)
    (can : CanPut (list e p) (length line - at) old) (h : PutsAll p line first end old now) where
  pub list-ready : Ready (list e p) (items (trees_of h.found)) old
  list-ready =
      let end_is = plain (last_end (cols_of old e) + how_many_trees (trees_of h.found)) in
      let grown : (k : ℕ) → length (put_tree (list e p) (items (trees_of h.found)) (cols_of old) k)
      ≤ length (cols_of old k) + (length line - at) = λ k. omega (
        arith,
        adds e (end_is ∷ []) (put_each (put_tree p) (trees_of h.found) (cols_of old)) k,
        h.few k,
        ap (λ (x : Cols). length (x k)) h.gains.columns,
        begin.some,
        h.stands.some,
        h.stands.within,
      ) in
      record {
        size = can.size;
        sound = can.sound;
        differ = can.differ;
        fitting = h.fitting;
        takes = can.takes;
        room = record {
          memory = λ k m. omega (arith, grown k, can.room.memory k m);
          ends = λ k m. omega (arith, grown k, can.room.ends k m);
        };
      }

  pub list-put : (new : List Buffer) (last : ℕ) → GainsInRoom (add_to e (plain last ∷ [])) now new
      → last ≡ last_end (cols_of old e) + how_many_trees (trees_of h.found) → Puts (list e p) line at end old new
  list-put new last g is = record {
    found = items (trees_of h.found);
    stands = array-stands (jsons_of (trees_of h.found)) line at first end begin h.stands;
    range = h.range;
    fitting = h.fitting;
    gains = list-done e p (trees_of h.found) old now list-ready h.gains new last g is;
    few = few-more e (plain last ∷ []) (end - first) (end - at) old now new g h.few (omega (arith, begin.some, h.stands.some));
  }

-- ---- records

pub record-inside : (ps : PlansData) (line : List ℕ) (at first : ℕ) (bs : List Buffer) → at < first
    → CanPut (record_of ps) (length line - at) bs → CanPutEach ps (length line - first) bs
record-inside ps line at first bs past can = record {
  size = can.size;
  sound = can.sound;
  differ = can.differ;
  takes = can.takes.1;
  room = room-later bs bs (length line - at) 0 (length line - first) refl (λ k. omega arith) (λ k. omega arith)
      (omega (arith, past)) can.room;
}

pub record-put : (ps : PlansData) (line : List ℕ) (at first end : ℕ) (old new : List Buffer) → StandsFrom (91 ∷ []) line at first
    → PutsEach ps line first end old new → Puts (record_of ps) line at end old new
record-put ps line at first end old new begin h = record {
  found = parts (trees_of h.found);
  stands = array-stands (jsons_of (trees_of h.found)) line at first end begin h.stands;
  range = h.range;
  fitting = h.fitting;
  gains = record { columns = h.gains.columns; frame = h.gains.frame; room = h.gains.room };
  few = λ k. omega (arith, h.few k, begin.some);
}

-- ---- choices

pub nothing-put : (s : ℕ) (ps : PlansData) (line : List ℕ) (at end : ℕ) (old new : List Buffer)
    → StandsFrom (110 ∷ 117 ∷ 108 ∷ 108 ∷ []) line at end → GainsInRoom (add_to s ((0, 0) ∷ [])) old new
    → Puts (choice s ps) line at end old new
nothing-put s ps line at end old new h g =
    record {
      found = nothing;
      stands = (reads-null 0 no_kinds line at end h).stands;
      range = tt;
      fitting = refl;
      gains = record { columns = g.columns; frame = g.frame; room = g.room };
      few = one-more s (0, 0) (end - at) old new (omega (arith, h.some)) g;
    }

-- the alternative that is read at a tag
pub nth-of : (l : List Plan) (tag : ℕ) (x : Plan) → (tag ≡ 0 → ⊥) → tag ≤ length l → x ≡ get_or l (tag - 1) x
    → IsNth (plans_in l) tag (plan_view x)
nth-of l tag x some among is =
    let up : suc (tag - 1) ≡ tag = omega (arith, some) in
    subst (λ n. IsNth (plans_in l) n (plan_view x)) up (nth-read l (tag - 1) x (omega (arith, some, among)) is)

nth-fits_back : (ps : PlansData) (tag : ℕ) (p : PlanData) (t : TreeData) → IsNth ps tag p → fits_plan p t ≡ true
    → fits_alternative ps tag t ≡ true
nth-fits_back no_plans tag p t n h = absurd n
nth-fits_back (plan q qs) zero p t n h = absurd n
nth-fits_back (plan q qs) (suc zero) p t n h = subst (λ x. fits_plan x t ≡ true) (sym n) h
nth-fits_back (plan q qs) (suc (suc tag)) p t n h = nth-fits_back qs (suc tag) p t n h

-- the alternative of a tag
pub pick-inside : (s : ℕ) (ps : PlansData) (tag : ℕ) (p : PlanData) (line : List ℕ) (at next : ℕ) (bs : List Buffer) → IsNth ps tag p
    → at ≤ next → CanPut (choice s ps) (length line - at) bs → CanPut p (length line - next) bs
pick-inside s ps tag p line at next bs n past can = record {
  size = count_tag tag (cols_of bs s);
  sound = nth-sound ps 0 tag tag p (cols_of bs s) (cols_of bs) (omega arith) n can.sound.3;
  differ = nth-differ ps tag p n can.differ.1;
  takes = nth-takes ps tag p (set_frame bs) n can.takes.1;
  room = room-later bs bs (length line - at) 0 (length line - next) refl (λ k. omega arith) (λ k. omega arith)
      (omega (arith, past)) can.room;
}

pub pick-put : (s : ℕ) (ps : PlansData) (tag : ℕ) (p : PlanData) (line : List ℕ) (at first dot next last end index : ℕ)
    (old now new : List Buffer) → IsNth ps tag p → tag < 2 ^ 32 → StandsFrom (91 ∷ []) line at first
    → StandsFrom (decimal tag) line first dot → CommaStands line dot next → Puts p line next last old now
    → StandsFrom (93 ∷ []) line last end → index ≡ count_tag tag (cols_of old s) → GainsInRoom (add_to s ((index, tag) ∷ [])) now new
    → Puts (choice s ps) line at end old new
pick-put s ps tag p line at first dot next last end index old now new n small begin digits comma h close is g = record {
  found = pick tag h.found;
  stands = array-stands _ line at first end begin
      (pick-items tag h.found line first dot next last end (omega (arith, small)) digits comma h.stands close);
  range = (small, h.range);
  fitting = nth-fits_back ps tag p h.found n h.fitting;
  gains = pick-done s ps tag p h.found n old now h.gains index is new g;
  few = few-more s ((index, tag) ∷ []) (last - next) (end - at) old now new g h.few
      (omega (arith, begin.some, digits.some, comma.some, h.stands.some, close.some));
}
