-- An entry that was added from a line.
use Rattle.std.proofs.Common.{◌≡◌, ℕ, ◌-◌, ◌≤◌, ◌^◌, List, [], ◌∷◌, length, refl, sym, ◌∙◌, ap, subst, arith}
use Rattle.std.proofs.Common.{◌==◌, Bool, true, false, MatchBool}
use Rattle.std.proofs.lemmas.Bool.{eqb-true}
use Rattle.std.specs.Str.{IsUtf8}
use Rattle.nt_types.specs.TreeData.{trees_of}
use Rattle.nt_column.specs.Column.{Buffer, columns_of}
use Rattle.nt_event.specs.Standing.{StandsFrom, BlanksStand, jsons_of}
use Rattle.nt_event.proofs.Texts.{line-tokens}
use Rattle.nt_grammar.specs.Table.{Table}
use Rattle.nt_grammar.specs.Open.{open_shapes}
use Rattle.nt_plans.specs.Plan.{PlansData, AllDiffer}
use Rattle.nt_plans.specs.Place.{open_plans}
use Rattle.nt_plans.specs.Types.{AllHaveTypes}
use Rattle.nt_trees.specs.Sound.{AllSound}
use Rattle.nt_trees.specs.Put.{put_trees}
use Rattle.nt_trees.specs.Views.{cols_of}
use Rattle.nt_trees.proofs.Added.{each_added}
use Rattle.nt_trees.proofs.FitPlans.{fit-open}
use Rattle.nt_shred.specs.Frame.{AllTake, HasRoomFor}
use Rattle.nt_shred.specs.Steps.{IsLast}
use Rattle.nt_shred.proofs.Sets.{cols-kept, frame-kept}
use Rattle.nt_shred.proofs.SchemaSets.{set-kept}
use Rattle.nt_shred.proofs.Typed.{all-typed-take}
use Rattle.nt_shred.specs.Places.{Grew}
use Rattle.nt_shred.specs.Walk.{CanPutEach, PutsEach}
use Rattle.nt_shred.specs.Lines.{PutsLine, IsSoundSet, PutsEntry}
use Rattle.nt_shred.proofs.LineGrowth.{room-later}
use Rattle.nt_shred.proofs.Walks.{each-grew}

-- behind the first bracket
pub line-inside : (ps : PlansData) (line : List ℕ) (first : ℕ) (bs : List Buffer) → CanPutEach ps (length line) bs
    → CanPutEach ps (length line - first) bs
line-inside ps line first bs can = record {
  size = can.size;
  sound = can.sound;
  differ = can.differ;
  takes = can.takes;
  room = room-later bs bs (length line) 0 (length line - first) refl (λ k. omega arith) (λ k. omega arith) (omega arith) can.room;
}

-- up to the end of the line
pub line-put : (ps : PlansData) (line : List ℕ) (first end : ℕ) (old new : List Buffer) → StandsFrom (91 ∷ []) line 0 first
    → PutsEach ps line first end old new → BlanksStand line end (length line) → PutsLine ps line old new
line-put ps line first end old new begin h blanks = record {
  found = h.found;
  told = line-tokens (jsons_of (trees_of h.found)) line first end begin h.stands blanks;
  range = h.range;
  fitting = h.fitting;
  gains = h.gains;
  few = λ k. omega (arith, h.few k, blanks.past, begin.some);
}

-- the columns of a schema, with room that was made
pub filled-can : (t : Table) (old now : List Buffer) (more : ℕ) → AllDiffer (open_plans t) → AllHaveTypes t.columns (open_plans t)
    → IsSoundSet t old → columns_of now ≡ columns_of old → HasRoomFor now more → CanPutEach (open_plans t) more now
filled-can t old now more differ types f same room = record {
  size = f.size;
  sound = subst (λ c. AllSound (open_plans t) c f.size) (sym (cols-kept old now same)) f.sound;
  differ = differ;
  takes = subst (AllTake (open_plans t)) (sym (frame-kept old now same))
      (all-typed-take old t.columns f.set.described f.set.stored (open_plans t) types);
  room = room;
}

pub line-taken : (t : Table) (line : List ℕ) (old now new : List Buffer) → length line ≤ 2 ^ 24 → IsUtf8 line
    → AllDiffer (open_plans t) → IsSoundSet t old → columns_of now ≡ columns_of old → PutsLine (open_plans t) line now new
    → PutsEntry t line old new
line-taken t line old now new few utf8 differ f same h =
    let ts = trees_of h.found in
    let added = h.gains.columns ∙ ap (put_trees (open_plans t) ts) (cols-kept old now same) in
    record {
      found = h.found;
      spells = record { few = few; utf8 = utf8; told = h.told; range = h.range };
      fitting = sym (fit-open t.fields t.columns 0 (open_shapes t.fields t.columns 0 t.fields) ts) ∙ h.fitting;
      added = added;
      last = λ n s.
          let both = each_added (open_plans t) ts (cols_of old) n differ s h.fitting in
          subst (IsLast (open_plans t) ts n) (sym added) (record { sound = both.0; entry = both.1 });
      set = set-kept t.columns old new (h.gains.frame ∙ frame-kept old now same) f.set;
    }

-- whether blanks end at the end of the line
pub line-whole : (ps : PlansData) (line : List ℕ) (first end stop : ℕ) (old new : List Buffer) → StandsFrom (91 ∷ []) line 0 first
    → PutsEach ps line first end old new → BlanksStand line end stop
    → MatchBool (stop == length line) (PutsLine ps line old new) (Grew old new)
line-whole ps line first end stop old new begin h blanks = go (stop == length line) refl
  where
    go : (b : Bool) → (stop == length line) ≡ b → MatchBool b (PutsLine ps line old new) (Grew old new)
    go true is = line-put ps line first end old new begin h (subst (BlanksStand line end) (eqb-true stop (length line) is) blanks)
    go false is = each-grew ps line first end old new h
