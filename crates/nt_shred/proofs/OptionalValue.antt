-- One optional integer that is added, with its end.
use Rattle.std.proofs.Common.{◌≡◌, ℕ, ◌+◌, ◌-◌, ◌<◌, Bool, cond, List, [], ◌∷◌, length, refl, sym, ap, subst, arith}
use Rattle.nt_column.specs.Column.{Buffer}
use Rattle.nt_column.specs.Elements.{plain}
use Rattle.nt_plans.specs.Plan.{number, maybe}
use Rattle.nt_trees.specs.Columns.{last_end, add_to}
use Rattle.nt_trees.specs.Views.{cols_of}
use Rattle.nt_shred.specs.Frame.{set_frame, ends_below, IsEnds, FitsIn}
use Rattle.nt_shred.specs.Steps.{GainsInRoom}
use Rattle.nt_shred.proofs.Optionals.{how_many_in, maybe-end}
use Rattle.nt_shred.specs.Runs.{PutsRun}
use Rattle.nt_shred.specs.Walk.{CanPut, Puts, PutsSome}
use Rattle.nt_shred.proofs.LineGrowth.{room-to-add}
use Rattle.nt_shred.proofs.OptionalSteps.{some-put, some-one, maybe-ready, maybe-put}
use Rattle.nt_shred.proofs.OptionalRuns.{values-are, next-fits}

-- one value is a run
pub one-run : (e k bits : ℕ) (signed : Bool) (line : List ℕ) (at end : ℕ) (old new : List Buffer)
    → Puts (maybe e (number k bits signed)) line at end old new → PutsRun (maybe e (number k bits signed)) line at end old new
one-run e k bits signed line at end old new h = record {
  found = h.found ∷ [];
  stands = h.stands;
  range = (h.range, tt);
  fitting = rw (h.fitting) refl;
  gains = record { columns = h.gains.columns; frame = h.gains.frame; room = h.gains.room };
  few = h.few;
}

module _ (e k bits : ℕ) (signed : Bool) (line : List ℕ) (at : ℕ) (old : List Buffer)
    (can : CanPut (maybe e (number k bits signed)) (length line - at) old) where
  -- room for an end, before anything is added
  pub end-room : (n : ℕ) → at < length line → FitsIn old (add_to e (plain n ∷ []) (cols_of old))
  end-room n some = room-to-add old (length line - at) e (plain n ∷ []) can.room (omega (arith, some))

  module _ (end : ℕ) (now : List Buffer) (h : Puts (number k bits signed) line at end old now) where
    abbrev some : PutsSome (number k bits signed) line at end old now
    some = some-put (number k bits signed) line at end old now refl h

    one : how_many_in some.found ≡ 1
    one = ap (λ (b : Bool). cond {A = ℕ} b 0 1) (some-one (number k bits signed) line at end old now refl h)

    next : (n : ℕ) → n ≡ length (cols_of old k) → n + 1 ≡ last_end (cols_of old e) + how_many_in some.found
    next n is = omega (arith, is, values-are e k bits signed line at old can, one)

    pub next-ends : IsEnds (set_frame now) e
    next-ends = subst (λ fr. IsEnds fr e) (sym h.gains.frame) can.takes.0

    pub next-below : (n : ℕ) → n ≡ length (cols_of old k) → n + 1 < ends_below (set_frame now)
    next-below n is = omega (
      arith,
      is,
      next-fits e k bits signed line at old can (omega (arith, h.stands.some, h.stands.within)),
      ap ends_below h.gains.frame,
    )

    pub next-room : (n : ℕ) → n ≡ length (cols_of old k) → FitsIn now (add_to e (plain (n + 1) ∷ []) (cols_of now))
    next-room n is = maybe-end e (number k bits signed) some.found old now
        (maybe-ready e (number k bits signed) line at end old now can some) some.gains (n + 1) (next n is)

    pub next-put : (n : ℕ) (new : List Buffer) → n ≡ length (cols_of old k) → GainsInRoom (add_to e (plain (n + 1) ∷ [])) now new
        → Puts (maybe e (number k bits signed)) line at end old new
    next-put n new is g = maybe-put e (number k bits signed) line at end old now can some new (n + 1) g (next n is)
