-- A column of integers in a set.
use Rattle.std.proofs.Common.{◌≡◌, ℕ, zero, suc, ◌+◌, ◌≤◌, Bool, List, [], ◌∷◌, length, slice_get, Some, sym, ◌∙◌, ap, arith}
use Rattle.std.proofs.Math.ListN.{set}
use Rattle.nt_types.specs.ColumnTable.{bits_of}
use Rattle.nt_column.specs.Column.{Column, Buffer, with_more}
use Rattle.nt_column.specs.Elements.{plain}
use Rattle.nt_plans.specs.Plan.{number}
use Rattle.nt_shred.proofs.Sets.{framed, capacity-at, elements-at, get-within}
use Rattle.nt_shred.specs.Places.{TakesIntegers}
use Rattle.nt_shred.specs.Walk.{CanPut}

-- what stands there is put there
pub set-same : (bs : List Buffer) (k : ℕ) (b : Buffer) → slice_get bs k ≡ Some b → set bs k b ≡ bs
set-same [] k b at = absurd (cc)
set-same (x ∷ bs) zero b at = let same : x ≡ b = cc in ap (λ (y : Buffer). y ∷ bs) (sym same)
set-same (x ∷ bs) (suc k) b at = ap (λ ys. x ∷ ys) (set-same bs k b at)

-- a column that a plan of integers has
pub takes-at : (bs : List Buffer) (k bits : ℕ) (signed : Bool) (left : ℕ) (b : Buffer) → slice_get bs k ≡ Some b
    → CanPut (number k bits signed) left bs → TakesIntegers bits left b
takes-at bs k bits signed left b at can =
    let plain_is = can.takes.0 in
    let both = framed bs k b plain_is.0 0 at plain_is.1 in
    record {
      other = λ e. plain_is.2 (sym both.0 ∙ e);
      stored = both.1;
      width = ap bits_of both.0 ∙ plain_is.3;
      known = can.takes.1;
      room = omega (
        arith,
        can.room.memory k (get-within bs k b at),
        capacity-at bs k b at,
        ap length (elements-at bs k b at),
      );
    }

-- one less
pub takes-more : (bits left rest n : ℕ) (old new : Buffer) → TakesIntegers bits left old → new.column ≡ with_more old.column (plain n ∷ [])
    → old.spare ≤ new.spare + 1 → rest + 1 ≤ left → TakesIntegers bits rest new
takes-more bits left rest n old new t is le less =
    let kind = ap (λ (c : Column). c.kind) is in
    record {
      other = λ e. t.other (sym kind ∙ e);
      stored = ap (λ (c : Column). c.zeros) is ∙ t.stored;
      width = ap bits_of kind ∙ t.width;
      known = t.known;
      room = omega (arith, t.room, le, less);
    }
