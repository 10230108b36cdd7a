-- Columns that grow, and the room that is left in them.
use Rattle.std.proofs.Common.{◌≡◌, ℕ, ◌+◌, ◌≤◌, ◌==◌, Bool, true, false, if◌then◌else◌, List, [], ◌++◌, length, refl}
use Rattle.std.proofs.Common.{sym, ◌∙◌, ap, arith, subst, length-append}
use Rattle.nt_column.specs.Column.{Buffer}
use Rattle.nt_column.specs.Elements.{Element}
use Rattle.nt_trees.specs.Columns.{Cols, add_to}
use Rattle.nt_trees.specs.Views.{cols_of}
use Rattle.nt_trees.proofs.Lists.{Extends, same-extends, then-extends}
use Rattle.nt_shred.specs.Frame.{set_frame, ends_below, capacity_at, FitsIn, HasRoomFor}
use Rattle.nt_shred.specs.Steps.{GainsInRoom}
use Rattle.nt_shred.proofs.Sets.{same-length}
use Rattle.nt_shred.specs.Places.{AddsUpTo, Grew}

-- ---- anything that was added

pub grew-not : (bs : List Buffer) → Grew bs bs
grew-not bs = record { columns = same-extends (cols_of bs); frame = refl }

pub grew-then : (a b c : List Buffer) → Grew a b → Grew b c → Grew a c
grew-then a b c g h = record {
  columns = then-extends (cols_of a) (cols_of b) (cols_of c) g.columns h.columns;
  frame = h.frame ∙ g.frame;
}

pub grew-by : (f : Cols → Cols) (old new : List Buffer) → GainsInRoom f old new → Extends (cols_of old) (f (cols_of old)) → Grew old new
grew-by f old new g x = record { columns = subst (Extends (cols_of old)) (sym g.columns) x; frame = g.frame }

-- ---- how many were added

pub adds : (k : ℕ) (es : List Element) (cols : Cols) (j : ℕ) → length (add_to k es cols j) ≤ length (cols j) + length es
adds k es cols j = go (j == k)
  where
    go : (b : Bool) → length (cols j ++ (if b then es else [])) ≤ length (cols j) + length es
    go true = omega (arith, length-append (cols j) es)
    go false = omega (arith, length-append (cols j) [])

-- what is added to one column
pub few-more : (k : ℕ) (es : List Element) (n m : ℕ) (start old new : List Buffer) → GainsInRoom (add_to k es) old new
    → AddsUpTo n start old
    → n + length es ≤ m → AddsUpTo m start new
few-more k es n m start old new g few le j =
    omega (arith, ap (λ (c : Cols). length (c j)) g.columns, adds k es (cols_of old) j, few j, le)

pub few-then : (n m l : ℕ) (start old new : List Buffer) → AddsUpTo n start old → AddsUpTo m old new → n + m ≤ l → AddsUpTo l start new
few-then n m l start old new f g le j = omega (arith, f j, g j, le)

-- ---- room that is left

pub room-now : (bs : List Buffer) (left : ℕ) → HasRoomFor bs left → FitsIn bs (cols_of bs)
room-now bs left r = record { memory = λ k h. omega (arith, r.memory k h); ends = λ k h. omega (arith, r.ends k h) }

pub room-to-add : (bs : List Buffer) (left k : ℕ) (es : List Element) → HasRoomFor bs left → length es ≤ left
    → FitsIn bs (add_to k es (cols_of bs))
room-to-add bs left k es r le = record {
  memory = λ j h. omega (arith, adds k es (cols_of bs) j, le, r.memory j h);
  ends = λ j h. omega (arith, adds k es (cols_of bs) j, le, r.ends j h);
}

pub room-later : (old new : List Buffer) (left n m : ℕ) → set_frame new ≡ set_frame old
    → ((k : ℕ) → capacity_at old k ≤ capacity_at new k) → AddsUpTo n old new → m + n ≤ left → HasRoomFor old left → HasRoomFor new m
room-later old new left n m same more few le r = record {
  memory = λ k h. omega (arith, few k, more k, le, r.memory k (omega (arith, h, same-length old new same)));
  ends = λ k h. omega (arith, few k, le, ap ends_below same, r.ends k (omega (arith, h, same-length old new same)));
}

-- what was added had room
pub room-for : (f : Cols → Cols) (old new : List Buffer) (left n : ℕ) → HasRoomFor old left → GainsInRoom f old new → AddsUpTo n old new
    → n ≤ left → FitsIn old (f (cols_of old))
room-for f old new left n r g few le = record {
  memory = λ k h. omega (arith, few k, le, r.memory k h, ap (λ (c : Cols). length (c k)) g.columns);
  ends = λ k h. omega (arith, few k, le, r.ends k h, ap (λ (c : Cols). length (c k)) g.columns);
}
