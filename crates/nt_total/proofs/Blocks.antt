-- Numbers that are read one part behind the other, and what is added to what there was.
use Rattle.std.proofs.Common.{◌≡◌, ℕ, ◌+◌, ◌-◌, ◌%◌, ◌^◌, ◌≤◌, List, [], ◌++◌, map, length, drop, refl}
use Rattle.std.proofs.Common.{arith}
use Rattle.std.specs.List.{slice_range}
use Rattle.std.proofs.Math.Seq.{take-add}
use Rattle.std.proofs.lemmas.List.{map-append, length-append, drop-drop}
use Rattle.nt_total.specs.declared.piece.Piece.{Piece}
use Rattle.nt_total.specs.declared.running.Running.{Running}
use Rattle.nt_total.specs.Keys.{key, IsPieceOf, IsJoinOf}
use Rattle.nt_total.specs.Running.{IsSoFar}
use Rattle.nt_total.proofs.Pieces.{piece-join}

-- numbers behind others
pub added : (ns more : List ℕ) (bias : ℕ) (old new : Running) (b : Piece) → new.count ≡ (old.count + length more) % 2 ^ 64
    → IsPieceOf (map (key bias) more) b → IsJoinOf old.piece b new.piece → IsSoFar ns bias old → IsSoFar (ns ++ more) bias new
added ns more bias old new b c p j s = record {
  count = omega (arith, length-append ns more, s.count, c);
  piece = rw (map-append (key bias) ns more) (piece-join (map (key bias) ns) (map (key bias) more) old.piece b new.piece s.piece p j);
}

-- so many numbers from a place on were read, of so many
pub record IsPartDone (ns : List ℕ) (bias from count done : ℕ) (p : Piece) : Type 0 where
  pub few : done ≤ count
  pub piece : IsPieceOf (map (key bias) (slice_range ns from (from + done))) p

pub part-none : (ns : List ℕ) (bias from count : ℕ) (p : Piece) → IsPieceOf [] p → IsPartDone ns bias from count 0 p
part-none ns bias from count p h =
    let none : from + 0 - from ≡ 0 = omega arith in
    record { few = omega arith; piece = rw none h }

-- a range, and that behind it
ranges : (ns : List ℕ) (a b c : ℕ) → a ≤ b → b ≤ c → slice_range ns a c ≡ slice_range ns a b ++ slice_range ns b c
ranges ns a b c le le' =
    let all : c - a ≡ (b - a) + (c - b) = omega (arith, le, le') in
    let at : a + (b - a) ≡ b = omega (arith, le) in
    rw (all, take-add (b - a) (c - b) (drop a ns), drop-drop (b - a) a ns, at) refl

pub part-more : (ns : List ℕ) (bias from count done some : ℕ) (p q r : Piece) → IsPartDone ns bias from count done p
    → done + some ≤ count → IsPieceOf (map (key bias) (slice_range ns (from + done) (from + done + some))) q → IsJoinOf p q r
    → IsPartDone ns bias from count (done + some) r
part-more ns bias from count done some p q r h few more j =
    let end : from + (done + some) ≡ from + done + some = omega arith in
    let both = ranges ns from (from + done) (from + done + some) (omega arith) (omega arith) in
    record {
      few = few;
      piece = rw (end, both, map-append (key bias) (slice_range ns from (from + done)) (slice_range ns (from + done) (from + done + some)))
          (piece-join _ _ p q r h.piece more j);
    }
