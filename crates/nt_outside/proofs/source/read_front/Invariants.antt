use Rattle.std.proofs.Common.{◌≡◌, ◌<◌, ◌≤◌, ℕ, List, length}
use Rattle.std.specs.Io.KnownBytes.{Consumes}
use Rattle.nt_outside.specs.Source.{SourceState}
use Rattle.nt_outside.proofs.source.read_front.Given as goal

-- the bytes so far were taken from the front, at least one in each turn, no read failed, and more may come
pub record Gathered (before now : SourceState) (turns most room : ℕ) (bytes : List ℕ) : Type 0 where
  pub taken : Consumes before.left now.left bytes
  pub faults : now.faults ≡ before.faults
  pub turns_made : turns ≤ length bytes
  pub few : length bytes ≤ most
  pub some_room : 0 < room

abbrev pub invariant-loop : goal.invariant-loop
invariant-loop g l =
    let state = g.S.Source.state in
    Gathered (state l.initial.source) (state l.source) l.counter l.most (length l.piece.items) l.bytes.items
