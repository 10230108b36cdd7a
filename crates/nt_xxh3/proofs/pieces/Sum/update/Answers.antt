use Rattle.std.proofs.Common.{◌≡◌, ℕ, ◌++◌, length, List, arith, ap, length-append}
use Rattle.std.proofs.lemmas.List.{take-append-drop, append_assoc}
use Rattle.nt_xxh3.specs.Pieces.{WasGiven, IsSplit}
use Rattle.nt_xxh3.proofs.Kept.{IsKept_extend}
use Rattle.nt_xxh3.proofs.pieces.Sum.update.Goals as goal

pub returns-then-piece-room-clause-holds : goal.returns-then-piece-room-clause-holds
unfolding WasGiven
returns-then-piece-room-clause-holds c = λ m held.
    let window : List ℕ = c.args.self.now.window in
    let piece : List ℕ = c.args.piece.now in (
      rw c.extend.ensures (IsKept_extend _ window m piece _ c.args.self.now.begun held.0),
      λ some. omega (arith, held.1 some, length-append m piece),
      λ some. omega (arith, held.2 some, ap length c.extend.ensures, length-append window piece),
    )

pub returns-clause-holds : goal.returns-clause-holds
unfolding WasGiven
returns-clause-holds c = λ m held.
    let window : List ℕ = c.args.self.now.window in
    let piece : List ℕ = c.args.piece.now in
    let front : List ℕ = c.split_at.result.0.now in
    let joined : front ++ c.split_at.result.1.now ≡ piece =
    rw (c.split_at.ensures.front, c.split_at.ensures.back) (take-append-drop _ piece) in
    let longer : IsSplit c.args.self.now.lanes.words c.args.self.now.lanes.taken c.extend-2.new.self (m ++ front) =
    rw c.extend-2.ensures (IsKept_extend _ window m front _ c.args.self.now.begun held.0) in
    let all = c.take_rest.ensures.keeps (m ++ front) (c.take_window.ensures.keeps (m ++ front) longer) in (
      rw (append_assoc, joined) at all,
      λ some. omega (arith, held.0.count, length-append m piece),
      λ some. c.take_rest.ensures.window,
    )
