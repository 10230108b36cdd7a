use Rattle.std.proofs.Common.{◌≡◌, ℕ, ◌+◌, arith, subst, map}
use Rattle.std.specs.List.{slice_range}
use Rattle.nt_column.specs.Elements.{numbers}
use Rattle.nt_total.specs.Keys.{key, IsPieceOf}
use Rattle.nt_total.proofs.Blocks.{part-none, part-more}
use Rattle.nt_total.proofs.parallel.read_piece.Goals as goal

pub loop-done-init : goal.loop-done-init
loop-done-init g c = part-none _ c.args.bias _ _ _ c.none-whole.ensures

pub loop-done-preserved : goal.loop-done-preserved
loop-done-preserved g c =
    part-more _ c.args.bias _ _ c.loop-done.done _ _ _ _ c.loop-done.invariant (omega (arith, c.some_piece-some.ensures.some))
    c.some_piece-some.ensures.piece c.join-whole.ensures

pub returns : goal.returns
returns g c =
    let ns = numbers (g.C.Columns.elements c.args.columns.now c.args.column) in
    let end : c.args.from + c.loop-done.done ≡ c.args.to =
    omega (arith, c.requires.block.0, c.loop-done.invariant.few, c.loop-done-test.false) in
    subst (λ (n : ℕ). IsPieceOf (map (key c.args.bias) (slice_range ns c.args.from n)) c.loop-done.whole) end c.loop-done.invariant.piece
