use Rattle.std.proofs.Common.{◌≡◌, map, length, arith, subst}
use Rattle.std.proofs.lemmas.List.{length-map}
use Rattle.nt_column.specs.Elements.{Element, numbers}
use Rattle.nt_total.specs.Keys.{key, IsPieceOf}
use Rattle.nt_total.proofs.Blocks.{added}
use Rattle.nt_total.proofs.running.Running.with_column.Goals as goal

pub returns : goal.returns
returns g c ns so_far =
    let es = g.C.Columns.elements c.args.columns.now c.args.column in
    let same : length (numbers es) ≡ length es = length-map es (λ (e : Element). e.0) in
    let piece = subst (λ l. IsPieceOf (map (key l) (numbers es)) c.keys_in_parallel-piece.result) c.low_of.ensures.bias
    c.keys_in_parallel-piece.ensures in
    added ns (numbers es) _ c.args.self _ c.keys_in_parallel-piece.result (omega (arith, same, c.len.ensures)) piece
    c.join.ensures so_far
