use Rattle.std.proofs.Common.{◌≡◌, ◌<◌, ◌^◌, map, length, arith, sym, subst}
use Rattle.std.proofs.lemmas.List.{length-map}
use Rattle.std.proofs.lemmas.List.Elements.{All-weaker}
use Rattle.nt_types.specs.ColumnTable.{bits_of}
use Rattle.nt_column.specs.Elements.{Element, numbers}
use Rattle.nt_total.specs.Keys.{key, integer_of_key, IsPieceOf}
use Rattle.nt_total.specs.Totals.{is_signed, low_of, IsOfWidth, IsTotalOf}
use Rattle.nt_total.proofs.Integers.{keys-whole, integers-keyed, widths-of}
use Rattle.nt_total.proofs.running.Running.total.Goals as goal

pub returns : goal.returns
returns c es so_far are few =
    let kind = c.args.kind in
    let ns = numbers es in
    let same : length ns ≡ length es = length-map es (λ (e : Element). e.0) in
    let widths = widths-of kind es are in
    let words = All-weaker (IsOfWidth (bits_of kind)) (λ x. x < 2 ^ 64) (λ x h. h.word) ns widths in
    let bias = c.low_of.result in
    let is : bias ≡ low_of kind = c.low_of.ensures.bias in
    let piece : IsPieceOf (map (key bias) ns) c.args.self.piece =
    subst (λ l. IsPieceOf (map (key l) ns) c.args.self.piece) (sym is) so_far.piece in
    let count : length ns ≡ c.args.self.count = omega (arith, so_far.count, same, few) in
    let keys = keys-whole bias c.args.self.count ns c.args.self.piece c.low_of.ensures.few (omega (arith, count, same, few)) count words
    piece in
    let total = c.total_of_piece.ensures (map (key bias) ns) keys in
    rw (integers-keyed (bits_of kind) (is_signed kind) ns widths)
    (subst (λ l. IsTotalOf (map (integer_of_key l) (map (key l) ns)) c.total_of_piece.result) is total)
