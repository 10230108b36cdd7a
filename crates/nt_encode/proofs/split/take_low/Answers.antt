use Rattle.std.proofs.Common.{◌≡◌, ℕ, ◌+◌, ◌*◌, ◌%◌, ◌^◌, length, sym, ◌∙◌, ap, arith}
use Rattle.nt_encode.specs.Delta.{delta_value}
use Rattle.nt_encode.specs.Split.{split_value, split_values}
use Rattle.nt_encode.proofs.Deltas.{total-more}
use Rattle.nt_encode.proofs.Lists.{Filled-set, length-list_of, list_of_whole}
use Rattle.nt_encode.proofs.split.take_low.Goals as goal

pub loop-i-preserved : goal.loop-i-preserved
loop-i-preserved c =
    let k = c.args.width.bytes in
    let n : ℕ = length c.args.out.now in
    let words = split_values k n c.args.bytes.now in
    let size : length words ≡ n = length-list_of n (split_value k n c.args.bytes.now) in
    let here : c.sum_within-total.result ≡ delta_value (8 * k) words c.loop-i.i =
    c.sum_within-total.ensures ∙ ap (λ (x : ℕ). (c.loop-i.total + x) % 2 ^ (8 * k)) c.low_word.ensures.word
    ∙ total-more (8 * k) words c.loop-i.i c.loop-i.total (omega (arith, size)) c.loop-i.invariant.1 in (
      Filled-set c.loop-i.out c.loop-i.i c.sum_within-total.result (delta_value (8 * k) words) c.loop-i.invariant.0 (omega arith) here,
      here,
    )

pub returns : goal.returns
returns c =
    let k = c.args.width.bytes in
    let n : ℕ = length c.args.out.now in
    let words = split_values k n c.args.bytes.now in
    let size : length words ≡ n = length-list_of n (split_value k n c.args.bytes.now) in
    let same : length c.loop-i.out ≡ n = c.loop-i.auto.out in
    rw same (list_of_whole c.loop-i.out (length words) c.loop-i.i (delta_value (8 * k) words) (same ∙ sym size) c.loop-i.invariant.0
    (omega (arith, size)))
