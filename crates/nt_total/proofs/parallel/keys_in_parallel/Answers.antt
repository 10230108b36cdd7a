use Rattle.std.proofs.Common.{◌≡◌, ◌*◌, ◌<◌, ◌-◌, ℕ, map, length, sym, ap, subst, ◌∙◌, arith}
use Rattle.std.specs.Int.{div_ceil}
use Rattle.std.specs.List.{range_with_len, flat_map}
use Rattle.std.proofs.Crossing.{crosses}
use Rattle.std.proofs.lemmas.List.{length-map}
use denote.Param.Send.{sendable}
use Rattle.rayon.specs.Numbers.{nat_range}
use Rattle.rayon.proofs.ToStd.{nat_range-All}
use Rattle.nt_lists.specs.Chunks.{chunk, chunks}
use Rattle.nt_lists.proofs.Groups.{length-chunks, chunk-begins}
use Rattle.nt_column.specs.Elements.{Element, numbers}
use Rattle.nt_total.specs.Keys.{key, IsPieceOf}
use Rattle.nt_total.proofs.Joining.{reduced, map-of_chunks}
use Rattle.nt_total.proofs.parallel.keys_in_parallel.Goals as goal

pub reduce-requires-clause-ready : goal.reduce-requires-clause-ready
reduce-requires-clause-ready g c κs within =
    let ends = c.into_par_iter.ensures in
    let es = g.C.Columns.elements c.args.columns.now c.args.column in
    let xs = numbers es in
    let same : length xs ≡ length es = length-map es (λ (e : Element). e.0) in
    let blocks : c.div_ceil-blocks.result ≡ length (chunks 512 xs) =
    c.div_ceil-blocks.ensures ∙ ap (λ (n : ℕ). div_ceil n 512) (c.len.ensures ∙ sym same) ∙ sym (length-chunks 512 xs) in
    let inside = nat_range-All (λ i. i * 512 < length es) 0 c.div_ceil-blocks.result
    (λ i bias high. omega (arith, same, chunk-begins 512 xs i (omega arith) (omega (arith, high, blocks)))) in
    rw (c.map.ensures.base, c.map.ensures.f, c.with_min_len.ensures.base, ends.0, ends.1)
    (λ k d lt. (((c.requires, inside k d lt), search (sendable, crosses) depth 40), λ y p. tt))

pub returns : goal.returns
returns g c =
    let done = c.reduce.ensures in
    let ends = c.into_par_iter.ensures in
    let es = g.C.Columns.elements c.args.columns.now c.args.column in
    let xs = numbers es in
    let same : length xs ≡ length es = length-map es (λ (e : Element). e.0) in
    let f = λ (i : ℕ). map (key c.args.bias) (chunk 512 xs i) in
    let chain = rw (c.map.ensures.base, c.map.ensures.f, c.with_min_len.ensures.base) at done.1 in
    let n = c.div_ceil-blocks.result in
    let whole : n - 0 ≡ n = omega arith in
    let blocks : n ≡ div_ceil (length xs) 512 = c.div_ceil-blocks.ensures ∙ ap (λ (m : ℕ). div_ceil m 512) (c.len.ensures ∙ sym same) in
    let is = chain.1 ∙ (λ i. nat_range (ends.0 i) (ends.1 i)) ∙ ap (range_with_len 0) (whole ∙ blocks) in
    let total = reduced f chain.0 done.0 c.reduce.result chain.2 done.2 in
    subst (λ l. IsPieceOf l c.reduce.result) (ap (flat_map f) is ∙ map-of_chunks (key c.args.bias) 512 xs (omega arith)) total
