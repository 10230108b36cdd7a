use Rattle.std.proofs.Common.{sym, ◌∙◌, ◌≤◌, length, map, arith}
use Rattle.std.proofs.lemmas.Simd.{mask_l-mod}
use Rattle.std.proofs.lemmas.List.{length-map}
use lib.Lanes.{top}
use Rattle.nt_shred.proofs.AsciiBytes.{other_lanes, others-length, ascii-unmasked}
use Rattle.nt_shred.proofs.ascii.others_of_sixteen.Goals as goal

pub returns : goal.returns
returns c = λ none.
    let v = c.args.bytes in
    let long = c.fits-bytes.0 in
    let few : length (map (top 7) (other_lanes 16 v)) ≤ 64 =
    omega (arith, length-map (other_lanes 16 v) (top 7), others-length 16 v long) in
    ascii-unmasked 16 v long (sym (mask_l-mod (map (top 7) (other_lanes 16 v)) 64 few) ∙ none)
