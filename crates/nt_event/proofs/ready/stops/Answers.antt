use Rattle.std.proofs.Common.{sym, ◌∙◌, ◌≤◌, length, map, arith}
use Rattle.std.proofs.lemmas.Simd.{mask_l-mod}
use Rattle.std.proofs.lemmas.List.{length-map}
use lib.Lanes.{top}
use Rattle.nt_event.proofs.InnerBytes.{stop_lanes, lanes-length, inner-unmasked, stops-behind}
use Rattle.nt_event.proofs.ready.stops.Goals as goal

pub returns-clause-none : goal.returns-clause-none
returns-clause-none c = λ none.
    let v = c.args.bytes in
    let long = c.fits-bytes.0 in
    let few : length (map (top 7) (stop_lanes 16 v)) ≤ 64 = omega (arith, length-map (stop_lanes 16 v) (top 7), lanes-length 16 v long) in
    inner-unmasked 16 v long (sym (mask_l-mod (map (top 7) (stop_lanes 16 v)) 64 few) ∙ none)

pub returns-clause-first : goal.returns-clause-first
returns-clause-first c = λ some. stops-behind c.args.bytes c.fits-bytes.0 some
