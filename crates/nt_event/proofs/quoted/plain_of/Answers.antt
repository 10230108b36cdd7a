use Rattle.std.proofs.Common.{sym, ◌∙◌, ◌≤◌, length, map, subst, arith}
use Rattle.std.proofs.lemmas.Simd.{mask_l-mod}
use Rattle.std.proofs.lemmas.List.{length-map, take_all}
use lib.Lanes.{top}
use Rattle.nt_event.specs.Plain.{AllPlain}
use Rattle.nt_event.proofs.Plain.{stop_lanes, lanes-length, plain-unmasked, stops-before}
use Rattle.nt_event.proofs.quoted.plain_of.Goals as goal

pub returns-then-stops-eq0-clause-plain : goal.returns-then-stops-eq0-clause-plain
returns-then-stops-eq0-clause-plain c =
    let v = c.args.bytes in
    let long = c.fits-bytes.0 in
    let few : length (map (top 7) (stop_lanes 8 v)) ≤ 64 = omega (arith, length-map (stop_lanes 8 v) (top 7), lanes-length 8 v long) in
    subst AllPlain (sym (take_all 8 v (omega (arith, long))))
    (plain-unmasked 8 v long (sym (mask_l-mod (map (top 7) (stop_lanes 8 v)) 64 few) ∙ c.if-stops-eq0.true))

pub returns-else-stops-eq0-clause-plain : goal.returns-else-stops-eq0-clause-plain
returns-else-stops-eq0-clause-plain c = (stops-before c.args.bytes c.fits-bytes.0 c.if-stops-eq0.false).1

pub returns-else-stops-eq0-clause-few : goal.returns-else-stops-eq0-clause-few
returns-else-stops-eq0-clause-few c = (stops-before c.args.bytes c.fits-bytes.0 c.if-stops-eq0.false).0
