use Rattle.std.proofs.Common.{◌≡◌, ◌∙◌, rules, arith}
use Rattle.std.specs.Prelude.{is_some}
use Rattle.nt_grammar.specs.Open.{open_shape}
use Rattle.nt_skim.proofs.Places.{place-stays, place-counts}
use Rattle.nt_skim.proofs.planning.place_of.Goals.{then-is_some, else-is_some}
use Rattle.nt_skim.proofs.planning.place_of.Goals as goal

pub loop-k-preserved : goal.loop-k-preserved
loop-k-preserved c =
    let same : c.is_some.result ≡ is_some (open_shape c.args.schema.now c.loop-k.k) = search (rules, c.is_some.ensures, c.shape.ensures) in
    elim c.if-is_some.branch [
      | then-is_some w ↦ record {
        few = omega (arith, w.place-is, c.loop-k.invariant.few);
        counted = place-counts c.args.schema.now c.loop-k.k c.loop-k.place c.if-is_some.place c.is_some.result c.loop-k.invariant.counted
            same w.if-is_some.true w.place-is;
      }
      | else-is_some w ↦ record {
        few = omega (arith, w.place-is, c.loop-k.invariant.few);
        counted = w.place-is ∙ place-stays c.args.schema.now c.loop-k.k c.loop-k.place c.is_some.result c.loop-k.invariant.counted same
            w.if-is_some.false;
      }
    ]
