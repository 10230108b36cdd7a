use Rattle.std.proofs.Common.{◌+◌, ◌∙◌, ap, length, arith}
use Rattle.std.proofs.lemmas.List.{length_push}
use Rattle.nt_reader.proofs.KnownSteps.{known-more}
use Rattle.nt_reader.proofs.known.known_columns.Goals as goal

pub loop-id-preserved : goal.loop-id-preserved
loop-id-preserved c = record {
  len = ap (λ l. length l) c.in_ok-push.ensures.items ∙ length_push c.loop-id.columns.items c.known_column.result
      ∙ ap (λ n. n + 1) c.loop-id.invariant.len;
  known = known-more c.args.schema.now c.loop-id.id c.loop-id.columns.items c.push.new.self.items _ c.known_column.result
      (omega (arith, c.loop-id-test.true, c.columns-id-end.ensures))
      c.known_column.ensures c.in_ok-push.ensures.items c.loop-id.invariant.known;
}
