use Rattle.std.proofs.Common.{arith}
use Rattle.nt_reader.specs.Columns.{given_entries}
use Rattle.nt_generate.proofs.AddedEntries.{length-given, sum-next, sum-whole}
use Rattle.nt_generate.proofs.clusters.add_entries.Goals as goal

pub loop-i-preserved : goal.loop-i-preserved
loop-i-preserved c = (
  omega (arith, c.add_entry-total.ensures),
  sum-next (given_entries c.args.cluster.now) c.loop-i.i _ c.args.sum c.loop-i.total _ c.in_ok-entry.ensures c.loop-i.invariant.1
      c.add_entry-total.ensures,
)

pub returns : goal.returns
returns c =
    sum-whole (given_entries c.args.cluster.now) c.loop-i.i c.args.sum c.loop-i.total
    (omega (arith, length-given c.args.cluster.now, c.loop-i-test.false, c.entries-i-end.ensures, c.loop-i.auto.i-end))
    c.loop-i.invariant.1
