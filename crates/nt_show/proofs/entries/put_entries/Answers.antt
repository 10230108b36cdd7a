use Rattle.std.proofs.Common.{◌∙◌, sym, refl, arith}
use Rattle.nt_show.specs.Ranges.{entry_lines, in_range}
use Rattle.nt_reader.specs.Columns.{given_entries}
use Rattle.nt_show.proofs.Gathering.{gathers_part}
use Rattle.nt_show.proofs.ClusterLines.{length-given, none_gathered, some_gathered, some_in_part, part_of_range, whole_range}
use Rattle.nt_show.proofs.entries.put_entries.Goals as goal

pub loop-i-init : goal.loop-i-init
loop-i-init g c = record {
  low = omega arith;
  high = c.within-from.ensures.order.0;
  gathers = none_gathered (given_entries c.args.cluster.now) c.within-from.result.0 _ _;
  later = omega arith;
  rest = record { asked = refl; err_faults = refl; opened = refl };
}

pub returns-in_err-i-clause-part : goal.returns-in_err-i-clause-part
returns-in_err-i-clause-part g c =
    let v = c.loop-i.invariant in
    let entries = given_entries c.args.cluster.now in
    let from = c.within-from.result.0 in
    let to = c.within-from.result.1 in
    part_of_range c.args.range.now entries from to to _ _ c.args.waiting.now.items
    (c.within-from.ensures.range entries (length-given c.args.cluster.now ∙ sym c.entries.ensures)) c.within-from.ensures.order.0
    (omega arith)
    (some_in_part entries from c.loop-i.i to _ _ _ c.args.waiting.now.items _ v.low (omega (arith, c.loop-i-test.true)) v.gathers
    c.in_err-i.ensures.part)

pub loop-i-preserved : goal.loop-i-preserved
loop-i-preserved g c =
    let v = c.loop-i.invariant in
    let more = c.in_ok-i.ensures in
    record {
      low = omega (arith, v.low, more.ok.0);
      high = more.ok.1;
      gathers = some_gathered (given_entries c.args.cluster.now) c.within-from.result.0 c.loop-i.i c.in_ok-i.i _ _ _
          c.args.waiting.now.items _ _ v.low (omega (arith, more.ok.0)) v.gathers more.ok.2;
      later = omega (arith, v.later, more.cause.later);
      rest = record {
        asked = more.rest.asked ∙ v.rest.asked;
        err_faults = more.rest.err_faults ∙ v.rest.err_faults;
        opened = more.rest.opened ∙ v.rest.opened;
      };
    }

pub returns-clause-ok : goal.returns-clause-ok
returns-clause-ok g c =
    let entries = given_entries c.args.cluster.now in
    whole_range c.args.range.now entries c.within-from.result.0 c.within-from.result.1 c.loop-i.i _ _ c.args.waiting.now.items _
    (c.within-from.ensures.range entries (length-given c.args.cluster.now ∙ sym c.entries.ensures))
    (omega (arith, c.loop-i-test.false, c.loop-i.invariant.high)) c.loop-i.invariant.gathers

pub returns-clause-part : goal.returns-clause-part
returns-clause-part g c =
    let entries = given_entries c.args.cluster.now in
    gathers_part (entry_lines (in_range c.args.range.now entries)) _ _ c.args.waiting.now.items _
    (whole_range c.args.range.now entries c.within-from.result.0 c.within-from.result.1 c.loop-i.i _ _ c.args.waiting.now.items _
    (c.within-from.ensures.range entries (length-given c.args.cluster.now ∙ sym c.entries.ensures))
    (omega (arith, c.loop-i-test.false, c.loop-i.invariant.high)) c.loop-i.invariant.gathers)
