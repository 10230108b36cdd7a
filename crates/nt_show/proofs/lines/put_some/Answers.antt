use Rattle.std.proofs.Common.{arith}
use Rattle.nt_reader.specs.Columns.{given_entries}
use Rattle.nt_show.proofs.Gathering.{pushed_then, pushed_in_part}
use Rattle.nt_show.proofs.ClusterLines.{part_of_part}
use Rattle.nt_show.proofs.lines.put_some.Goals as goal

pub returns-in_err-print_many-clause-part : goal.returns-in_err-print_many-clause-part
returns-in_err-print_many-clause-part g c =
    part_of_part (given_entries c.args.cluster.now) c.args.part.0 c.in_ok-next.next c.args.part.1 _ _ c.args.waiting.now.items
    (omega (arith, c.in_ok-next.ensures.next.0)) c.in_ok-next.ensures.next.1
    (pushed_in_part _ _ _ c.args.waiting.now.items _ c.in_ok-next.ensures.ok c.in_err-print_many.ensures.part)

pub returns-clause-ok : goal.returns-clause-ok
returns-clause-ok g c = (
  c.in_ok-next.ensures.next.0,
  c.in_ok-next.ensures.next.1,
  pushed_then _ _ _ c.args.waiting.now.items _ _ c.in_ok-next.ensures.ok c.in_ok-print_many.ensures.ok,
)

pub returns-clause-part : goal.returns-clause-part
returns-clause-part g c =
    part_of_part (given_entries c.args.cluster.now) c.args.part.0 c.in_ok-next.next c.args.part.1 _ _ c.args.waiting.now.items
    (omega (arith, c.in_ok-next.ensures.next.0)) c.in_ok-next.ensures.next.1
    (pushed_in_part _ _ _ c.args.waiting.now.items _ c.in_ok-next.ensures.ok c.in_ok-print_many.ensures.part)
