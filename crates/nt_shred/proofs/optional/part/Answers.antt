use Rattle.std.proofs.Common.{◌-◌, length, arith, subst, sym}
use Rattle.nt_plans.specs.Plan.{number}
use Rattle.nt_shred.specs.Frame.{IsEnds}
use Rattle.nt_shred.proofs.OptionalSteps.{maybe-inside}
use Rattle.nt_shred.proofs.OptionalRuns.{count-fits, null-put, mid-values, mid-fits, mid-room, run-put}
use Rattle.nt_shred.proofs.OptionalValue.{one-run, end-room}
use Rattle.nt_shred.proofs.optional.part.Goals as goal

pub push_end-requires-clause-end : goal.push_end-requires-clause-end
push_end-requires-clause-end c =
    let of = c.args.of in
    omega (
      arith,
      c.len-before.ensures,
      count-fits c.args.ends of.column of.bits of.signed c.args.line.now c.args.at c.args.out.now c.requires.can,
    )

pub push_end-requires-clause-room : goal.push_end-requires-clause-room
push_end-requires-clause-room c =
    let of = c.args.of in
    end-room c.args.ends of.column of.bits of.signed c.args.line.now c.args.at c.args.out.now c.requires.can c.len-before.result
    (omega (arith, c.in-Some.ensures.some, c.in-Some.ensures.within))

pub returns-in-Some : goal.returns-in-Some
returns-in-Some c =
    let of = c.args.of in
    one-run c.args.ends of.column of.bits of.signed c.args.line.now c.args.at c.in-Some.end c.args.out.now c.push_end.new.out
    (null-put c.args.ends of.column of.bits of.signed c.args.line.now c.args.at c.args.out.now c.requires.can c.in-Some.end
    c.len-before.result c.push_end.new.out c.in-Some.ensures c.len-before.ensures c.push_end.ensures)

pub put_run-requires-clause-can : goal.put_run-requires-clause-can
put_run-requires-clause-can c =
    let of = c.args.of in
    maybe-inside c.args.ends (number of.column of.bits of.signed) (length c.args.line.now - c.args.at) c.args.out.now c.requires.can

pub put_ends-requires-clause-order : goal.put_ends-requires-clause-order
put_ends-requires-clause-order c =
    let of = c.args.of in
    omega (
      arith,
      c.len-before.ensures,
      c.len-last.ensures,
      mid-values c.args.ends of.column of.bits of.signed c.args.line.now c.args.at c.args.out.now c.requires.can c.in_ok-end.end
          c.put_run.new.out c.in_ok-end.ensures,
    )

pub put_ends-requires-clause-column : goal.put_ends-requires-clause-column
put_ends-requires-clause-column c =
    subst (λ fr. IsEnds fr c.args.ends) (sym c.in_ok-end.ensures.gains.frame) c.requires.can.takes.0

pub put_ends-requires-clause-end : goal.put_ends-requires-clause-end
put_ends-requires-clause-end c =
    let of = c.args.of in
    omega (
      arith,
      c.len-last.ensures,
      mid-fits c.args.ends of.column of.bits of.signed c.args.line.now c.args.at c.args.out.now c.requires.can c.in_ok-end.end
          c.put_run.new.out c.in_ok-end.ensures,
    )

pub put_ends-requires-clause-room : goal.put_ends-requires-clause-room
put_ends-requires-clause-room c =
    let of = c.args.of in
    mid-room c.args.ends of.column of.bits of.signed c.args.line.now c.args.at c.args.out.now c.requires.can c.in_ok-end.end
    c.put_run.new.out c.in_ok-end.ensures c.len-before.result c.len-last.result c.len-before.ensures c.len-last.ensures

pub returns : goal.returns
returns c =
    let of = c.args.of in
    run-put c.args.ends of.column of.bits of.signed c.args.line.now c.args.at c.args.out.now c.requires.can c.in_ok-end.end
    c.put_run.new.out c.in_ok-end.ensures c.len-before.result c.len-last.result c.put_ends.new.out c.len-before.ensures
    c.len-last.ensures c.put_ends.ensures
