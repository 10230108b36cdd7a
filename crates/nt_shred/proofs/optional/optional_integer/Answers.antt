use Rattle.std.proofs.Common.{◌-◌, length, arith}
use Rattle.nt_plans.specs.Plan.{number}
use Rattle.nt_shred.proofs.OptionalSteps.{maybe-inside}
use Rattle.nt_shred.proofs.OptionalRuns.{count-fits, null-put}
use Rattle.nt_shred.proofs.OptionalValue.{end-room, next-ends, next-below, next-room, next-put}
use Rattle.nt_shred.proofs.optional.optional_integer.Goals as goal

pub push_end-requires-clause-end : goal.push_end-requires-clause-end
push_end-requires-clause-end c =
    let of = c.args.of in
    omega (
      arith,
      c.len-before.ensures,
      count-fits c.args.ends of.column of.bits of.signed c.args.line.now c.args.at c.args.out.now c.requires.can,
    )

pub push_end-requires-clause-room : goal.push_end-requires-clause-room
push_end-requires-clause-room c =
    let of = c.args.of in
    end-room c.args.ends of.column of.bits of.signed c.args.line.now c.args.at c.args.out.now c.requires.can c.len-before.result
    (omega (arith, c.in-Some.ensures.some, c.in-Some.ensures.within))

pub returns-in-Some : goal.returns-in-Some
returns-in-Some c =
    let of = c.args.of in
    null-put c.args.ends of.column of.bits of.signed c.args.line.now c.args.at c.args.out.now c.requires.can c.in-Some.end
    c.len-before.result c.push_end.new.out c.in-Some.ensures c.len-before.ensures c.push_end.ensures

pub integer_in_place-requires-clause-can : goal.integer_in_place-requires-clause-can
integer_in_place-requires-clause-can c =
    let of = c.args.of in
    maybe-inside c.args.ends (number of.column of.bits of.signed) (length c.args.line.now - c.args.at) c.args.out.now c.requires.can

pub push_end-requires-2-clause-column : goal.push_end-requires-2-clause-column
push_end-requires-2-clause-column c =
    let of = c.args.of in
    next-ends c.args.ends of.column of.bits of.signed c.args.line.now c.args.at c.args.out.now c.requires.can c.in_ok-end.end
    c.integer_in_place.new.out c.in_ok-end.ensures

pub push_end-requires-2-clause-end : goal.push_end-requires-2-clause-end
push_end-requires-2-clause-end c =
    let of = c.args.of in
    next-below c.args.ends of.column of.bits of.signed c.args.line.now c.args.at c.args.out.now c.requires.can c.in_ok-end.end
    c.integer_in_place.new.out c.in_ok-end.ensures c.len-before.result c.len-before.ensures

pub push_end-requires-2-clause-room : goal.push_end-requires-2-clause-room
push_end-requires-2-clause-room c =
    let of = c.args.of in
    next-room c.args.ends of.column of.bits of.signed c.args.line.now c.args.at c.args.out.now c.requires.can c.in_ok-end.end
    c.integer_in_place.new.out c.in_ok-end.ensures c.len-before.result c.len-before.ensures

pub returns : goal.returns
returns c =
    let of = c.args.of in
    next-put c.args.ends of.column of.bits of.signed c.args.line.now c.args.at c.args.out.now c.requires.can c.in_ok-end.end
    c.integer_in_place.new.out c.in_ok-end.ensures c.len-before.result c.push_end-2.new.out c.len-before.ensures c.push_end-2.ensures
