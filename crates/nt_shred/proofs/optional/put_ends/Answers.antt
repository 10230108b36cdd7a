use Rattle.std.proofs.Common.{◌-◌, ◌∙◌, ap, arith}
use Rattle.nt_types.specs.ColumnTable.{bits_of}
use Rattle.nt_shred.proofs.Ends.{ends-take}
use Rattle.nt_shred.proofs.Sets.{spare-at, gains}
use Rattle.nt_shred.specs.Runs.{ends_behind}
use Rattle.nt_shred.proofs.RunOfIntegers.{ends-wide, length-ends}
use Rattle.nt_shred.proofs.optional.put_ends.Goals as goal

pub count_on-requires-clause-room : goal.count_on-requires-clause-room
count_on-requires-clause-room c =
    let n = c.args.last - c.args.before in (
      c.requires.order,
      omega (
        arith,
        spare-at c.args.out.now c.args.ends c.buffer-ends.result.now (ends_behind c.args.before n) c.buffer-ends.ensures.value
            c.requires.room,
        length-ends c.args.before n,
      ),
    )

pub count_on-requires-else-bits-eq64-clause-width : goal.count_on-requires-else-bits-eq64-clause-width
count_on-requires-else-bits-eq64-clause-width c =
    ends-wide c.args.out.now c.args.ends c.buffer-ends.result.now c.requires.column c.buffer-ends.ensures.value
    (λ is. c.if-bits-eq64.false (c.bits.ensures ∙ ap bits_of c.kind.ensures ∙ is))

pub count_on-requires-else-bits-eq64-clause-takes : goal.count_on-requires-else-bits-eq64-clause-takes
count_on-requires-else-bits-eq64-clause-takes c =
    ends-take c.args.out.now c.args.ends c.buffer-ends.result.now c.args.last c.requires.column c.buffer-ends.ensures.value c.requires.end

pub count_on-requires-else-bits-eq64-clause-room : goal.count_on-requires-else-bits-eq64-clause-room
count_on-requires-else-bits-eq64-clause-room c =
    let n = c.args.last - c.args.before in (
      c.requires.order,
      omega (
        arith,
        spare-at c.args.out.now c.args.ends c.buffer-ends.result.now (ends_behind c.args.before n) c.buffer-ends.ensures.value
            c.requires.room,
        length-ends c.args.before n,
      ),
    )

pub returns-then-bits-eq64 : goal.returns-then-bits-eq64
returns-then-bits-eq64 c =
    let n = c.args.last - c.args.before in
    gains c.args.out.now c.args.ends c.buffer-ends.result.now c.count_on.new.ends (ends_behind c.args.before n) c.buffer-ends.ensures.value
    c.count_on.ensures.column (omega (arith, c.count_on.ensures.spare, length-ends c.args.before n))

pub returns-else-bits-eq64 : goal.returns-else-bits-eq64
returns-else-bits-eq64 c =
    let n = c.args.last - c.args.before in
    gains c.args.out.now c.args.ends c.buffer-ends.result.now c.count_on-else-bits-eq64.new.ends (ends_behind c.args.before n)
    c.buffer-ends.ensures.value c.count_on-else-bits-eq64.ensures.column
    (omega (arith, c.count_on-else-bits-eq64.ensures.spare, length-ends c.args.before n))
