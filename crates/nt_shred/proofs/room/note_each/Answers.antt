use Rattle.std.proofs.Common.{◌∙◌, arith}
use Rattle.std.proofs.lemmas.List.{length-set}
use Rattle.nt_shred.proofs.RoomLeft.{noted-next, noted-all}
use Rattle.nt_shred.proofs.room.note_each.Goals as goal

pub loop-column-preserved : goal.loop-column-preserved
loop-column-preserved c =
    let v = c.loop-column.invariant in
    record {
      long = length-set c.loop-column.marks c.loop-column.column c.len.result ∙ v.long;
      noted = noted-next c.loop-column.marks c.args.out.now c.loop-column.column c.column.result.now c.len.result v.long c.column.ensures
          c.len.ensures v.noted;
    }

pub returns : goal.returns
returns c =
    noted-all c.loop-column.marks c.args.out.now c.loop-column.column c.loop-column.invariant.long (omega (arith, c.loop-column-test.false))
    c.loop-column.invariant.noted
