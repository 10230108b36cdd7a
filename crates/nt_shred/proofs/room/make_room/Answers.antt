use Rattle.std.proofs.Common.{arith}
use Rattle.nt_shred.proofs.Sets.{same-length, frame-kept}
use Rattle.nt_shred.proofs.Ends.{grown-next, grown-ends}
use Rattle.nt_shred.proofs.RoomLeft.{have-next, have-all}
use Rattle.nt_shred.proofs.room.make_room.Goals as goal

pub loop-column-preserved : goal.loop-column-preserved
loop-column-preserved c =
    let v = c.loop-column.invariant in
    record {
      grown = grown-next c.args.out.now c.loop-column.out c.reserve_column.new.out c.args.more c.loop-column.column v.grown
          c.reserve_column.ensures.columns c.reserve_column.ensures.kept c.in_ok-reserve_column.ensures.ok;
      room = have-next c.loop-column.out c.reserve_column.new.out c.loop-column.room c.room_in.result c.min-room.result c.loop-column.column
          c.reserve_column.ensures.columns c.reserve_column.ensures.kept v.room c.room_in.ensures
          (omega (arith, c.min-room.ensures)) (omega (arith, c.min-room.ensures));
    }

pub returns-then-room-more-clause-ok : goal.returns-then-room-more-clause-ok
returns-then-room-more-clause-ok c =
    let now = c.loop-column.out in
    let same = same-length c.args.out.now now (frame-kept c.args.out.now now c.loop-column.invariant.grown.same) in (
      have-all c.loop-column.out c.loop-column.room c.loop-column.column c.loop-column.invariant.room (omega (arith, c.if-room-more.true))
          (omega (arith, same, c.columns-column-end.ensures, c.loop-column-test.false)),
      omega (arith, c.if-room-more.true),
    )

pub returns-clause-ok : goal.returns-clause-ok
returns-clause-ok c =
    let now = c.loop-column.out in
    let same = same-length c.args.out.now now (frame-kept c.args.out.now now c.loop-column.invariant.grown.same) in (
      grown-ends c.args.out.now c.loop-column.out c.args.more c.loop-column.column c.loop-column.invariant.grown
          (omega (arith, same, c.columns-column-end.ensures, c.loop-column-test.false)),
      omega arith,
    )
