-- the first columns have room for more, and for as many as was seen
use Rattle.nt_shred.proofs.Ends.{AreGrown}
use Rattle.nt_shred.proofs.RoomLeft.{HaveRoom}
use Rattle.nt_shred.proofs.room.make_room.Given as goal

abbrev pub invariant-loop-column : goal.invariant-loop-column
invariant-loop-column l = record {
  grown : AreGrown l.fn.out l.out l.more l.column;
  room : HaveRoom l.out l.room l.column;
}
