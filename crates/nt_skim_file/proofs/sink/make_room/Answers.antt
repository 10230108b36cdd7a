use Rattle.std.proofs.Common.{◌≡◌, ◌<◌, length, arith, rules}
use Rattle.nt_seq.specs.Writer.{gathered_by}
use Rattle.nt_skim_file.proofs.Takings.{room_made, room_less, room_stays, room_there}
use Rattle.nt_skim_file.proofs.sink.make_room.Goals as goal

pub returns-then-full-clause-room : goal.returns-then-full-clause-room
returns-then-full-clause-room g c es taken =
    let some : 0 < c.args.writer.now.params.cluster = omega (arith, c.args.writer.now.params.cluster_range.0) in
    let whole : length (gathered_by c.args.writer.now) ≡ c.args.writer.now.params.cluster = c.if-full.ensures.0 (search rules) in
    room_made g.D.Disk.state c.args.writer.now c.flush.new.self some c.requires.alive es c.flush.result whole c.keeps.ensures.book
    (c.keeps.ensures.writer.writing c.requires.alive) c.flush.ensures.flushes taken

pub returns-then-full-clause-less : goal.returns-then-full-clause-less
returns-then-full-clause-less g c =
    let some : 0 < c.args.writer.now.params.cluster = omega (arith, c.args.writer.now.params.cluster_range.0) in
    room_less g.D.Disk.state c.args.writer.now c.flush.new.self some c.requires.alive c.flush.result c.flush.ensures.flushes

pub returns-then-full-clause-stays : goal.returns-then-full-clause-stays
returns-then-full-clause-stays g c =
    let some : 0 < c.args.writer.now.params.cluster = omega (arith, c.args.writer.now.params.cluster_range.0) in
    room_stays g.D.Disk.state c.args.writer.now c.flush.new.self some c.requires.alive c.flush.result c.requires.few
    c.flush.ensures.flushes

pub returns-clause-stays : goal.returns-clause-stays
returns-clause-stays g c = room_there g.D.Disk.state c.args.writer.now c.requires.alive c.requires.few
