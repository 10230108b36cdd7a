use Rattle.std.proofs.Common.{◌∙◌, ◌-◌, length, ap, sym, subst, arith}
use Rattle.nt_plans.specs.Plan.{plans_of}
use Rattle.nt_plans.specs.Place.{open_plans}
use Rattle.nt_shred.specs.Walk.{CanPutEach}
use Rattle.nt_shred.specs.Lines.{PutsLine}
use Rattle.nt_shred.proofs.LineGrowth.{room-later}
use Rattle.nt_shred.proofs.RoomLeft.{room-there}
use Rattle.nt_shred.proofs.Whole.{filled-can, line-taken}
use Rattle.nt_shred.proofs.line.Direct.put_line.Goals as goal

pub put_entry-requires : goal.put_entry-requires
put_entry-requires c =
    let t = c.args.schema.now in
    let line = c.args.line.now in
    let now = c.see_to_room.new.out in
    let plans_are = ap plans_of c.as_slice.ensures ∙ c.plans.ensures in
    subst (λ ps. CanPutEach ps (length line) now) (sym plans_are)
    (filled-can t c.args.out.now now (length line) (c.columns_differ.ensures t) (c.columns_have_types.ensures t) c.requires.columns
    c.see_to_room.ensures.columns (room-there line now c.see_to_room.new.self.room c.in_default.ensures.ok.0 c.if-most-eq0.false
    c.in_default.ensures.room))

pub returns-then-put_entry-clause-entry : goal.returns-then-put_entry-clause-entry
returns-then-put_entry-clause-entry c =
    let t = c.args.schema.now in
    let line = c.args.line.now in
    let now = c.see_to_room.new.out in
    let plans_are = ap plans_of c.as_slice.ensures ∙ c.plans.ensures in
    let puts : PutsLine (open_plans t) line now c.put_entry.new.out =
    subst (λ ps. PutsLine ps line now c.put_entry.new.out) plans_are c.if-put_entry.ensures in
    line-taken t line c.args.out.now now c.put_entry.new.out (omega (arith, c.if-most-gt-MOST.false)) c.requires.utf8
    (c.columns_differ.ensures t) c.requires.columns c.see_to_room.ensures.columns puts

pub returns-then-put_entry-clause-room : goal.returns-then-put_entry-clause-room
returns-then-put_entry-clause-room c = λ some.
    let room = c.see_to_room.new.self.room in
    let enough = c.in_default.ensures.ok.0 in
    let puts = c.if-put_entry.ensures in
    room-later c.see_to_room.new.out c.put_entry.new.out room (length c.args.line.now) (room - length c.args.line.now) puts.gains.frame
    puts.gains.room puts.few (omega (arith, enough)) (c.in_default.ensures.room (omega (arith, some)))
