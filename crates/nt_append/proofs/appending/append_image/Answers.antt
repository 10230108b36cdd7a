use Rattle.std.proofs.Common.{◌≡◌, length, arith}
use Rattle.nt_append.proofs.Images.{may-list, tears, may-range, appends, cuts}
use Rattle.nt_append.proofs.appending.append_image.Goals as goal

pub append_due-requires : goal.append_due-requires
append_due-requires g c =
    let counted : c.len.result ≡ length c.in-Ok.list.items = omega (arith, c.len.ensures, c.in-Ok.list.ok) in
    may-list (g.D.Disk.state c.args.disk.now) c.args.book.now c.args.image.now c.requires (g.D.Disk.state c.make_room.new.disk)
    c.make_room.new.book c.make_room.ensures.kept c.keeps.ensures.sized c.in-Ok.list.items c.in-Ok.ensures c.len.result counted
    c.in_ok-make_room.ensures.fits c.in_ok-make_room.ensures.ok

pub returns-in-Err-clause-fault : goal.returns-in-Err-clause-fault
returns-in-Err-clause-fault g c is =
    let counted : c.len.result ≡ length c.in-Ok.list.items = omega (arith, c.len.ensures, c.in-Ok.list.ok) in
    tears (g.D.Disk.state c.args.disk.now) c.args.book.now c.args.image.now c.requires (g.D.Disk.state c.make_room.new.disk)
    c.make_room.new.book c.make_room.ensures.kept c.keeps.ensures.sized c.in-Ok.list.items c.in-Ok.ensures c.len.result counted
    c.in_ok-make_room.ensures.fits c.in_ok-make_room.ensures.ok (g.D.Disk.state c.append_due.new.disk) c.append_due.new.book
    c.in-Err.ensures.err

pub append_range-requires : goal.append_range-requires
append_range-requires g c =
    let counted : c.len.result ≡ length c.in-Ok.list.items = omega (arith, c.len.ensures, c.in-Ok.list.ok) in
    may-range (g.D.Disk.state c.args.disk.now) c.args.book.now c.args.image.now c.requires (g.D.Disk.state c.make_room.new.disk)
    c.make_room.new.book c.make_room.ensures.kept c.keeps.ensures.sized c.in-Ok.list.items c.in-Ok.ensures c.len.result counted
    c.in_ok-make_room.ensures.fits c.in_ok-make_room.ensures.ok (g.D.Disk.state c.append_due.new.disk) c.append_due.new.book
    c.in-Ok-append_due.ensures.ok

pub returns-in-Ok-append_range-clause-ok : goal.returns-in-Ok-append_range-clause-ok
returns-in-Ok-append_range-clause-ok g c =
    let counted : c.len.result ≡ length c.in-Ok.list.items = omega (arith, c.len.ensures, c.in-Ok.list.ok) in
    appends (g.D.Disk.state c.args.disk.now) c.args.book.now c.args.image.now c.requires (g.D.Disk.state c.make_room.new.disk)
    c.make_room.new.book c.make_room.ensures.kept c.keeps.ensures.sized c.in-Ok.list.items c.in-Ok.ensures c.len.result counted
    c.in_ok-make_room.ensures.fits c.in_ok-make_room.ensures.ok (g.D.Disk.state c.append_due.new.disk) c.append_due.new.book
    c.in-Ok-append_due.ensures.ok (g.D.Disk.state c.append_range.new.disk) c.append_range.new.book c.in-Ok-append_range.ensures.ok

pub returns-in-Err-append_range-clause-fault : goal.returns-in-Err-append_range-clause-fault
returns-in-Err-append_range-clause-fault g c is =
    let counted : c.len.result ≡ length c.in-Ok.list.items = omega (arith, c.len.ensures, c.in-Ok.list.ok) in
    cuts (g.D.Disk.state c.args.disk.now) c.args.book.now c.args.image.now c.requires (g.D.Disk.state c.make_room.new.disk)
    c.make_room.new.book c.make_room.ensures.kept c.keeps.ensures.sized c.in-Ok.list.items c.in-Ok.ensures c.len.result counted
    c.in_ok-make_room.ensures.fits c.in_ok-make_room.ensures.ok (g.D.Disk.state c.append_due.new.disk) c.append_due.new.book
    c.in-Ok-append_due.ensures.ok (g.D.Disk.state c.append_range.new.disk) c.append_range.new.book c.in-Err-append_range.ensures.err
