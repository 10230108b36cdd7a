use Rattle.std.proofs.Common.{◌∙◌, ◌-◌, length, arith}
use Rattle.nt_shred.proofs.Arms.{text-end, text-ends_below, text-last, text-done}
use Rattle.nt_shred.proofs.Singles.{text-ready, text-put}
use Rattle.nt_shred.proofs.leaves.string.Goals as goal

pub push_end-requires-clause-end : goal.push_end-requires-clause-end
push_end-requires-clause-end c =
    let s = c.in_ok-inside.inside.now in
    let e = c.in_ok-inside.ensures in
    let r = text-ready c.args.ends c.args.bytes s (length c.args.line.now - c.args.at) c.args.out.now c.requires.can
    (omega (arith, e.short, e.stands.within)) in
    omega (
      arith,
      c.len-last.ensures,
      text-ends_below c.args.ends c.args.bytes s c.args.out.now c.push_bytes.new.out r c.push_bytes.ensures,
    )

pub push_end-requires-clause-room : goal.push_end-requires-clause-room
push_end-requires-clause-room c =
    let s = c.in_ok-inside.inside.now in
    let e = c.in_ok-inside.ensures in
    let r = text-ready c.args.ends c.args.bytes s (length c.args.line.now - c.args.at) c.args.out.now c.requires.can
    (omega (arith, e.short, e.stands.within)) in
    text-last c.args.ends c.args.bytes s c.args.out.now c.push_bytes.new.out r c.push_bytes.ensures c.len-last.result
    (c.len-last.ensures ∙ text-end c.args.ends c.args.bytes s c.args.out.now c.push_bytes.new.out r c.push_bytes.ensures)

pub returns : goal.returns
returns c =
    let s = c.in_ok-inside.inside.now in
    let e = c.in_ok-inside.ensures in
    let r = text-ready c.args.ends c.args.bytes s (length c.args.line.now - c.args.at) c.args.out.now c.requires.can
    (omega (arith, e.short, e.stands.within)) in
    text-put c.args.ends c.args.bytes s c.args.line.now c.args.at c.in_ok-inside.end c.args.out.now c.push_end.new.out e.bytes e.stands
    e.short (text-done c.args.ends c.args.bytes s c.args.out.now c.push_bytes.new.out r c.push_bytes.ensures c.push_end.new.out
    c.len-last.result c.push_end.ensures
    (c.len-last.ensures ∙ text-end c.args.ends c.args.bytes s c.args.out.now c.push_bytes.new.out r c.push_bytes.ensures))
