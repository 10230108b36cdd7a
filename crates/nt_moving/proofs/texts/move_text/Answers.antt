use Rattle.std.proofs.Common.{◌-◌, ◌∙◌, arith}
use Rattle.nt_trees.specs.TreeAt.{text_from}
use Rattle.nt_shred.proofs.Arms.{text-bytes, text-end, text-ends_below, text-last, text-done}
use Rattle.nt_moving.proofs.texts.move_text.Goals as goal

pub move_bytes-requires-clause-room : goal.move_bytes-requires-clause-room
move_bytes-requires-clause-room g c κs within =
    let s = c.args.span in
    text-bytes c.args.ends c.args.bytes (text_from (g.C.Columns.elements c.args.columns.now s.column) s.from (s.to - s.from))
    c.args.out.now c.requires.ready

pub push_end-requires-clause-end : goal.push_end-requires-clause-end
push_end-requires-clause-end g c =
    let s = c.args.span in
    let is = text_from (g.C.Columns.elements c.args.columns.now s.column) s.from (s.to - s.from) in
    let below = text-ends_below c.args.ends c.args.bytes is c.args.out.now c.move_bytes.new.out c.requires.ready c.move_bytes.ensures in
    omega (arith, c.len-end.ensures, below)

pub push_end-requires-clause-room : goal.push_end-requires-clause-room
push_end-requires-clause-room g c =
    let s = c.args.span in
    let is = text_from (g.C.Columns.elements c.args.columns.now s.column) s.from (s.to - s.from) in
    let now = c.move_bytes.new.out in
    let end = c.len-end.ensures ∙ text-end c.args.ends c.args.bytes is c.args.out.now now c.requires.ready c.move_bytes.ensures in
    text-last c.args.ends c.args.bytes is c.args.out.now now c.requires.ready c.move_bytes.ensures c.len-end.result end

pub returns : goal.returns
returns g c =
    let s = c.args.span in
    let is = text_from (g.C.Columns.elements c.args.columns.now s.column) s.from (s.to - s.from) in
    let now = c.move_bytes.new.out in
    let end = c.len-end.ensures ∙ text-end c.args.ends c.args.bytes is c.args.out.now now c.requires.ready c.move_bytes.ensures in
    text-done c.args.ends c.args.bytes is c.args.out.now now c.requires.ready c.move_bytes.ensures c.push_end.new.out c.len-end.result
    c.push_end.ensures end
