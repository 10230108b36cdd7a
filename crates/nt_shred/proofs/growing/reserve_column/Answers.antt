use Rattle.std.proofs.Common.{◌∙◌, ◌<◌, ◌+◌, sym, ap, length, arith}
use Rattle.std.proofs.Math.ListN.{set}
use Rattle.nt_shred.specs.Frame.{set_frame, ends_below}
use Rattle.nt_shred.proofs.Sets.{columns-kept, frame-kept, elements-at, capacity-kept}
use Rattle.nt_shred.proofs.Ends.{grown-one}
use Rattle.nt_shred.proofs.growing.reserve_column.Goals as goal

pub returns-in_err-len-clause-columns : goal.returns-in_err-len-clause-columns
returns-in_err-len-clause-columns c = columns-kept c.args.out.now c.args.column _ _ c.buffer.ensures.value c.ready.ensures.column

pub returns-in_err-len-clause-kept : goal.returns-in_err-len-clause-kept
returns-in_err-len-clause-kept c = capacity-kept c.args.out.now c.args.column _ _ c.buffer.ensures.value c.ready.ensures.column
    c.ready.ensures.spare

pub returns-then-not-can_count-clause-columns : goal.returns-then-not-can_count-clause-columns
returns-then-not-can_count-clause-columns c = columns-kept c.args.out.now c.args.column _ _ c.buffer.ensures.value c.ready.ensures.column

pub returns-then-not-can_count-clause-kept : goal.returns-then-not-can_count-clause-kept
returns-then-not-can_count-clause-kept c = capacity-kept c.args.out.now c.args.column _ _ c.buffer.ensures.value c.ready.ensures.column
    c.ready.ensures.spare

pub returns-clause-columns : goal.returns-clause-columns
returns-clause-columns c = columns-kept c.args.out.now c.args.column _ _ c.buffer.ensures.value c.ready.ensures.column

pub returns-clause-kept : goal.returns-clause-kept
returns-clause-kept c = capacity-kept c.args.out.now c.args.column _ _ c.buffer.ensures.value c.ready.ensures.column
    c.ready.ensures.spare

pub returns-clause-ok : goal.returns-clause-ok
returns-clause-ok c =
    let bs = c.args.out.now in
    let k = c.args.column in
    let b = c.buffer.result.now in
    let new = c.ready.new.self in
    let value = c.buffer.ensures.value in
    let kept = c.ready.ensures.column in
    let same = frame-kept bs (set bs k new) (columns-kept bs k b new value kept) in
    let counted = c.can_count.ensures c.if-not-can_count.false in
    let low : length b.column.elements + c.args.more < ends_below (set_frame bs) =
    omega (arith, counted, c.in_ok-len.ensures.len, ap ends_below same) in
    grown-one bs k c.args.more b new value kept c.in_ok-len.ensures.ok low

pub returns-clause-len : goal.returns-clause-len
returns-clause-len c = c.in_ok-len.ensures.len ∙ sym (ap length (elements-at c.args.out.now c.args.column _ c.buffer.ensures.value))
