use Rattle.std.proofs.Common.{◌+◌}
use Rattle.nt_shred.proofs.RunOfIntegers.{run-first, run-more, run-not}
use Rattle.nt_shred.proofs.integer_runs.run.Goals as goal

pub returns-in_err-first : goal.returns-in_err-first
returns-in_err-first c =
    run-not c.args.bits c.args.signed c.args.line.now c.args.at c.args.column.now c.from_residual.result c.from_residual.ensures

pub loop-quick-init : goal.loop-quick-init
loop-quick-init c =
    run-first c.args.bits c.args.signed c.in_ok-first.first c.args.line.now c.args.at c.in_ok-first.end c.args.column.now
    c.push_at_width.new.self c.requires.takes c.in_ok-first.ensures c.push_at_width.ensures.column c.push_at_width.ensures.spare

pub loop-quick-preserved : goal.loop-quick-preserved
loop-quick-preserved c =
    run-more c.args.bits c.args.signed c.in-Some.quick c.args.line.now c.args.at c.loop-quick.i (c.loop-quick.i + 1) c.in-Some.end
    c.args.column.now c.loop-quick.column c.push_at_width-in-Some.new.self c.loop-quick.invariant c.in-Some.ensures.comma
    c.in-Some.ensures.element c.push_at_width-in-Some.ensures.column c.push_at_width-in-Some.ensures.spare

pub loop-next-preserved : goal.loop-next-preserved
loop-next-preserved c =
    run-more c.args.bits c.args.signed c.in-Some-element_at.value c.args.line.now c.args.at c.loop-next.i c.in-Some-comma.next
    c.in-Some-element_at.end c.args.column.now c.loop-next.column c.push_at_width-in-Some-comma.new.self c.loop-next.invariant
    c.in-Some-comma.ensures c.in-Some-element_at.ensures c.push_at_width-in-Some-comma.ensures.column
    c.push_at_width-in-Some-comma.ensures.spare
