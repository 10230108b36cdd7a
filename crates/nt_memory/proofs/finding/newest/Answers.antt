use Rattle.std.proofs.Common.{◌∙◌, sym, arith}
use Rattle.nt_memory.proofs.Newest.{here, before, none_left}
use Rattle.nt_memory.proofs.finding.newest.Goals as goal

pub returns-then-eq : goal.returns-then-eq
returns-then-eq c =
    sym (c.loop-i.invariant ∙ here c.args.files.now c.loop-i.i c.index-files-i.result c.args.name.now _ (omega arith) (omega arith)
    c.index-files-i.is c.as_str.ensures.value c.if-eq.ensures)

pub loop-i-preserved : goal.loop-i-preserved
loop-i-preserved c =
    c.loop-i.invariant ∙ before c.args.files.now c.loop-i.i c.index-files-i.result c.args.name.now _ (omega arith) (omega arith)
    c.index-files-i.is c.as_str.ensures.value c.if-eq.ensures

pub returns : goal.returns
returns c = none_left c.args.files.now c.loop-i.i c.args.name.now (omega arith) ∙ sym c.loop-i.invariant
