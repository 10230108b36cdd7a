use Rattle.nt_print.proofs.Parts.{line-put}
use Rattle.nt_print.proofs.reading.put_read.Goals as goal

pub returns-clause-ok : goal.returns-clause-ok
returns-clause-ok g c =
    let es = g.C.Columns.elements c.args.columns.now c.args.column in
    line-put c.args.out.now.items _ _ c.put_end.new.out.items c.args.mark c.args.form.0 c.args.form.1 es c.args.part.0 c.args.part.1
    c.requires.order c.requires.within c.in_ok-push.ensures.items c.in_ok-put_read_run.ensures.ok c.in_ok-put_end.ensures.ok
