use Rattle.nt_seq.proofs.writer.SeqWriter.flush.Goals as goal

pub returns-clause-crash : goal.returns-clause-crash
returns-clause-crash g c h was =
    let left = c.keeps.ensures.writer.unclosed h was in
    (left.0, left.1, c.crashes_leave_closed_or_unfinished.ensures.unclosed _ left.0 left.2)
