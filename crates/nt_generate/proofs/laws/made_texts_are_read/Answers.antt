use Rattle.nt_generate.proofs.Texts.{made_read}
use Rattle.nt_generate.proofs.laws.made_texts_are_read.Goals as goal

pub returns-clause-read : goal.returns-clause-read
returns-clause-read c m =
    made_read c.made_lines_are_read.ensures.read c.made_lines_are_read.ensures.one_line c.made_lines_are_read.ensures.short
    c.made_lines_are_read.ensures.some m
