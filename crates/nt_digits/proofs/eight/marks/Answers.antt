use Rattle.nt_digits.proofs.WordMarks.{unmarked}
use Rattle.nt_digits.proofs.eight.marks.Goals as goal

pub returns : goal.returns
returns c = λ k most none. unmarked k c.args.word most none
