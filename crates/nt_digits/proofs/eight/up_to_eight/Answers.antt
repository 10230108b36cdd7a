use Rattle.std.proofs.Common.{◌∙◌, arith}
use Rattle.nt_digits.proofs.WordMarks.{read-to-mark}
use Rattle.nt_digits.proofs.eight.up_to_eight.Goals as goal

pub number_of-requires : goal.number_of-requires
number_of-requires c = (read-to-mark c.args.text.now c.args.at c.word_at-bytes.result c.marks.result c.requires
    (λ i. omega (arith, c.type_inv.text i)) c.word_at-bytes.ensures c.marks.ensures).eight

pub returns-clause-value : goal.returns-clause-value
returns-clause-value c = c.number_of.ensures ∙ (read-to-mark c.args.text.now c.args.at c.word_at-bytes.result c.marks.result c.requires
    (λ i. omega (arith, c.type_inv.text i)) c.word_at-bytes.ensures c.marks.ensures).value

pub returns-clause-digits : goal.returns-clause-digits
returns-clause-digits c = (read-to-mark c.args.text.now c.args.at c.word_at-bytes.result c.marks.result c.requires
    (λ i. omega (arith, c.type_inv.text i)) c.word_at-bytes.ensures c.marks.ensures).digits
