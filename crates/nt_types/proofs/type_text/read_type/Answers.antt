use Rattle.std.proofs.Common.{arith, sym, ◌∙◌, ◌≤◌}
use Rattle.std.proofs.lemmas.Result.{err_from_is_err_and}
use Rattle.nt_types.proofs.ReadSteps.{read_word, read_delimiter, read_refused}
use Rattle.nt_types.proofs.type_text.read_type.Goals as goal

pub loop-i-preserved-then-is_word_byte : goal.loop-i-preserved-then-is_word_byte
loop-i-preserved-then-is_word_byte c =
    let order : c.loop-i.from ≤ c.loop-i.i = c.loop-i.invariant.order in
    record {
      order = omega arith;
      keep = c.loop-i.invariant.keep;
      rest = read_word _ _ c.args.text.now c.loop-i.from c.loop-i.i _ order c.loop-i-test.true
          (sym c.is_word_byte.ensures ∙ c.if-is_word_byte.true) c.loop-i.invariant.rest;
    }

pub loop-i-preserved : goal.loop-i-preserved
loop-i-preserved c =
    record {
      order = omega arith;
      keep = c.in_ok-delimit.ensures.keep ∙ c.loop-i.invariant.keep;
      rest = read_delimiter _ _ _ c.args.text.now c.loop-i.from c.loop-i.i _ c.loop-i-test.true
          (sym c.is_word_byte.ensures ∙ c.if-is_word_byte.false)
          (rw c.loop-i.invariant.keep at c.in_ok-delimit.ensures.state) c.loop-i.invariant.rest;
    }

pub returns-in_err-delimit : goal.returns-in_err-delimit
returns-in_err-delimit c =
    let p = err_from_is_err_and c.from_residual.result c.from_residual.ensures.1 in
    rw (p.1, p.2)
    (read_refused _ _ _ c.args.text.now c.loop-i.from c.loop-i.i _ c.loop-i-test.true
    (sym c.is_word_byte.ensures ∙ c.if-is_word_byte.false)
    (rw c.loop-i.invariant.keep at c.in_err-delimit.ensures.state) c.loop-i.invariant.rest)
