use Rattle.std.proofs.Common.{ℕ, ◌+◌, ◌*◌, ◌^◌, ◌++◌, take, drop, ap, ◌∙◌, arith}
use Rattle.nt_tfile.proofs.Windows.{next_piece, all_pieces}
use Rattle.nt_tfile.proofs.window.read_window.Goals as goal

pub loop-i-preserved : goal.loop-i-preserved
loop-i-preserved g c = record {
  same = c.in_ok-read_more.ensures.same ∙ c.loop-i.invariant.same;
  later = omega (arith, c.in_ok-read_more.ensures.cause.later, c.loop-i.invariant.later);
  read = λ told is.
      next_piece told c.loop-i.bytes.items c.read_more.new.bytes.items c.args.at c.min-count.result c.loop-i.i (2 ^ 20)
      (c.loop-i.invariant.read told is) (omega (arith, c.loop-i-test.true))
      (c.in_ok-read_more.ensures.bytes told (c.loop-i.invariant.same ∙ is)
      ∙ ap (λ (k : ℕ). c.loop-i.bytes.items ++ take k (drop (c.args.at + c.loop-i.i * 2 ^ 20) told)) c.min-step.ensures);
}

pub returns-clause-bytes : goal.returns-clause-bytes
returns-clause-bytes g c told is =
    all_pieces told c.loop-i.bytes.items c.args.at c.args.size c.min-count.result c.loop-i.i (2 ^ 20) c.args.most
    (c.loop-i.invariant.read told is) (omega (arith, c.loop-i-test.false)) (c.requires told is)
    (omega (arith, c.min-count.ensures, c.saturating_sub.ensures))
