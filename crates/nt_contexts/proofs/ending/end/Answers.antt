use Rattle.std.proofs.Common.{◌<◌, ◌^◌, arith}
use Rattle.nt_contexts.proofs.Finished.{faults-later, faults-rose, end-is, noted-lists, short-is, ended-undamaged}
use Rattle.nt_contexts.proofs.ending.end.Goals as goal

pub returns : goal.returns
returns g c =
    let state = g.D.Disk.state in
    let birth = c.args.committer.birth in
    let disk = c.finish-disk.result.0 in
    let book = c.finish-disk.result.1 in
    let first = c.args.first in
    let closes = c.finish-disk.ensures.closes in
    let step = c.finish-disk.ensures.in_step in
    let last : (state disk).faults < 2 ^ 64 = omega (arith, c.faults-faults.ensures) in
    record {
      later = faults-later state birth disk book first closes step;
      blamed = faults-rose state birth disk book first closes step last;
      dealt = λ t p chunks born have.
          let dealt = c.commits_are_dealt.ensures birth disk book first t p chunks closes step c.keeps.ensures born have in
          (dealt, ended-undamaged state birth disk book first closes step c.keeps.ensures t p chunks have dealt);
      over = λ fields t p texts i own seen error rules rows born committed at before passes.
          c.next_chunks_pass_limits_of_all.ensures birth disk book first fields t p texts i own seen error rules rows closes step
          born committed at before passes;
      fit = λ t p chunks born committed.
          c.committed_chunks_fit.ensures.fit birth disk book first t p chunks closes step born committed;
      held = c.histories_fill.ensures birth disk book step;
      begin = step.begin;
      limits = step.limits;
      firsts = step.firsts;
      noted = λ t p born. noted-lists state birth disk book first closes step c.keeps.ensures t p born;
      end = end-is state birth disk book first closes step;
      out = c.finish-disk.ensures.disk.out;
      staged = step.staged;
      short = short-is state birth disk book first closes step c.keeps.ensures;
    }
