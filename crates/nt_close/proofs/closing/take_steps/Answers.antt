use Rattle.std.proofs.Common.{rules}
use Rattle.std.proofs.lemmas.Result.{err_from_is_err_and}
use Rattle.nt_close.proofs.Within.{within, has_lists}
use Rattle.nt_close.proofs.Leaving.{closed, cut, finished-there}
use Rattle.nt_close.proofs.closing.take_steps.Goals as goal

pub returns-in_err-write_end-clause-closes : goal.returns-in_err-write_end-clause-closes
returns-in_err-write_end-clause-closes g c =
    let p = err_from_is_err_and c.from_residual-in_err-write_end.result c.from_residual-in_err-write_end.ensures.1 in
    rw (p.1, p.2) (record {
      cause = search rules;
      left = cut _ _ _ _ _ _ _ _ (g.D.Disk.state c.args.disk.now) (g.D.Disk.state c.room.new.self) _
          c.in_ok-ending.ensures.ok c.deref.ensures.value c.front_of-front.ensures c.room.ensures.held c.room.ensures.faults
          c.in_err-write_end.ensures.cut c.write_end.ensures.out c.in_err-write_end.ensures.cause.failed;
      finished = tt;
    })

pub returns-clause-closes : goal.returns-clause-closes
returns-clause-closes g c =
    let done = closed _ _ _ _ _ _ _ _ (g.D.Disk.state c.args.disk.now) (g.D.Disk.state c.room.new.self) _
    c.in_ok-ending.ensures.ok c.deref.ensures.value c.front_of-front.ensures c.room.ensures.held c.room.ensures.faults
    c.in_ok-write_end.ensures.ok c.write_end.ensures.out c.write_end.ensures.cause.later in
    record {
      cause = search rules;
      left = done;
      finished = record {
        file = finished-there _ _ _ _ (g.D.Disk.state c.args.disk.now) (g.D.Disk.state c.write_end.new.disk) c.keeps.ensures
            (has_lists c.args.schema.now c.args.params.now c.args.book.now c.keeps.ensures c.requires.noted
            c.in_ok-refuse_damaged.ensures.ok.untorn)
            c.requires.begin done;
        within = within c.args.schema.now c.args.params.now c.args.book.now c.keeps.ensures c.requires.noted
            c.in_ok-refuse_damaged.ensures.ok.untorn c.in_ok-ending.ensures.within;
      };
    }
