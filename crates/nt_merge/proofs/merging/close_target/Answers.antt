use Rattle.std.proofs.Common.{Err}
use Rattle.nt_close.specs.declared.error.CloseError.TheVariants as close
use Rattle.nt_close.specs.Closing.{ClosesOnDisk}
use Rattle.nt_book.specs.declared.limits.LimitError.TheVariants as limit
use Rattle.nt_merge.proofs.Ended.{ends, cuts, close-over}
use Rattle.nt_merge.proofs.Unfinished.{stays-unfinished}
use Rattle.nt_merge.proofs.merging.close_target.Goals as goal

pub returns-in-Ok-clause-told : goal.returns-in-Ok-clause-told
returns-in-Ok-clause-told g c = λ given is ns has.
    let closes = c.in-Ok.ensures.closes in
    ends c.args.schema.now c.args.params.now given (g.D.Disk.state c.args.disk.now) c.args.book.now ns is c.keeps.ensures has
    c.closed_is_finished.ensures c.finished_files_are_made_of_copies.ensures.beside c.merges_within_limits_fit.ensures
    c.crashes_leave_closed_or_unfinished.ensures
    (g.D.Disk.state c.close.new.disk) closes.cause.1 closes.left c.clusters.result c.entries.result c.clusters.ensures c.entries.ensures

pub returns-in-Err-RangeTooLarge-clause-told : goal.returns-in-Err-RangeTooLarge-clause-told
returns-in-Err-RangeTooLarge-clause-told g c = λ given is ns has.
    let closes : ClosesOnDisk c.args.schema.now c.args.params.now c.args.book.now (g.D.Disk.state c.args.disk.now) (g.D.Disk.state
    c.close.new.disk) (Err (close.RangeTooLarge c.in-Err-RangeTooLarge.len c.in-Err-RangeTooLarge.limit)) =
    rw c.in-Err-RangeTooLarge.field-0-is at c.in-Err-RangeTooLarge.ensures.closes in
    let old = g.D.Disk.state c.args.disk.now in
    record {
      first = close-over c.args.schema.now c.args.params.now given old c.args.book.now ns is c.keeps.ensures has
          c.merges_pass_what_their_fronts_pass.ensures.closed
          (limit.RangeTooLarge c.in-Err-RangeTooLarge.len c.in-Err-RangeTooLarge.limit) closes.cause.1;
      left = stays-unfinished c.crashes_leave_closed_or_unfinished.ensures c.args.schema.now c.args.params.now given old
          (g.D.Disk.state c.close.new.disk) c.args.book.now is closes.left.place.held;
    }

pub returns-in-Err-FileTooLarge-clause-told : goal.returns-in-Err-FileTooLarge-clause-told
returns-in-Err-FileTooLarge-clause-told g c = λ given is ns has.
    let closes : ClosesOnDisk c.args.schema.now c.args.params.now c.args.book.now (g.D.Disk.state c.args.disk.now) (g.D.Disk.state
    c.close.new.disk) (Err (close.FileTooLarge c.in-Err-FileTooLarge.end c.in-Err-FileTooLarge.limit)) =
    rw c.in-Err-FileTooLarge.field-0-is at c.in-Err-FileTooLarge.ensures.closes in
    let old = g.D.Disk.state c.args.disk.now in
    record {
      first = close-over c.args.schema.now c.args.params.now given old c.args.book.now ns is c.keeps.ensures has
          c.merges_pass_what_their_fronts_pass.ensures.closed
          (limit.FileTooLarge c.in-Err-FileTooLarge.end c.in-Err-FileTooLarge.limit) closes.cause.1;
      left = stays-unfinished c.crashes_leave_closed_or_unfinished.ensures c.args.schema.now c.args.params.now given old
          (g.D.Disk.state c.close.new.disk) c.args.book.now is closes.left.place.held;
    }

pub returns-in-Err-Memory-clause-told : goal.returns-in-Err-Memory-clause-told
returns-in-Err-Memory-clause-told g c = λ given is ns has.
    let closes : ClosesOnDisk c.args.schema.now c.args.params.now c.args.book.now (g.D.Disk.state c.args.disk.now) (g.D.Disk.state
    c.close.new.disk) (Err close.Memory) =
    rw c.in-Err-Memory.field-0-is at c.in-Err-Memory.ensures.closes in
    stays-unfinished c.crashes_leave_closed_or_unfinished.ensures c.args.schema.now c.args.params.now given (g.D.Disk.state c.args.disk.now)
    (g.D.Disk.state c.close.new.disk) c.args.book.now is closes.left.place.held

pub returns-in-Err-Fault-clause-served : goal.returns-in-Err-Fault-clause-served
returns-in-Err-Fault-clause-served g c =
    let closes : ClosesOnDisk c.args.schema.now c.args.params.now c.args.book.now (g.D.Disk.state c.args.disk.now) (g.D.Disk.state
    c.close.new.disk) (Err close.Fault) =
    rw c.in-Err-Fault.field-0-is at c.in-Err-Fault.ensures.closes in
    record { fault = λ is. closes.left.rose; no_other = λ is. absurd (cc is); later = tt }

pub returns-in-Err-Fault-clause-told : goal.returns-in-Err-Fault-clause-told
returns-in-Err-Fault-clause-told g c = λ given is ns has.
    let closes : ClosesOnDisk c.args.schema.now c.args.params.now c.args.book.now (g.D.Disk.state c.args.disk.now) (g.D.Disk.state
    c.close.new.disk) (Err close.Fault) =
    rw c.in-Err-Fault.field-0-is at c.in-Err-Fault.ensures.closes in
    cuts c.args.schema.now c.args.params.now given (g.D.Disk.state c.args.disk.now) c.args.book.now ns is c.keeps.ensures has
    c.closed_is_finished.ensures c.finished_files_are_made_of_copies.ensures.beside c.merges_within_limits_fit.ensures
    c.crashes_leave_closed_or_unfinished.ensures
    (g.D.Disk.state c.close.new.disk) closes.cause.1 closes.left
