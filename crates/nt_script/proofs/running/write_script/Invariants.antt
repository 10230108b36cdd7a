use Rattle.std.proofs.Common.{◌≡◌, ◌≤◌}
use Rattle.nt_types.specs.Views.{members_view}
use Rattle.nt_event.specs.Limits.{max_number}
use Rattle.nt_contexts.specs.Reading.{left_of}
use Rattle.nt_script.specs.Running.{GoesOnScript}
use Rattle.nt_script.proofs.running.write_script.Given as goal

abbrev pub invariant-loop-count : goal.invariant-loop-count
invariant-loop-count g l = record {
  on : GoesOnScript g.D.Disk.state (members_view l.initial.fields) (left_of g.S.Source.state l.initial.lines).left l.initial.writer.table
      l.initial.writer.params (members_view l.fields) l.writer (left_of g.S.Source.state l.lines);
  counted : (left_of g.S.Source.state l.lines).number ≡ l.count;
  low : (left_of g.S.Source.state l.lines).number ≤ max_number;
  later : (left_of g.S.Source.state l.initial.lines).faults ≤ (left_of g.S.Source.state l.lines).faults;
  given : l.writer.given ≡ l.initial.writer.given;
}
