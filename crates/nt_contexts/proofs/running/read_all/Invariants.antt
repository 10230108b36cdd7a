use Rattle.std.proofs.Common.{◌≡◌, ◌≤◌}
use Rattle.nt_types.specs.ShapeData.{parts_of}
use Rattle.nt_types.specs.Views.{members_view}
use Rattle.nt_event.specs.Limits.{max_number}
use Rattle.nt_contexts.specs.Reading.{left_of}
use Rattle.nt_contexts.specs.Running.{GoesOn}
use Rattle.nt_contexts.proofs.running.read_all.Given as goal

abbrev pub invariant-loop-count : goal.invariant-loop-count
invariant-loop-count g l = record {
  on : GoesOn g.D.Disk.state (parts_of (members_view l.shared.fields.now))
      (left_of g.S.Source.state l.initial.lines).left l.initial.fill l.fill
      (left_of g.S.Source.state l.lines);
  counted : (left_of g.S.Source.state l.lines).number ≡ l.count;
  low : (left_of g.S.Source.state l.lines).number ≤ max_number;
  later : (left_of g.S.Source.state l.initial.lines).faults ≤ (left_of g.S.Source.state l.lines).faults;
}
