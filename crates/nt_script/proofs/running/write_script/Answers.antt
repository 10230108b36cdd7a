use Rattle.std.proofs.Common.{◌≡◌, ◌∙◌, ◌+◌, ◌≤◌, refl, subst, arith, Bool, Ok}
use Rattle.nt_types.specs.Views.{members_view}
use Rattle.nt_event.specs.Limits.{max_number}
use Rattle.nt_contexts.specs.Reading.{left_of}
use Rattle.nt_script.specs.Running.{GoesOnScript, HasAllLines, ReadsScriptLine}
use Rattle.nt_script.proofs.Ends.{script_ended, early}
use Rattle.nt_script.proofs.Goes.{script_begun}
use Rattle.nt_script.proofs.running.write_script.Goals as goal

pub loop-count-init : goal.loop-count-init
loop-count-init g c =
    let lines = left_of g.S.Source.state c.args.lines.now in
    let w = c.args.writer.now in
    record {
      on = script_begun g.D.Disk.state (members_view c.args.fields) lines.left w.table w.params lines w refl refl refl c.requires;
      counted = c.requires.number;
      low = omega (arith, c.requires.number);
      later = omega arith;
      given = refl;
    }

pub write_gathered-requires : goal.write_gathered-requires
write_gathered-requires g c =
    let F = members_view c.args.fields in
    let first = left_of g.S.Source.state c.args.lines.now in
    let was = left_of g.S.Source.state c.loop-count.lines in
    let is = left_of g.S.Source.state c.take_next.new.lines in
    let w = c.args.writer.now in
    let all : HasAllLines g.D.Disk.state F first.left w.table w.params (members_view c.take_next.new.fields) c.take_next.new.writer =
    subst (λ (b : Bool). ReadsScriptLine g.D.Disk.state F first.left w.table w.params (members_view c.take_next.new.fields) was is
    c.take_next.new.writer (Ok b)) c.in-Ok-false.field-0-test
    (c.in-Ok-false.ensures.line F first.left w.table w.params c.requires.rows c.loop-count.invariant.on) in
    record { alive = all.is_open.alive; few = omega (arith, all.is_open.room) }

pub returns-in-Ok-false : goal.returns-in-Ok-false
returns-in-Ok-false g c =
    let F = members_view c.args.fields in
    let first = left_of g.S.Source.state c.args.lines.now in
    let was = left_of g.S.Source.state c.loop-count.lines in
    let is = left_of g.S.Source.state c.take_next.new.lines in
    let w = c.args.writer.now in
    let all : HasAllLines g.D.Disk.state F first.left w.table w.params (members_view c.take_next.new.fields) c.take_next.new.writer =
    subst (λ (b : Bool). ReadsScriptLine g.D.Disk.state F first.left w.table w.params (members_view c.take_next.new.fields) was is
    c.take_next.new.writer (Ok b)) c.in-Ok-false.field-0-test
    (c.in-Ok-false.ensures.line F first.left w.table w.params c.requires.rows c.loop-count.invariant.on) in
    record {
      ended = script_ended g.D.Disk.state F first.left w.table w.params c.requires.rows (members_view c.take_next.new.fields)
          c.take_next.new.writer c.write_gathered.new.writer first is is c.write_gathered.result all
          (c.write_gathered.ensures.done all.segments all.entries all.taken);
      later = omega (arith, c.in-Ok-false.ensures.later, c.loop-count.invariant.later);
      given = c.write_gathered.ensures.given ∙ (c.in-Ok-false.ensures.given ∙ c.loop-count.invariant.given);
    }

pub returns-in-Err : goal.returns-in-Err
returns-in-Err g c =
    let F = members_view c.args.fields in
    let first = left_of g.S.Source.state c.args.lines.now in
    let was = left_of g.S.Source.state c.loop-count.lines in
    let is = left_of g.S.Source.state c.take_next.new.lines in
    let w = c.args.writer.now in
    record {
      ended = early g.D.Disk.state F first.left w.table w.params first was is c.take_next.new.writer c.in-Err.error
          c.loop-count.invariant.later
          (c.in-Err.ensures.line F first.left w.table w.params c.requires.rows c.loop-count.invariant.on);
      later = omega (arith, c.in-Err.ensures.later, c.loop-count.invariant.later);
      given = c.in-Err.ensures.given ∙ c.loop-count.invariant.given;
    }

pub loop-count-preserved : goal.loop-count-preserved
loop-count-preserved g c =
    let F = members_view c.args.fields in
    let first = left_of g.S.Source.state c.args.lines.now in
    let was = left_of g.S.Source.state c.loop-count.lines in
    let is = left_of g.S.Source.state c.take_next.new.lines in
    let w = c.args.writer.now in
    let G = members_view c.take_next.new.fields in
    let h : GoesOnScript g.D.Disk.state F first.left w.table w.params G c.take_next.new.writer is
    × (is.number ≡ was.number + 1) × (is.number ≤ max_number) =
    subst (λ (b : Bool). ReadsScriptLine g.D.Disk.state F first.left w.table w.params G was is c.take_next.new.writer (Ok b))
    c.in-Ok-true.field-0-test
    (c.in-Ok-true.ensures.line F first.left w.table w.params c.requires.rows c.loop-count.invariant.on) in
    record {
      on = h.0;
      counted = omega (arith, h.1, c.loop-count.invariant.counted);
      low = h.2;
      later = omega (arith, c.in-Ok-true.ensures.later, c.loop-count.invariant.later);
      given = c.in-Ok-true.ensures.given ∙ c.loop-count.invariant.given;
    }
