use Rattle.std.proofs.Common.{◌≡◌, inl, inr, arith}
use Rattle.nt_seq.specs.Writer.{gathered_by}
use Rattle.nt_types.specs.Views.{member_view, members_view}
use Rattle.nt_script.specs.Adding.{IsWrittenOut}
use Rattle.nt_script.proofs.Fields.{field_taken, member_error}
use Rattle.nt_script.proofs.Taken.{halts_as}
use Rattle.nt_script.proofs.Goes.{grown_same}
use Rattle.nt_script.proofs.Passed.{stands_within}
use Rattle.nt_script.proofs.adding.add_field.Goals as goal

pub returns-in-Err-clause-done : goal.returns-in-Err-clause-done
returns-in-Err-clause-done g c first segments es grown taken =
    let old = c.args.writer.now in
    inr (halts_as g.D.Disk.state (λ next. next ≡ gathered_by old) (λ next. Unit {0}) old.table old.params segments es
    c.write_gathered.new.writer c.in-Err.error (λ next same. tt) (c.in-Err.ensures.done segments es taken))

pub returns-in-Ok-clause-done : goal.returns-in-Ok-clause-done
returns-in-Ok-clause-done g c first segments es grown taken =
    let F = members_view c.args.fields.now in
    let mid = c.write_gathered.new.writer in
    let wrote = c.in_default.ensures.done segments es taken in
    let out : IsWrittenOut g.D.Disk.state first F segments es mid = record {
      grown = grown_same first F segments c.args.writer.now mid grown wrote.1;
      written = wrote.0;
      some = omega (arith, mid.params.cluster_range.0);
    } in
    let stands = stands_within g.D.Disk.state mid (c.keeps.ensures.writer.writing wrote.1.alive) c.keeps.ensures.book in
    field_taken g.D.Disk.state first F (members_view c.extend.new.fields) (member_view c.in-Ok.member) segments es c.args.line.now
    c.args.writer.now mid c.extend.new.writer c.extend.result c.in-Ok.ensures.ok
    (record { written = wrote.0; same = wrote.1; stands = stands })
    (c.extend.ensures.done first segments es out)

pub returns-in-Err-member_of-clause-done : goal.returns-in-Err-member_of-clause-done
returns-in-Err-member_of-clause-done g c first segments es grown taken =
    let mid = c.write_gathered.new.writer in
    let wrote = c.in_default.ensures.done segments es taken in
    let stands = stands_within g.D.Disk.state mid (c.keeps.ensures.writer.writing wrote.1.alive) c.keeps.ensures.book in
    inl (record {
      why = member_error (members_view c.args.fields.now) c.args.line.now c.in-Err-member_of.error c.in-Err-member_of.ensures.err;
      before = λ _. record { written = wrote.0; same = wrote.1; stands = stands };
    })
