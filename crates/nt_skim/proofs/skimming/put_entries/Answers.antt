use Rattle.nt_skim.specs.Select.{selection_of}
use Rattle.std.proofs.Common.{◌≡◌, List, true, subst, sym, arith}
use Rattle.std.specs.Prelude.{slice_index_or}
use Rattle.nt_types.specs.ShapeData.{MemberData, parts_of}
use Rattle.nt_types.specs.Fits.{fit_parts}
use Rattle.nt_types.specs.TreeData.{no_trees}
use Rattle.nt_join.specs.Chosen.{chosen}
use Rattle.nt_reader.specs.Columns.{given_entries}
use Rattle.nt_skim.proofs.Readings.{length-given}
use Rattle.nt_skim.proofs.Selecting.{taken_more, taken_part, taken_too_many, taken_all}
use Rattle.nt_skim.proofs.skimming.put_entries.Goals as goal

pub put_entry-requires-clause-fits : goal.put_entry-requires-clause-fits
put_entry-requires-clause-fits g c =
    let e = slice_index_or (given_entries c.args.cluster.now) c.loop-i.i no_trees in
    subst (λ (ms : List MemberData). fit_parts (parts_of ms) (chosen (selection_of c.args.plan.now).places e) ≡ true)
    (sym c.loop-i.invariant.fields) (c.requires.fits c.loop-i.i (omega (arith, c.loop-i-test.true, c.entries-i-end.ensures)))

pub returns-in-None-clause-takes : goal.returns-in-None-clause-takes
returns-in-None-clause-takes g c =
    taken_too_many (selection_of c.args.plan.now) (given_entries c.args.cluster.now) c.loop-i.i c.loop-i.total
    (g.E.EntrySink.state c.args.out.now) (g.E.EntrySink.state c.loop-i.out) (g.E.EntrySink.state c.put_entry.new.out) c.loop-i.invariant
    c.in-Ok.more (omega (arith, c.loop-i-test.true, c.entries-i-end.ensures, length-given c.args.cluster.now)) c.in-Ok.ensures.takes

pub returns-in-Err-clause-takes : goal.returns-in-Err-clause-takes
returns-in-Err-clause-takes g c =
    taken_part (selection_of c.args.plan.now) (given_entries c.args.cluster.now) c.loop-i.i c.loop-i.total
    (g.E.EntrySink.state c.args.out.now) (g.E.EntrySink.state c.loop-i.out) (g.E.EntrySink.state c.put_entry.new.out) c.loop-i.invariant
    c.in-Err.error (omega (arith, c.loop-i-test.true, c.entries-i-end.ensures, length-given c.args.cluster.now)) c.in-Err.ensures.takes

pub loop-i-preserved : goal.loop-i-preserved
loop-i-preserved g c =
    taken_more (selection_of c.args.plan.now) (given_entries c.args.cluster.now) c.loop-i.i c.loop-i.total
    (g.E.EntrySink.state c.args.out.now) (g.E.EntrySink.state c.loop-i.out) (g.E.EntrySink.state c.put_entry.new.out) c.loop-i.invariant
    c.in-Ok.more c.in-Some.sum c.in-Some.ensures.1
    (omega (arith, c.loop-i-test.true, c.entries-i-end.ensures, length-given c.args.cluster.now)) c.in-Ok.ensures.takes
    c.in-Ok.ensures.left.cause c.in-Ok.ensures.left.fields c.in-Ok.ensures.left.birth

pub returns-clause-takes : goal.returns-clause-takes
returns-clause-takes g c =
    taken_all (selection_of c.args.plan.now) (given_entries c.args.cluster.now) c.loop-i.i c.loop-i.total
    (g.E.EntrySink.state c.args.out.now)
    (g.E.EntrySink.state c.loop-i.out)
    (omega (arith, c.loop-i-test.false, c.entries-i-end.ensures, length-given c.args.cluster.now)) c.loop-i.invariant
