use Rattle.std.proofs.Common.{◌<◌, length, ◌∙◌, refl, arith, subst, Result, Ok, Err, List}
use Rattle.nt_num.specs.declared.fault.ReadError.{ReadError}
use Rattle.nt_types.specs.TreeData.{TreesData}
use Rattle.std.proofs.Common.{sym}
use Rattle.nt_skim.specs.Select.{selection_of, cluster_readings}
use Rattle.nt_skim.specs.Skimming.{IsClusterSkimmed}
use Rattle.nt_skim.proofs.Readings.{length-readings, reading-at}
use Rattle.nt_skim.proofs.SkimmedClusters.{skimmed_none, skimmed_more, skimmed_part, skimmed_too_many, skimmed_all}
use Rattle.nt_skim.proofs.skimming.skim.Goals as goal

pub loop-k-init : goal.loop-k-init
loop-k-init g c = record {
  told = λ b told. skimmed_none (selection_of c.args.plan.now) (cluster_readings b c.args.reader.now) (g.E.EntrySink.state c.args.out.now);
  going = c.requires.going;
  fields = refl;
  birth = refl;
  same = refl;
  later = omega arith;
}

pub returns-in-Err-clause-skimmed : goal.returns-in-Err-clause-skimmed
returns-in-Err-clause-skimmed g c b told =
    let rs = cluster_readings b c.args.reader.now in
    let there : c.loop-k.k < length c.args.reader.now.clusters = omega (arith, c.loop-k-test.true, c.clusters-k-end.ensures) in
    skimmed_part (selection_of c.args.plan.now) rs c.loop-k.k c.loop-k.total (g.E.EntrySink.state c.args.out.now)
    (g.E.EntrySink.state c.loop-k.out) (g.E.EntrySink.state c.put_cluster.new.out)
    (omega (arith, there, length-readings b c.args.reader.now)) (c.loop-k.invariant.told b told)
    c.in-Err.error
    (subst (λ (r : Result (List TreesData) ReadError). IsClusterSkimmed (selection_of c.args.plan.now) r
    (g.E.EntrySink.state c.loop-k.out)
    (g.E.EntrySink.state c.put_cluster.new.out) (Err c.in-Err.error))
    (sym (reading-at b c.args.reader.now c.loop-k.k there)) (c.in-Err.ensures.skimmed b (c.loop-k.invariant.same ∙ told)))

pub returns-in-None-clause-skimmed : goal.returns-in-None-clause-skimmed
returns-in-None-clause-skimmed g c b told =
    let rs = cluster_readings b c.args.reader.now in
    let there : c.loop-k.k < length c.args.reader.now.clusters = omega (arith, c.loop-k-test.true, c.clusters-k-end.ensures) in
    skimmed_too_many (selection_of c.args.plan.now) rs c.loop-k.k c.loop-k.total (g.E.EntrySink.state c.args.out.now)
    (g.E.EntrySink.state c.loop-k.out) (g.E.EntrySink.state c.put_cluster.new.out)
    (omega (arith, there, length-readings b c.args.reader.now)) (c.loop-k.invariant.told b told)
    c.in-Ok.more
    (subst (λ (r : Result (List TreesData) ReadError). IsClusterSkimmed (selection_of c.args.plan.now) r
    (g.E.EntrySink.state c.loop-k.out)
    (g.E.EntrySink.state c.put_cluster.new.out) (Ok c.in-Ok.more))
    (sym (reading-at b c.args.reader.now c.loop-k.k there)) (c.in-Ok.ensures.skimmed b (c.loop-k.invariant.same ∙ told)))

pub loop-k-preserved : goal.loop-k-preserved
loop-k-preserved g c = record {
  told = λ b told.
      let rs = cluster_readings b c.args.reader.now in
      let there : c.loop-k.k < length c.args.reader.now.clusters = omega (arith, c.loop-k-test.true, c.clusters-k-end.ensures) in
      skimmed_more (selection_of c.args.plan.now) rs c.loop-k.k c.loop-k.total (g.E.EntrySink.state c.args.out.now)
      (g.E.EntrySink.state c.loop-k.out) (g.E.EntrySink.state c.put_cluster.new.out)
      (omega (arith, there, length-readings b c.args.reader.now)) (c.loop-k.invariant.told b told)
      c.in-Ok.more c.in-Some.sum c.in-Some.ensures.1
      (subst (λ (r : Result (List TreesData) ReadError). IsClusterSkimmed (selection_of c.args.plan.now) r
      (g.E.EntrySink.state c.loop-k.out)
      (g.E.EntrySink.state c.put_cluster.new.out) (Ok c.in-Ok.more))
      (sym (reading-at b c.args.reader.now c.loop-k.k there)) (c.in-Ok.ensures.skimmed b (c.loop-k.invariant.same ∙ told)));
  going = c.in-Ok.ensures.left.cause;
  fields = c.in-Ok.ensures.left.fields ∙ c.loop-k.invariant.fields;
  birth = c.in-Ok.ensures.left.birth ∙ c.loop-k.invariant.birth;
  same = c.in-Ok.ensures.file.same ∙ c.loop-k.invariant.same;
  later = omega (arith, c.loop-k.invariant.later, c.in-Ok.ensures.file.later);
}

pub returns-clause-skimmed : goal.returns-clause-skimmed
returns-clause-skimmed g c b told =
    skimmed_all (selection_of c.args.plan.now) (cluster_readings b c.args.reader.now) c.loop-k.k c.loop-k.total
    (g.E.EntrySink.state c.args.out.now)
    (g.E.EntrySink.state c.loop-k.out)
    (omega (arith, c.loop-k-test.false, c.clusters-k-end.ensures, length-readings b c.args.reader.now))
    (c.loop-k.invariant.told b told)
