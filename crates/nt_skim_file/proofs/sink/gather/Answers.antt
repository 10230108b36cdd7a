use Rattle.std.proofs.Common.{sym, subst}
use Rattle.std.specs.Prelude.{OnOk}
use Rattle.nt_types.specs.TreeData.{TreesData}
use Rattle.nt_column.specs.Column.{columns_of, elements_at}
use Rattle.nt_plans.specs.Plan.{plans_of}
use Rattle.nt_plans.specs.PlanViews.{plans_view}
use Rattle.nt_seq.specs.Writer.{GathersEntry}
use Rattle.nt_skim_file.proofs.Gathered.{cluster-readable, chosen-given}
use Rattle.nt_skim_file.proofs.sink.gather.Goals as goal

pub fill_from-requires-clause-readable : goal.fill_from-requires-clause-readable
fill_from-requires-clause-readable g c κs within =
    cluster-readable c.args.cluster.now (plans_of (plans_view c.plans.result.now)) (elements_at (columns_of c.columns.result.now)) c.args.i
    c.plans.ensures c.columns.ensures (c.readable.ensures.readable c.args.i c.requires.there)

pub returns-clause-ok : goal.returns-clause-ok
returns-clause-ok g c =
    subst (λ (e : TreesData). OnOk c.fill_from.result (GathersEntry e c.args.writer.now c.fill_from.new.self))
    (sym (chosen-given c.args.cluster.now (plans_of (plans_view c.plans.result.now)) (elements_at (columns_of c.columns.result.now))
    c.args.i c.plans.ensures c.columns.ensures c.args.places.now (c.readable.ensures.given c.args.i c.requires.there)))
    c.fill_from.ensures.ok
