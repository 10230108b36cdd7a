use Rattle.std.proofs.Common.{sym, subst, ap, ◌∙◌}
use Rattle.nt_types.specs.TreeData.{trees_of}
use Rattle.nt_types.specs.TreeViews.{trees_view}
use Rattle.nt_plans.specs.Plan.{plans_of}
use Rattle.nt_plans.specs.Place.{open_plans}
use Rattle.nt_trees.specs.Put.{put_trees}
use Rattle.nt_trees.specs.Views.{cols_of, trees_in}
use Rattle.nt_shred.specs.Steps.{IsEntry}
use Rattle.nt_shred.proofs.Entries.{entry-last}
use Rattle.nt_shred.proofs.SchemaSets.{entry-of, set-kept}
use Rattle.nt_shred.proofs.entry.shred.Goals as goal

pub shred_by-requires-clause-entry : goal.shred_by-requires-clause-entry
shred_by-requires-clause-entry c =
    let plans_are = ap plans_of c.as_slice-2.ensures ∙ c.plans.ensures in
    let trees_are = ap trees_of c.as_slice.ensures in
    let entry = entry-of c.args.schema.now (trees_of (trees_view c.args.trees.now)) c.args.out.now
    (c.columns_differ.ensures c.args.schema.now) (c.columns_have_types.ensures c.args.schema.now) c.requires in
    subst (λ p. IsEntry p (trees_in c.as_slice.result.now) c.args.out.now) (sym plans_are)
    (subst (λ t. IsEntry (open_plans c.args.schema.now) t c.args.out.now) (sym trees_are) entry)

pub returns-clause-last : goal.returns-clause-last
returns-clause-last c =
    let plans_are = ap plans_of c.as_slice-2.ensures ∙ c.plans.ensures in
    let trees_are = ap trees_of c.as_slice.ensures in
    let ts = trees_of (trees_view c.args.trees.now) in
    let entry = entry-of c.args.schema.now ts c.args.out.now (c.columns_differ.ensures c.args.schema.now)
    (c.columns_have_types.ensures c.args.schema.now) c.requires in
    let added = c.in_ok-shred_by.ensures.added ∙ (λ i. put_trees (plans_are i) (trees_are i) (cols_of c.args.out.now)) in
    entry-last (open_plans c.args.schema.now) ts c.args.out.now c.shred_by.new.out entry added

pub returns-clause-set : goal.returns-clause-set
returns-clause-set c = set-kept c.args.schema.now.columns c.args.out.now c.shred_by.new.out c.shred_by.ensures.frame c.requires.set
