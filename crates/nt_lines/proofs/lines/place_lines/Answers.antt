use Rattle.std.proofs.Common.{◌≡◌, ◌++◌, ◌-◌, ℕ, take, sym, ap, subst, ◌∙◌}
use Rattle.std.specs.Prelude.{IfOk}
use Rattle.nt_plans.specs.Plan.{PlansData, plans_of}
use Rattle.nt_trees.specs.TreeAt.{each_at}
use Rattle.nt_join.specs.Readable.{ReadableEach}
use Rattle.nt_lines.specs.Lines.{written_lines}
use Rattle.nt_lines.proofs.LentPlans.{lent-views}
use Rattle.nt_lines.proofs.lines.place_lines.Goals as goal

pub place_entries-requires-clause-can : goal.place_entries-requires-clause-can
place_entries-requires-clause-can g c κs within =
    let same = lent-views c.as_slice.result.now (g.C.Columns.elements c.args.columns.now) c.in_ok-plans.plans.items c.in_ok-plans.ensures
    ∙ c.as_slice.ensures in (
      c.requires.can.0,
      c.requires.can.1,
      λ i less. record {
        readable = subst (λ (ps : PlansData). ReadableEach ps (g.C.Columns.elements c.args.columns.now) i)
            (sym (ap plans_of same ∙ c.plans.ensures)) (c.requires.can.2 i less);
        lent = c.in_ok-plans.ensures.each;
      },
    )

pub returns-clause-text : goal.returns-clause-text
returns-clause-text g c =
    let cols = g.C.Columns.elements c.args.columns.now in
    let same = lent-views c.as_slice.result.now cols c.in_ok-plans.plans.items c.in_ok-plans.ensures ∙ c.as_slice.ensures in
    subst (λ (ps : PlansData). IfOk c.place_entries.result (λ (r : ℕ × ℕ). take r.1 c.place_entries.new.out.items
    ≡ take c.args.from c.args.out.now.items ++ written_lines (each_at ps cols) c.args.part.0 (r.0 - c.args.part.0)))
    (ap plans_of same ∙ c.plans.ensures) c.place_entries.ensures.text
