use Rattle.std.proofs.Common.{◌≡◌, ◌∙◌, ◌<◌, sym, refl, subst, arith, rules, ℕ, List, get_or, length}
use Rattle.nt_types.specs.TreeViews.{tree_view}
use Rattle.nt_plans.specs.Place.{column_ids}
use Rattle.nt_show.specs.Fields.{code_tree}
use Rattle.nt_show.proofs.FieldLines.{ids_below, one_more_code, all_codes}
use Rattle.nt_show.proofs.fields.codes_of.Goals as goal

pub column-requires : goal.column-requires
column-requires c =
    let cs = c.args.schema.now.columns in
    let ids : c.columns_of-column-items.result.now ≡ column_ids c.args.id 0 cs = c.columns_of-column-items.ensures in
    subst (λ (l : List ℕ). get_or l c.loop-column.column-index 0 < length cs) (sym ids)
    (ids_below c.args.id cs c.loop-column.column-index 0
    (subst (λ (l : List ℕ). c.loop-column.column-index < length l) ids c.loop-column-test.true))

pub loop-column-preserved : goal.loop-column-preserved
loop-column-preserved c =
    let code : tree_view c.number_tree.result ≡ code_tree c.column.result.now = search rules in
    one_more_code c.args.schema.now.columns c.columns_of-column-items.result.now c.loop-column.column-index _ c.column.result.now
    c.loop-column.codes.items c.push.new.self.items c.number_tree.result
    c.loop-column-test.true refl c.column.ensures code (search rules) c.loop-column.invariant

pub returns : goal.returns
returns c =
    c.from_vec.ensures
    ∙ all_codes c.args.schema.now.columns c.args.id c.columns_of-column-items.result.now c.loop-column.column-index
    c.loop-column.codes.items c.columns_of-column-items.ensures (omega (arith, c.loop-column-test.false)) c.loop-column.invariant
