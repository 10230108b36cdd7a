use Rattle.std.proofs.Common.{◌≡◌, ◌∙◌, ◌++◌, ◌∷◌, [], ap, sym, subst, map, min, ℕ, ◌+◌, List, Ok}
use Rattle.std.specs.Prelude.{not}
use Rattle.std.specs.BTreeSet.{contains}
use Rattle.std.proofs.lemmas.List.{map-append}
use Rattle.nt_types.specs.ShapeData.{ShapeData}
use Rattle.nt_types.specs.Names.{has_name}
use Rattle.nt_types.specs.Seen.{KnowsNames, slices_cmp}
use Rattle.nt_types.specs.Schema.{field_count}
use Rattle.nt_types.specs.Views.{member_view}
use Rattle.nt_types.proofs.Seen.{Knows-empty, Knows-insert}
use Rattle.nt_types.proofs.ShapeViews.{member_view-of}
use Rattle.nt_schema.specs.ByName.{find_from}
use Rattle.nt_skim.specs.Planning.{found_field}
use Rattle.nt_skim.specs.Tests.{chosen_view}
use Rattle.nt_skim.proofs.Choosing.{chosen-none, chosen-more, not-not}
use Rattle.nt_skim.proofs.planning.fields_of.Goals as goal

pub loop-name-init : goal.loop-name-init
loop-name-init c =
    chosen-none c.args.schema.now c.args.names.now c.new.result.items (map member_view c.new-2.result.items) c.new-seen.result
    c.new.ensures.items (ap (map member_view) c.new-2.ensures.items) (Knows-empty c.new-seen.result c.new-seen.ensures.empty)

pub loop-name-preserved : goal.loop-name-preserved
loop-name-preserved c =
    let t = c.args.schema.now in
    let so-far = c.loop-name.invariant in
    let name = c.name-item.result in
    let key = c.as_slice.result in
    let asked = c.as_slice-in-loop-name.result.now in
    let f = chosen_view (c.in_ok-id.id, c.in_ok-id.member) in
    let known : has_name so-far.before asked ≡ not c.in_ok-fresh.fresh =
    ap (has_name so-far.before) (c.as_slice-in-loop-name.ensures ∙ sym c.as_slice.ensures) ∙ sym (so-far.knows key)
    ∙ sym (not-not (contains slices_cmp c.loop-name.seen key)) ∙ ap not (sym c.in_ok-fresh.ensures.added) in
    chosen-more t c.args.names.now c.loop-name.name-index c.loop-name.chosen.count c.loop-name.chosen.places.items
    (map member_view c.loop-name.chosen.fields.items) c.loop-name.seen so-far name c.loop-name-test.true c.name-item.is f
    c.count_fields.result c.push.new.self.items (map member_view c.push-in-loop-name.new.self.items) c.insert.new.self
    (subst (λ (n : List ℕ). found_field t so-far.before c.loop-name.chosen.count n (find_from 0 t.fields n) ≡ Ok f)
    c.as_slice-in-loop-name.ensures (c.in_ok-id.ensures so-far.before known))
    (c.count_fields.ensures
    ∙ ap (λ (k : ShapeData). min 4097 (c.loop-name.chosen.count + field_count k)) (sym (member_view-of c.in_ok-id.member)))
    (c.in_ok-push.ensures.items ∙ ap (λ (n : ℕ). c.loop-name.chosen.places.items ++ n ∷ []) c.place_of.ensures)
    (ap (map member_view) c.in_ok-push-2.ensures.items ∙ map-append member_view c.loop-name.chosen.fields.items (c.in_ok-id.member ∷ []))
    (subst (λ (n : List ℕ). KnowsNames c.insert.new.self (n ∷ so-far.before)) c.as_slice.ensures
    (Knows-insert c.loop-name.seen c.insert.new.self so-far.before key so-far.knows c.in_ok-fresh.ensures.updates))
