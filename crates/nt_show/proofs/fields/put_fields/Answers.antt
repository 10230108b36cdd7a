use Rattle.std.proofs.Common.{◌≡◌, ◌∙◌, ap, sym, refl, arith, rules, ◌+◌, Bool, List, [], ◌∷◌, ◌++◌, length, drop}
use Rattle.nt_types.specs.TreeData.{trees_of}
use Rattle.nt_types.specs.TreeViews.{trees_view}
use Rattle.nt_show.specs.Ranges.{entry_lines}
use Rattle.nt_show.specs.Fields.{is_open_field, fields_from}
use Rattle.nt_show.proofs.Gathering.{gathers_nothing, gathers_part}
use Rattle.nt_show.proofs.FieldLines.{one_more_field, part_shown, line_more, line_part}
use Rattle.nt_show.proofs.fields.put_fields.Goals as goal

pub loop-id-init : goal.loop-id-init
loop-id-init g c = record {
  shown = [];
  all = ap (λ (l : List Bool). fields_from c.args.schema.now l c.args.schema.now.fields) (sym c.new-known.ensures.items);
  count = ap length c.new-known.ensures.items;
  gathers = gathers_nothing _ _;
  later = omega arith;
  rest = record { asked = refl; err_faults = refl; opened = refl };
}

pub returns-in_err-told-clause-part : goal.returns-in_err-told-clause-part
returns-in_err-told-clause-part g c =
    let so-far = c.loop-id.invariant in
    part_shown c.args.schema.now so-far.shown
    (fields_from c.args.schema.now c.loop-id.known.items (drop c.loop-id.id c.args.schema.now.fields)) _ _ c.args.waiting.now.items
    so-far.all (gathers_part (entry_lines so-far.shown) _ _ c.args.waiting.now.items _ so-far.gathers)

pub returns-in_err-put_line-clause-part : goal.returns-in_err-put_line-clause-part
returns-in_err-put_line-clause-part g c =
    let so-far = c.loop-id.invariant in
    let t = c.args.schema.now in
    let row = c.field-row.result.now in
    let open-is = c.is_open_field-is_open.result in
    let told = trees_of (trees_view c.in_ok-told.told) in
    let opened : open-is ≡ is_open_field t c.loop-id.known.items row = c.is_open_field-is_open.ensures
    ∙ ap (λ (l : List Bool). is_open_field t l row) c.deref.ensures.value in
    let all = one_more_field t c.loop-id.known.items so-far.shown c.loop-id.id row open-is told so-far.count c.field-row.ensures opened
    c.in_ok-told.ensures so-far.all in
    part_shown t (so-far.shown ++ told ∷ []) (fields_from t (c.loop-id.known.items ++ open-is ∷ []) (drop (c.loop-id.id + 1) t.fields)) _
    _ c.args.waiting.now.items all
    (line_part so-far.shown told _ _ _ c.args.waiting.now.items c.loop-id.waiting.items so-far.gathers c.in_err-put_line.ensures.part)

pub returns-in_err-push-clause-part : goal.returns-in_err-push-clause-part
returns-in_err-push-clause-part g c =
    let so-far = c.loop-id.invariant in
    let t = c.args.schema.now in
    let row = c.field-row.result.now in
    let open-is = c.is_open_field-is_open.result in
    let told = trees_of (trees_view c.in_ok-told.told) in
    let opened : open-is ≡ is_open_field t c.loop-id.known.items row = c.is_open_field-is_open.ensures
    ∙ ap (λ (l : List Bool). is_open_field t l row) c.deref.ensures.value in
    let all = one_more_field t c.loop-id.known.items so-far.shown c.loop-id.id row open-is told so-far.count c.field-row.ensures opened
    c.in_ok-told.ensures so-far.all in
    part_shown t (so-far.shown ++ told ∷ []) (fields_from t (c.loop-id.known.items ++ open-is ∷ []) (drop (c.loop-id.id + 1) t.fields)) _
    _ c.args.waiting.now.items all
    (line_part so-far.shown told _ _ _ c.args.waiting.now.items c.loop-id.waiting.items so-far.gathers c.in_ok-put_line.ensures.part)

pub loop-id-preserved : goal.loop-id-preserved
loop-id-preserved g c =
    let so-far = c.loop-id.invariant in
    let t = c.args.schema.now in
    let row = c.field-row.result.now in
    let open-is = c.is_open_field-is_open.result in
    let told = trees_of (trees_view c.in_ok-told.told) in
    let opened : open-is ≡ is_open_field t c.loop-id.known.items row = c.is_open_field-is_open.ensures
    ∙ ap (λ (l : List Bool). is_open_field t l row) c.deref.ensures.value in
    let pushed : c.push.new.self.items ≡ c.loop-id.known.items ++ open-is ∷ [] = search rules in
    let all = one_more_field t c.loop-id.known.items so-far.shown c.loop-id.id row open-is told so-far.count c.field-row.ensures opened
    c.in_ok-told.ensures so-far.all in
    record {
      shown = so-far.shown ++ told ∷ [];
      all = all ∙ ap (λ (l : List Bool). (so-far.shown ++ told ∷ []) ++ fields_from t l (drop (c.loop-id.id + 1) t.fields)) (sym pushed);
      count = search rules;
      gathers = line_more so-far.shown told _ _ _ c.args.waiting.now.items c.loop-id.waiting.items _ so-far.gathers
          c.in_ok-put_line.ensures.ok;
      later = omega (arith, so-far.later, c.in_ok-put_line.ensures.cause.later);
      rest = record {
        asked = c.in_ok-put_line.ensures.rest.asked ∙ so-far.rest.asked;
        err_faults = c.in_ok-put_line.ensures.rest.err_faults ∙ so-far.rest.err_faults;
        opened = c.in_ok-put_line.ensures.rest.opened ∙ so-far.rest.opened;
      };
    }
