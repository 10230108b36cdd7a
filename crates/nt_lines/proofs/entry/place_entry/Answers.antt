use Rattle.std.proofs.Common.{◌++◌, ◌∷◌, [], List, ℕ, length, take, ap, ◌∙◌, arith}
use Rattle.std.proofs.lemmas.List.{take_all}
use Rattle.nt_event.specs.Json.{line_of}
use Rattle.nt_lines.specs.Lines.{entry_trees, rest_behind}
use Rattle.nt_lines.proofs.Placed.{written-back, kept-cut}
use Rattle.nt_lines.proofs.Written.{line-whole}
use Rattle.nt_lines.proofs.entry.place_entry.Goals as goal

pub returns-then-ended-clause-text : goal.returns-then-ended-clause-text
returns-then-ended-clause-text g c =
    let o = c.args.out.now in
    let value = c.as_mut_slice.ensures.value in
    let line = line_of (entry_trees c.args.lines.now.plans.items (g.C.Columns.elements c.args.lines.now.columns.now) c.args.i) in
    let back = written-back o.len o.items c.place_line.new.room (omega (arith, o.ok)) (c.place_line.ensures.room.1 ∙ ap length value) in
    ap (take c.in_ok-count.at) back ∙ c.in_ok-count.ensures.whole c.if-ended.true
    ∙ ap (λ (l : List ℕ). take c.args.from l ++ (line ++ 10 ∷ [])) value

pub returns-then-ended-clause-kept : goal.returns-then-ended-clause-kept
returns-then-ended-clause-kept g c =
    let o = c.args.out.now in
    let value = c.as_mut_slice.ensures.value in
    let back = written-back o.len o.items c.place_line.new.room (omega (arith, o.ok)) (c.place_line.ensures.room.1 ∙ ap length value) in
    ap (take c.args.from) back ∙ c.place_line.ensures.kept ∙ ap (take c.args.from) value

pub returns-in_err-put_rest-clause-kept : goal.returns-in_err-put_rest-clause-kept
returns-in_err-put_rest-clause-kept g c =
    let o = c.args.out.now in
    let value = c.as_mut_slice.ensures.value in
    let back = written-back o.len o.items c.place_line.new.room (omega (arith, o.ok)) (c.place_line.ensures.room.1 ∙ ap length value) in
    kept-cut c.args.from c.in_ok-count.at o.items c.place_line.new.room c.truncate.new.self.items c.put_rest.new.out.items
    c.in_ok-count.ensures.room.0.0 c.in_ok-count.ensures.room.0.1 (c.truncate.ensures.items ∙ ap (take c.in_ok-count.at) back)
    c.put_rest.ensures.kept (c.place_line.ensures.kept ∙ ap (take c.args.from) value)

pub returns-clause-kept : goal.returns-clause-kept
returns-clause-kept g c =
    let o = c.args.out.now in
    let value = c.as_mut_slice.ensures.value in
    let back = written-back o.len o.items c.place_line.new.room (omega (arith, o.ok)) (c.place_line.ensures.room.1 ∙ ap length value) in
    kept-cut c.args.from c.in_ok-count.at o.items c.place_line.new.room c.truncate.new.self.items c.put_rest.new.out.items
    c.in_ok-count.ensures.room.0.0 c.in_ok-count.ensures.room.0.1 (c.truncate.ensures.items ∙ ap (take c.in_ok-count.at) back)
    c.put_rest.ensures.kept (c.place_line.ensures.kept ∙ ap (take c.args.from) value)

pub returns-clause-text : goal.returns-clause-text
returns-clause-text g c =
    let o = c.args.out.now in
    let room = c.place_line.new.room in
    let at = c.in_ok-count.at in
    let cols = g.C.Columns.elements c.args.lines.now.columns.now in
    let plans = c.args.lines.now.plans.items in
    let line = line_of (entry_trees plans cols c.args.i) in
    let rest = rest_behind c.in_ok-count.count plans cols c.args.i in
    let value = c.as_mut_slice.ensures.value in
    let back = written-back o.len o.items room (omega (arith, o.ok)) (c.place_line.ensures.room.1 ∙ ap length value) in
    take_all _ c.put_rest.new.out.items (omega (arith, c.len.ensures, c.put_rest.new.out.ok))
    ∙ line-whole (take c.args.from o.items) (take at room) c.put_rest.new.out.items rest line
    ((c.in_ok-count.ensures.begun c.if-ended.false).values.text ∙ ap (λ (l : List ℕ). take c.args.from l ++ line) value)
    (c.in_ok-put_rest.ensures.ok ∙ ap (λ (l : List ℕ). l ++ (rest ++ 10 ∷ [])) (c.truncate.ensures.items ∙ ap (take at) back))
