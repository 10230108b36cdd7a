use Rattle.std.proofs.Common.{◌≡◌, ℕ, ◌+◌, ◌-◌, ◌%◌, [], ◌∷◌, ◌++◌, map, ap, sym, subst, ◌∙◌, arith}
use Rattle.std.proofs.lemmas.List.{map-append}
use Rattle.nt_column.specs.Elements.{plain}
use Rattle.nt_trees.specs.TreeAt.{text_from}
use Rattle.nt_trees.proofs.Leaves.{length-plain}
use Rattle.nt_shred.specs.Frame.{IsPlain}
use Rattle.nt_moving.proofs.Adding.{SomeAdded, none-added, more-room, more-added, all-added, length-text, text_from-more}
use Rattle.nt_moving.proofs.texts.move_each_byte.Goals as goal

pub loop-i-init : goal.loop-i-init
loop-i-init g c =
    let t = c.args.text in
    let es = g.C.Columns.elements c.args.columns.now t.column in
    let whole = map plain (text_from es t.from (t.to - t.from)) in
    let none : t.from - t.from ≡ 0 = omega arith in
    subst (λ (n : ℕ). SomeAdded c.args.column (map plain (text_from es t.from n)) whole c.args.out.now c.args.out.now) (sym none)
    (none-added c.args.column whole c.args.out.now c.requires.room)

pub push_at_width-requires-clause-column : goal.push_at_width-requires-clause-column
push_at_width-requires-clause-column g c = (
  subst (λ fr. IsPlain fr c.args.column 8) (sym c.loop-i.invariant.gains.frame) c.requires.column,
  omega arith,
)

pub push_at_width-requires-clause-room : goal.push_at_width-requires-clause-room
push_at_width-requires-clause-room g c =
    let t = c.args.text in
    let es = g.C.Columns.elements c.args.columns.now t.column in
    let part = text_from es t.from (c.loop-i.i - t.from) in
    let whole = text_from es t.from (t.to - t.from) in
    more-room c.args.column (map plain part) (plain (c.number.result % 256) ∷ []) (map plain whole) c.args.out.now c.loop-i.out
    c.loop-i.invariant (omega (
      arith,
      c.loop-i-test.true,
      c.loop-i.auto,
      c.requires.order,
      c.requires.within,
      length-plain part,
      length-plain whole,
      length-text es t.from (c.loop-i.i - t.from) (omega (arith, c.loop-i-test.true, c.loop-i.auto, c.requires.within)),
      length-text es t.from (t.to - t.from) (omega (arith, c.requires.order, c.requires.within)),
    ))

pub loop-i-preserved : goal.loop-i-preserved
loop-i-preserved g c =
    let t = c.args.text in
    let es = g.C.Columns.elements c.args.columns.now t.column in
    let i = c.loop-i.i in
    let part = text_from es t.from (i - t.from) in
    let more = text_from-more es t.from i (omega (arith, c.loop-i.auto)) (omega (arith, c.loop-i-test.true, c.requires.within)) in
    more-added c.args.column (map plain part) _ (map plain (text_from es t.from (i + 1 - t.from)))
    (map plain (text_from es t.from (t.to - t.from))) c.args.out.now c.loop-i.out c.push_at_width.new.out c.loop-i.invariant
    c.push_at_width.ensures
    (ap (map plain) more ∙ map-append plain part _ ∙ ap (λ (n : ℕ). map plain part ++ plain (n % 256) ∷ []) (sym c.number.ensures))

pub returns : goal.returns
returns g c =
    let t = c.args.text in
    let es = g.C.Columns.elements c.args.columns.now t.column in
    let end : c.loop-i.i ≡ t.to = omega (arith, c.loop-i.auto, c.loop-i-test.false, c.requires.order) in
    all-added c.args.column _ _ c.args.out.now c.loop-i.out c.loop-i.invariant
    (ap (λ (i : ℕ). map plain (text_from es t.from (i - t.from))) end)
