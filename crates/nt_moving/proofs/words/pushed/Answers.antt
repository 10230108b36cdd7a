use Rattle.std.proofs.Common.{ℕ, ◌+◌, ◌<◌, ◌^◌, ◌∷◌, ◌++◌, [], map, take, sym, ap, subst, ◌∙◌, arith}
use Rattle.std.proofs.lemmas.List.{get_or-map, length-map, map_more}
use Rattle.nt_types.specs.ColumnTable.{bits_of}
use Rattle.nt_column.specs.Column.{Column}
use Rattle.nt_column.specs.Elements.{Element, plain}
use Rattle.nt_moving.proofs.Runs.{takes-next, pushed-more}
use Rattle.nt_moving.proofs.words.pushed.Goals as goal

pub push_at_width-requires-clause-width : goal.push_at_width-requires-clause-width
push_at_width-requires-clause-width g c = ap (λ (x : Column). bits_of x.kind) c.loop-word.invariant.column ∙ c.requires.takes.width

pub push_at_width-requires-clause-takes : goal.push_at_width-requires-clause-takes
push_at_width-requires-clause-takes g c =
    let f = g.W.Word.element in
    let words = c.args.words.1.now in
    let i = c.loop-word.word-index in
    let x = c.word-item.result in
    let fits = (c.requires.fit i (omega (arith, c.loop-word-test.true, length-map words f))).0 in
    let here = get_or-map f words i x (0, 0) c.loop-word-test.true in
    let is = ap (λ (e : Element). e.0) (here ∙ ap f (sym c.word-item.is) ∙ c.number.ensures) in
    takes-next _ i c.number.result c.args.words.0 _ c.args.column c.loop-word.longer c.loop-word.invariant c.requires.takes
    (subst (λ (n : ℕ). n < 2 ^ c.args.words.0) is fits)

pub push_at_width-requires-clause-spare : goal.push_at_width-requires-clause-spare
push_at_width-requires-clause-spare g c =
    omega (arith, c.loop-word.invariant.spare, c.requires.takes.room, c.loop-word-test.true)

pub loop-word-preserved : goal.loop-word-preserved
loop-word-preserved g c =
    let f = g.W.Word.element in
    let words = c.args.words.1.now in
    let i = c.loop-word.word-index in
    let x = c.word-item.result in
    pushed-more (map f (take i words)) (map f (take (i + 1) words)) (plain c.number.result) i c.args.column c.loop-word.longer
    c.push_at_width.new.self c.loop-word.invariant c.push_at_width.ensures.column c.push_at_width.ensures.spare
    (map_more f words i x c.loop-word-test.true
    ∙ ap (λ (e : Element). map f (take i words) ++ e ∷ []) (ap f (sym c.word-item.is) ∙ c.number.ensures))
