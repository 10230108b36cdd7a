use Rattle.std.proofs.Common.{◌-◌, ◌∷◌, [], ◌++◌, ℕ, List, false, map, take, sym, ap, subst, ◌∙◌, arith}
use Rattle.std.proofs.Common.{append_assoc}
use Rattle.serde_json.specs.Written.{compact_text}
use Rattle.nt_event.specs.Json.{data_of, line_of}
use Rattle.nt_trees.specs.TreeAt.{trees_from}
use Rattle.nt_lines.specs.Lent.{option_tree}
use Rattle.nt_print.proofs.Arrays.{IsBegun, IsBegun-none, IsBegun-next, IsBegun-end, trees_from-first, trees_from-none}
use Rattle.nt_lines.proofs.Placed.{kept-placed}
use Rattle.nt_lines.proofs.options.place_options.Goals as goal

pub loop-i-init : goal.loop-i-init
loop-i-init g c =
    let front = take c.args.at c.args.room.now ++ c.args.mark ∷ [] in
    let s = c.args.options in
    let tree = option_tree s.ends.now (map g.W.Word.number s.words.now) s.form.0 s.form.1 in
    let whole = trees_from tree c.args.part.0 (c.args.part.1 - c.args.part.0) in
    record {
      low = omega arith;
      high = c.requires.has.0;
      within = omega arith;
      same = c.place_byte.ensures.len;
      begun = subst (λ (l : List ℕ). IsBegun front l false whole whole) (sym c.place_byte.ensures.text) (IsBegun-none front whole);
    }

pub place_option-end-requires : goal.place_option-end-requires
place_option-end-requires g c = (
  c.requires.has.1 c.loop-i.i c.loop-i-test.true,
  omega (
    arith,
    c.loop-i.invariant.within,
    c.loop-i.invariant.same,
    c.loop-i.invariant.low,
    c.loop-i-test.true,
    c.if-numbers-lt2.false,
    c.if-to-from.false,
    c.requires.within,
  ),
)

pub loop-i-preserved : goal.loop-i-preserved
loop-i-preserved g c =
    let v = c.loop-i.invariant in
    let i = c.loop-i.i in
    let to = c.args.part.1 in
    let s = c.args.options in
    let tree = option_tree s.ends.now (map g.W.Word.number s.words.now) s.form.0 s.form.1 in
    record {
      low = omega (arith, v.low);
      high = omega (arith, c.loop-i-test.true);
      within = omega (arith, v.within, v.low, c.place_option-end.ensures.few);
      same = c.place_option-end.ensures.len ∙ v.same;
      begun = IsBegun-next (take c.args.at c.args.room.now ++ c.args.mark ∷ []) (take c.loop-i.end c.loop-i.room)
          (take c.place_option-end.result c.place_option-end.new.room) c.loop-i.later (tree i) _ _ _
          (trees_from-first tree i to c.loop-i-test.true) v.begun
          (c.place_option-end.ensures.text
          ∙ ap (λ (n : ℕ). take c.loop-i.end c.loop-i.room ++ n ∷ compact_text (data_of (tree i))) c.mark_before.ensures);
    }

pub place_end-requires : goal.place_end-requires
place_end-requires g c =
    omega (
      arith,
      c.loop-i.invariant.within,
      c.loop-i.invariant.same,
      c.loop-i.invariant.high,
      c.loop-i.invariant.low,
      c.if-numbers-lt2.false,
      c.if-to-from.false,
      c.requires.within,
    )

pub returns-clause-text : goal.returns-clause-text
returns-clause-text g c = λ some.
    let v = c.loop-i.invariant in
    let o = take c.args.at c.args.room.now in
    let s = c.args.options in
    let tree = option_tree s.ends.now (map g.W.Word.number s.words.now) s.form.0 s.form.1 in
    let whole = trees_from tree c.args.part.0 (c.args.part.1 - c.args.part.0) in
    IsBegun-end (o ++ c.args.mark ∷ []) (take c.loop-i.end c.loop-i.room) (take c.place_end.result c.place_end.new.room) c.loop-i.later _
    whole
    (trees_from-none tree c.loop-i.i c.args.part.1 c.loop-i-test.false) v.begun c.place_end.ensures.text
    ∙ append_assoc o (c.args.mark ∷ []) (line_of whole)

pub returns-clause-kept : goal.returns-clause-kept
returns-clause-kept g c =
    let v = c.loop-i.invariant in
    let o = take c.args.at c.args.room.now in
    let s = c.args.options in
    let tree = option_tree s.ends.now (map g.W.Word.number s.words.now) s.form.0 s.form.1 in
    let whole = trees_from tree c.args.part.0 (c.args.part.1 - c.args.part.0) in
    kept-placed c.args.at c.place_end.result c.args.room.now c.place_end.new.room (c.args.mark ∷ line_of whole) c.requires.within
    (IsBegun-end (o ++ c.args.mark ∷ []) (take c.loop-i.end c.loop-i.room) (take c.place_end.result c.place_end.new.room) c.loop-i.later _
    whole
    (trees_from-none tree c.loop-i.i c.args.part.1 c.loop-i-test.false) v.begun c.place_end.ensures.text
    ∙ append_assoc o (c.args.mark ∷ []) (line_of whole))
