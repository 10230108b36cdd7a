use Rattle.std.proofs.Common.{◌≡◌, ◌+◌, ◌-◌, ◌∙◌, take, length, length-take-le, arith, refl}
use Rattle.nt_print.proofs.ShortTexts.{eight-more, eight-simple, eights-end, eights-simple}
use Rattle.nt_print.proofs.short.place_eights.Goals as goal

pub loop-from-preserved : goal.loop-from-preserved
loop-from-preserved c =
    let v = c.loop-from.invariant in
    let from = c.loop-from.from in
    let bytes = c.args.bytes.now in
    record {
      same = c.place_part.ensures.len ∙ v.same;
      text = eight-more (take 2 c.args.room.now) (take (from + 2) c.loop-from.room) c.place_part.new.room bytes from v.text
          c.place_part.ensures.text;
      simple = eight-simple bytes from v.simple (c.if-not-place_part.ensures.simple refl);
    }

pub returns-clause-text : goal.returns-clause-text
returns-clause-text c = λ all.
    let bytes = c.args.bytes.now in
    let last = length bytes - 8 in
    let long = c.requires.many in
    let two : length (take 2 c.args.room.now) ≡ 2 = length-take-le 2 c.args.room.now (omega (arith, c.requires.room, long)) in
    eights-end (take 2 c.args.room.now) c.loop-from.room c.place_part-2.new.room bytes c.loop-from.from last two (omega (arith, long))
    (omega (arith, c.loop-from-test.false)) c.loop-from.invariant.text c.place_part-2.ensures.text

pub returns-clause-simple : goal.returns-clause-simple
returns-clause-simple c = λ all.
    let bytes = c.args.bytes.now in
    eights-simple bytes c.loop-from.from (length bytes - 8) (omega (arith, c.requires.many)) (omega (arith, c.loop-from-test.false))
    c.loop-from.invariant.simple (c.place_part-2.ensures.simple all)
