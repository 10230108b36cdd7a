use Rattle.std.proofs.Common.{◌≡◌, ◌+◌, ◌∷◌, ◌++◌, [], ◌∙◌, take, get_or, sym, subst, refl}
use Rattle.std.proofs.lemmas.List.{take_more}
use Rattle.nt_print.specs.Simple.{AllSimple}
use Rattle.nt_print.proofs.SimpleTexts.{simple-append}
use Rattle.nt_print.proofs.ShortTexts.{one-more}
use Rattle.nt_print.proofs.short.place_few.Goals as goal

pub loop-i-preserved : goal.loop-i-preserved
loop-i-preserved c =
    let v = c.loop-i.invariant in
    let i = c.loop-i.i in
    let bytes = c.args.bytes.now in
    let x = get_or bytes i 0 in
    let next : take (i + 1) bytes ≡ take i bytes ++ x ∷ [] = take_more bytes i 0 c.loop-i-test.true in
    record {
      same = c.place_byte.ensures.len ∙ v.same;
      text = one-more (take 2 c.args.room.now) (take (i + 2) c.loop-i.room) c.place_byte.new.room bytes i x next v.text
          c.place_byte.ensures.text;
      simple = subst AllSimple (sym next) (simple-append (take i bytes) (x ∷ []) v.simple (c.if-not-is_simple.ensures refl, tt));
    }
