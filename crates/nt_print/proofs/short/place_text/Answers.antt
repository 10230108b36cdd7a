use Rattle.std.proofs.Common.{◌≡◌, ◌+◌, [], ◌∷◌, ◌++◌, ◌∙◌, ap, take, length, arith, refl}
use Rattle.nt_print.proofs.SimpleTexts.{simple-put}
use Rattle.nt_print.proofs.short.place_text.Goals as goal

pub returns-clause-text : goal.returns-clause-text
returns-clause-text c = λ some.
    let bytes = c.args.bytes.now in
    let ends : length bytes + 3 ≡ length bytes + 2 + 1 = omega arith in
    simple-put [] (take 2 c.place_byte-2.new.room) (take (length bytes + 2) c.place_bytes.new.room)
    (take (length bytes + 3) c.place_byte-3.new.room) bytes c.args.mark (c.if-not-place_bytes.ensures.simple refl)
    (c.place_byte-2.ensures.text ∙ ap (λ l. l ++ 34 ∷ []) c.place_byte.ensures.text) (c.if-not-place_bytes.ensures.text refl)
    (ap (λ n. take n c.place_byte-3.new.room) ends ∙ c.place_byte-3.ensures.text)
