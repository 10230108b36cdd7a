use Rattle.std.proofs.Common.{ℕ, ◌≡◌, ◌+◌, ◌∷◌, ◌++◌, refl, pos, decimal, map, take, drop, ap, sym, ◌∙◌, subst, arith}
use Rattle.std.proofs.lemmas.List.{drop_more, drop_all}
use Rattle.nt_print.specs.Integers.{AreBelow}
use Rattle.nt_print.proofs.Parts.{IsPut-none, IsPut-next, IsPut-all}
use Rattle.nt_print.proofs.blocks.place_each.Goals as goal

pub loop-word-init : goal.loop-word-init
loop-word-init g c = record { within = omega arith; same = refl; below = c.requires.below; put = IsPut-none _ _ _ }

pub loop-word-preserved : goal.loop-word-preserved
loop-word-preserved g c =
    let v = c.loop-word.invariant in
    let words = c.args.words.now in
    let i = c.loop-word.word-index in
    let first = c.word-item.result in
    let front = take c.loop-word.at c.loop-word.room in
    let next : drop i words ≡ first ∷ drop (i + 1) words =
    drop_more words i first c.loop-word-test.true ∙ ap (λ w. w ∷ drop (i + 1) words) (sym c.word-item.is) in
    let below = subst (λ ws. AreBelow 1000000 (map g.W.Word.number ws)) next v.below in
    record {
      within = omega (arith, v.within, c.place_short-at.ensures.few);
      same = c.place_short-at.ensures.len ∙ v.same;
      below = below.1;
      put = IsPut-next (take c.args.from c.args.room.now) front _ c.loop-word.next (pos (g.W.Word.number first)) _ _ _
          (ap (λ ws. map pos (map g.W.Word.number ws)) next) v.put
          (c.place_short-at.ensures.text ∙ ap (λ (n : ℕ). front ++ c.loop-word.next ∷ decimal n) c.number.ensures);
    }

pub returns-clause-text : goal.returns-clause-text
returns-clause-text g c =
    let none = drop_all c.loop-word.word-index c.args.words.now c.loop-word-test.false in
    IsPut-all (take c.args.from c.args.room.now) (take c.loop-word.at c.loop-word.room) c.loop-word.next _ _
    (ap (λ ws. map pos (map g.W.Word.number ws)) none)
    c.loop-word.invariant.put
