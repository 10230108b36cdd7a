use Rattle.std.proofs.Common.{map, sym, subst}
use Rattle.std.proofs.lemmas.List.{drop_all}
use Rattle.nt_print.specs.Integers.{AreBelow}
use Rattle.nt_print.proofs.lists.are_below.Goals as goal

pub loop-word-init : goal.loop-word-init
loop-word-init g c = λ true h. h

pub returns : goal.returns
returns g c =
    let none = drop_all c.loop-word.word-index c.args.words.now c.loop-word-test.false in
    λ true. c.loop-word.invariant true (subst (λ ws. AreBelow c.args.end (map g.W.Word.number ws)) (sym none) tt)
