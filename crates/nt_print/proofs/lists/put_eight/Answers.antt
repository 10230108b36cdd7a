use Rattle.std.proofs.Common.{◌≡◌, ◌++◌, ℤ, List, map, subst}
use Rattle.std.specs.Prelude.{OnOk}
use Rattle.nt_print.specs.Integers.{integers_text}
use Rattle.nt_print.proofs.Parts.{below-more, integers-below}
use Rattle.nt_print.proofs.lists.put_eight.Goals as goal

pub put_block-requires-clause-below : goal.put_block-requires-clause-below
put_block-requires-clause-below g c =
    below-more c.short_end-end.result 1000000 (map g.W.Word.number c.args.words.now) c.short_end-end.ensures.short
    (c.are_below.ensures c.if-are_below.true)

pub returns-then-are_below-clause-ok : goal.returns-then-are_below-clause-ok
returns-then-are_below-clause-ok g c =
    subst (λ (zs : List ℤ). OnOk c.put_block.result (c.put_block.new.out.items ≡ c.args.out.now.items ++ integers_text c.args.mark zs))
    (integers-below c.args.bits c.args.signed c.short_end-end.result (map g.W.Word.number c.args.words.now) c.short_end-end.ensures.same
    (c.are_below.ensures c.if-are_below.true)) c.put_block.ensures.ok
