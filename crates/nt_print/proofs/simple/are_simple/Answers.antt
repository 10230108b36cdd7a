use Rattle.std.proofs.Common.{get_or, sym, subst}
use Rattle.std.proofs.lemmas.Bool.{and_parts}
use Rattle.std.proofs.lemmas.List.{drop_more, drop_all}
use Rattle.nt_print.specs.Simple.{AllSimple}
use Rattle.nt_print.proofs.SimpleTexts.{simple-more}
use Rattle.nt_print.proofs.simple.are_simple.Goals as goal

pub loop-byte-init : goal.loop-byte-init
loop-byte-init c = λ true h. h

pub loop-byte-preserved : goal.loop-byte-preserved
loop-byte-preserved c =
    let bytes = c.args.bytes.now in
    let i = c.loop-byte.byte-index in
    λ all others.
    let p = and_parts c.loop-byte.all c.is_simple-all.result all in
    c.loop-byte.invariant p.0 (simple-more bytes i (get_or bytes i 0) (drop_more bytes i 0 c.loop-byte-test.true)
    (c.is_simple-all.ensures p.1) others)

pub returns : goal.returns
returns c =
    let none = drop_all c.loop-byte.byte-index c.args.bytes.now c.loop-byte-test.false in
    λ true. c.loop-byte.invariant true (subst AllSimple (sym none) tt)
