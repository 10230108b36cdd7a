use Rattle.std.proofs.Common.{ℕ, ℤ, ◌≡◌, ◌*◌, ◌/◌, ◌++◌, map, drop, length, ap, ◌∙◌, arith}
use Rattle.std.proofs.lemmas.List.{take_rest}
use Rattle.nt_trees.specs.Integers.{integer_of}
use Rattle.nt_print.specs.Integers.{integers_text}
use Rattle.nt_print.proofs.Arrays.{kept-kept}
use Rattle.nt_print.proofs.Parts.{IsPut-none, IsPut-part, eight-more, eight-some}
use Rattle.nt_print.proofs.lists.put_integers.Goals as goal

pub loop-i-init : goal.loop-i-init
loop-i-init g c = record { reached = omega arith; put = IsPut-none _ _ _ }

pub loop-i-preserved : goal.loop-i-preserved
loop-i-preserved g c =
    let v = c.loop-i.invariant in
    let words = c.args.words.now in
    let i = c.loop-i.i in
    let integer : ℕ → ℤ = integer_of c.args.bits c.args.signed in
    record {
      reached = omega (arith, c.loop-i-test.true);
      put = IsPut-part _ c.loop-i.out.items c.put_eight.new.out.items c.loop-i.mark _ _ _ _ (eight-more g.W.Word.number integer words i)
          (eight-some g.W.Word.number integer words i c.loop-i-test.true) v.put c.in_ok-put_eight.ensures.ok;
    }

pub returns-in_err-put_eight-clause-kept : goal.returns-in_err-put_eight-clause-kept
returns-in_err-put_eight-clause-kept g c =
    kept-kept _ c.loop-i.out.items c.put_eight.new.out.items c.loop-i.invariant.put.kept c.put_eight.ensures.kept

pub returns-in_err-put_rest-clause-kept : goal.returns-in_err-put_rest-clause-kept
returns-in_err-put_rest-clause-kept g c =
    kept-kept _ c.loop-i.out.items c.put_rest.new.out.items c.loop-i.invariant.put.kept c.put_rest.ensures.kept

pub returns-clause-ok : goal.returns-clause-ok
returns-clause-ok g c =
    let v = c.loop-i.invariant in
    let words = c.args.words.now in
    let blocks = length words / 8 in
    let integer : ℕ → ℤ = integer_of c.args.bits c.args.signed in
    let all : blocks ≡ c.loop-i.i = omega (arith, v.reached, c.loop-i-test.false) in
    let rest = take_rest words (8 * blocks) ∙ ap (λ n. drop (8 * n) words) all in
    let same = ap (λ ws. map integer (map g.W.Word.number ws)) rest in
    c.in_ok-put_rest.ensures.ok ∙ (ap (λ zs. c.loop-i.out.items ++ integers_text c.loop-i.mark zs) same ∙ v.put.text)
