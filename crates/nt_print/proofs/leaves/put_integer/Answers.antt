use Rattle.std.proofs.Common.{rules, ◌≡◌, ◌++◌, ◌∷◌, ◌∙◌, ℤ, true, ap, sym, subst, arith}
use Rattle.std.specs.Prelude.{OnOk}
use Rattle.serde_json.specs.Written.{compact_text}
use Rattle.nt_types.specs.TreeData.{num}
use Rattle.nt_event.specs.Json.{data_of}
use Rattle.nt_trees.specs.Integers.{integer_of}
use Rattle.nt_print.proofs.Numbers.{integer_of-wide}
use Rattle.nt_print.proofs.leaves.put_integer.Goals as goal

pub returns-then-bits-gt64-clause-ok : goal.returns-then-bits-gt64-clause-ok
returns-then-bits-gt64-clause-ok c =
    let on : c.args.signed ≡ true = search (rules, c.if-not-signed.false) in
    let wide = ap (λ b. integer_of c.args.bits b c.args.element) on
    ∙ integer_of-wide c.args.bits c.args.element (omega (arith, c.if-bits-gt64.true)) c.ranges.element.fits in
    let put = c.put_digits-then-bits-gt64 in
    subst (λ (z : ℤ). OnOk put.result (put.new.out.items ≡ c.args.out.now.items ++ c.args.mark ∷ compact_text (data_of (num z))))
    (sym wide) put.ensures.ok
