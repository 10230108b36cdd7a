use Rattle.std.proofs.Common.{rules, ◌≡◌, ◌++◌, ◌∷◌, ◌∙◌, ℤ, true, take, ap, sym, subst, arith}
use Rattle.serde_json.specs.Written.{compact_text}
use Rattle.nt_types.specs.TreeData.{num}
use Rattle.nt_event.specs.Json.{data_of}
use Rattle.nt_trees.specs.Integers.{integer_of}
use Rattle.nt_print.proofs.Numbers.{integer_of-wide}
use Rattle.nt_lines.proofs.placing.place_integer.Goals as goal

pub returns-then-bits-gt64-clause-text : goal.returns-then-bits-gt64-clause-text
returns-then-bits-gt64-clause-text c =
    let on : c.args.form.1 ≡ true = search (rules, c.if-not-signed.false) in
    let wide = ap (λ b. integer_of c.args.form.0 b c.args.element) on
    ∙ integer_of-wide c.args.form.0 c.args.element (omega (arith, c.if-bits-gt64.true)) c.ranges.element.fits in
    let put = c.place_digits-then-bits-gt64 in
    subst (λ (z : ℤ). take put.result put.new.room ≡ take c.args.at c.args.room.now ++ c.args.mark ∷ compact_text (data_of (num z)))
    (sym wide) put.ensures.text
