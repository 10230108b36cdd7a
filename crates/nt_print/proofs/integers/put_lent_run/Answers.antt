use Rattle.std.proofs.Common.{◌≡◌, ◌++◌, ◌∙◌, ℕ, ℤ, List, map, ap, sym, subst}
use Rattle.std.specs.Prelude.{OnOk}
use Rattle.nt_column.specs.Bits.{bit_of}
use Rattle.nt_column.specs.Elements.{numbers}
use Rattle.nt_column.specs.Words.{lent_elements}
use Rattle.nt_column.proofs.Numbers.{numbers-plain}
use Rattle.nt_trees.specs.Integers.{integer_of}
use Rattle.nt_print.specs.Integers.{integers_text}
use Rattle.nt_print.proofs.integers.put_lent_run.Goals as goal

pub returns-in-Bits-clause-ok : goal.returns-in-Bits-clause-ok
returns-in-Bits-clause-ok c =
    let put = c.put_words_run in
    let same = sym (numbers-plain bit_of c.in-Bits.list.now) ∙ ap (λ w. numbers (lent_elements w)) (sym c.in-Bits.is) in
    let integer : ℕ → ℤ = integer_of c.args.bits c.args.signed in
    subst (λ (ns : List ℕ). OnOk put.result (put.new.out.items ≡ c.args.out.now.items ++ integers_text c.args.mark (map integer ns)))
    same put.ensures.ok

pub returns-in-Bytes-clause-ok : goal.returns-in-Bytes-clause-ok
returns-in-Bytes-clause-ok c =
    let put = c.put_words_run-in-Bytes in
    let same = sym (numbers-plain (λ (n : ℕ). n) c.in-Bytes.list.now) ∙ ap (λ w. numbers (lent_elements w)) (sym c.in-Bytes.is) in
    let integer : ℕ → ℤ = integer_of c.args.bits c.args.signed in
    subst (λ (ns : List ℕ). OnOk put.result (put.new.out.items ≡ c.args.out.now.items ++ integers_text c.args.mark (map integer ns)))
    same put.ensures.ok

pub returns-in-Words16-clause-ok : goal.returns-in-Words16-clause-ok
returns-in-Words16-clause-ok c =
    let put = c.put_words_run-in-Words16 in
    let same = sym (numbers-plain (λ (n : ℕ). n) c.in-Words16.list.now) ∙ ap (λ w. numbers (lent_elements w)) (sym c.in-Words16.is) in
    let integer : ℕ → ℤ = integer_of c.args.bits c.args.signed in
    subst (λ (ns : List ℕ). OnOk put.result (put.new.out.items ≡ c.args.out.now.items ++ integers_text c.args.mark (map integer ns)))
    same put.ensures.ok

pub returns-in-Words32-clause-ok : goal.returns-in-Words32-clause-ok
returns-in-Words32-clause-ok c =
    let put = c.put_words_run-in-Words32 in
    let same = sym (numbers-plain (λ (n : ℕ). n) c.in-Words32.list.now) ∙ ap (λ w. numbers (lent_elements w)) (sym c.in-Words32.is) in
    let integer : ℕ → ℤ = integer_of c.args.bits c.args.signed in
    subst (λ (ns : List ℕ). OnOk put.result (put.new.out.items ≡ c.args.out.now.items ++ integers_text c.args.mark (map integer ns)))
    same put.ensures.ok

pub returns-in-Words64-clause-ok : goal.returns-in-Words64-clause-ok
returns-in-Words64-clause-ok c =
    let put = c.put_words_run-in-Words64 in
    let same = sym (numbers-plain (λ (n : ℕ). n) c.in-Words64.list.now) ∙ ap (λ w. numbers (lent_elements w)) (sym c.in-Words64.is) in
    let integer : ℕ → ℤ = integer_of c.args.bits c.args.signed in
    subst (λ (ns : List ℕ). OnOk put.result (put.new.out.items ≡ c.args.out.now.items ++ integers_text c.args.mark (map integer ns)))
    same put.ensures.ok
