use Rattle.std.proofs.Common.{ℕ, ℤ, ◌≡◌, ◌+◌, ◌∷◌, ◌++◌, map, drop, ap, sym, ◌∙◌}
use Rattle.std.proofs.lemmas.List.{drop_more, drop_all}
use Rattle.serde_json.specs.Written.{compact_text}
use Rattle.nt_types.specs.TreeData.{num}
use Rattle.nt_event.specs.Json.{data_of}
use Rattle.nt_trees.specs.Integers.{integer_of}
use Rattle.nt_print.proofs.Arrays.{kept-kept}
use Rattle.nt_print.proofs.Parts.{IsPut-none, IsPut-next, IsPut-all}
use Rattle.nt_print.proofs.lists.put_some.Goals as goal

pub loop-word-init : goal.loop-word-init
loop-word-init g c = IsPut-none _ _ _

pub loop-word-preserved : goal.loop-word-preserved
loop-word-preserved g c =
    let words = c.args.words.now in
    let i = c.loop-word.word-index in
    let first = c.word-item.result in
    let o = c.loop-word.out.items in
    let integer : ℕ → ℤ = integer_of c.args.bits c.args.signed in
    let next : drop i words ≡ first ∷ drop (i + 1) words =
    drop_more words i first c.loop-word-test.true ∙ ap (λ w. w ∷ drop (i + 1) words) (sym c.word-item.is) in
    IsPut-next _ o c.put_integer.new.out.items c.loop-word.next (integer (g.W.Word.number first)) _ _ _
    (ap (λ ws. map integer (map g.W.Word.number ws)) next) c.loop-word.invariant
    (c.in_ok-put_integer.ensures.ok
    ∙ ap (λ (n : ℕ). o ++ c.loop-word.next ∷ compact_text (data_of (num (integer n)))) c.number.ensures)

pub returns-in_err-put_integer-clause-kept : goal.returns-in_err-put_integer-clause-kept
returns-in_err-put_integer-clause-kept g c =
    kept-kept _ c.loop-word.out.items c.put_integer.new.out.items c.loop-word.invariant.kept c.put_integer.ensures.kept

pub returns-clause-ok : goal.returns-clause-ok
returns-clause-ok g c =
    let integer : ℕ → ℤ = integer_of c.args.bits c.args.signed in
    let none = drop_all c.loop-word.word-index c.args.words.now c.loop-word-test.false in
    IsPut-all _ c.loop-word.out.items c.loop-word.next _ _ (ap (λ ws. map integer (map g.W.Word.number ws)) none) c.loop-word.invariant
