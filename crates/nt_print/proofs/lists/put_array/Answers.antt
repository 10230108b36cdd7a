use Rattle.std.proofs.Common.{ltb, ◌++◌, map, length, ap, sym, ◌∙◌, append_assoc}
use Rattle.std.proofs.lemmas.List.{length-map}
use Rattle.nt_trees.specs.Integers.{integer_of}
use Rattle.nt_print.specs.Integers.{integers_text}
use Rattle.nt_print.specs.Marks.{end_of}
use Rattle.nt_print.proofs.Arrays.{kept-kept}
use Rattle.nt_print.proofs.Parts.{line-ended}
use Rattle.nt_print.proofs.lists.put_array.Goals as goal

pub returns-in_err-put_end-clause-kept : goal.returns-in_err-put_end-clause-kept
returns-in_err-put_end-clause-kept g c =
    kept-kept c.args.out.now.items c.put_integers.new.out.items c.put_end.new.out.items c.put_integers.ensures.kept c.put_end.ensures.kept

pub returns-clause-ok : goal.returns-clause-ok
returns-clause-ok g c =
    let words = c.args.words.now in
    let old = c.args.out.now.items in
    let later = ltb 0 (length words) in
    let text = integers_text 91 (map (integer_of c.args.bits c.args.signed) (map g.W.Word.number words)) in
    let ends = line-ended c.args.bits c.args.signed (map g.W.Word.number words) later
    (ap (λ n. ltb 0 n) (sym (length-map words g.W.Word.number))) in
    c.in_ok-put_end.ensures.ok
    ∙ (ap (λ l. l ++ end_of later) c.in_ok-put_integers.ensures.ok ∙ (append_assoc old text (end_of later) ∙ ap (λ l. old ++ l) ends))
