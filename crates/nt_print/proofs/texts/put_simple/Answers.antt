use Rattle.nt_print.proofs.SimpleTexts.{simple-put}
use Rattle.nt_print.proofs.texts.put_simple.Goals as goal

pub returns-clause-ok : goal.returns-clause-ok
returns-clause-ok c =
    simple-put c.args.out.now.items _ _ _ c.args.bytes.now c.args.mark c.requires c.in_ok-extend_from_slice.ensures.items
    c.in_ok-extend_from_slice-2.ensures.items c.in_ok-push.ensures.items
