use Rattle.std.proofs.Common.{refl}
use Rattle.nt_types.specs.TreeData.{text}
use Rattle.nt_event.proofs.Prints.{kept-on}
use Rattle.nt_print.proofs.Arrays.{mark-put}
use Rattle.nt_print.proofs.texts.put_any.Goals as goal

pub returns-clause-ok : goal.returns-clause-ok
returns-clause-ok c =
    mark-put c.args.out.now.items _ _ c.args.mark (text c.args.bytes.now) _ c.in_ok-push.ensures.items c.in_ok-write_text.ensures.ok refl

pub returns-in_err-write_text-clause-kept : goal.returns-in_err-write_text-clause-kept
returns-in_err-write_text-clause-kept c =
    kept-on c.args.out.now.items _ _ _ c.in_ok-push.ensures.items c.write_text.ensures.kept
