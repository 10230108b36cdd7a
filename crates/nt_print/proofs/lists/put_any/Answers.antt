use Rattle.std.proofs.Common.{refl}
use Rattle.nt_types.specs.TreeData.{items}
use Rattle.nt_event.proofs.Prints.{kept-on}
use Rattle.nt_print.proofs.Arrays.{mark-put}
use Rattle.nt_print.specs.Integers.{integer_trees}
use Rattle.std.proofs.Common.{map}
use Rattle.nt_print.proofs.lists.put_any.Goals as goal

pub returns-clause-ok : goal.returns-clause-ok
returns-clause-ok g c =
    mark-put c.args.out.now.items _ _ c.args.mark
    (items (integer_trees c.args.bits c.args.signed (map g.W.Word.number c.args.words.now))) _
    c.in_ok-push.ensures.items c.in_ok-put_array.ensures.ok refl

pub returns-in_err-put_array-clause-kept : goal.returns-in_err-put_array-clause-kept
returns-in_err-put_array-clause-kept g c =
    kept-on c.args.out.now.items _ _ _ c.in_ok-push.ensures.items c.put_array.ensures.kept
