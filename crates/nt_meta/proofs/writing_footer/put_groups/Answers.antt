use Rattle.nt_pagelists.specs.FooterWriting.{group_text}
use Rattle.nt_meta.proofs.Appended.{texts-next}
use Rattle.nt_meta.proofs.writing_footer.put_groups.Goals as goal

pub loop-group-preserved : goal.loop-group-preserved
loop-group-preserved c =
    texts-next group_text c.args.groups.now c.loop-group.group-index _ c.loop-group.out c.put_group.new.out _ c.loop-group-test.true
    c.in_ok-put_group.ensures c.loop-group.invariant
