use Rattle.std.proofs.Common.{refl, sym, subst, ap, ◌∙◌, ◌≤◌}
use Rattle.std.specs.Prelude.{length}
use Rattle.test_commit.proofs.Sole.{left-by-answer, same-length}
use Rattle.test_commit.proofs.contexts.commit_one.Goals as goal

pub returns-clause-len : goal.returns-clause-len
returns-clause-len g c =
    let image = c.requires.image_is in
    ap (λ i. length i.bytes) c.commit.ensures.image
    ∙ same-length g.D.Ext.Ext.state c.args.image.now c.commit.result (subst (λ n. 42 ≤ n) image.whole image.room)

pub returns-clause-left : goal.returns-clause-left
returns-clause-left g c =
    left-by-answer g.D.Disk.state g.D.Ext.Ext.state _ _ _ _ _ c.commit.result c.requires.back c.requires.image_is.context_is
    c.requires.image_is.whole c.commit.ensures.commits
