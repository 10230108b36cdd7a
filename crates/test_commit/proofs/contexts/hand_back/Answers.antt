use Rattle.std.proofs.Common.{refl, ap, sym, subst, ◌∙◌}
use Rattle.nt_commit.specs.Holds.{HasNoneOut}
use Rattle.test_commit.proofs.Sole.{none_settled, none_spoiled}
use Rattle.test_commit.proofs.contexts.hand_back.Goals as goal

pub returns-in-Ok-clause-back : goal.returns-in-Ok-clause-back
returns-in-Ok-clause-back g c =
    subst HasNoneOut (sym (ap (λ p. p.own) c.settle.ensures.settles.hold.now))
    (none_settled g.D.Ext.Ext.state _ c.args.pass.now.own _ _ _ c.args.claim _ c.requires.claim refl)

pub returns-in-Err-clause-back : goal.returns-in-Err-clause-back
returns-in-Err-clause-back g c =
    subst HasNoneOut (sym (ap (λ p. p.own) c.spoil.ensures.spoils.hold.now))
    (none_spoiled g.D.Ext.Ext.state _ c.args.pass.now.own _ _ _ _ c.args.claim c.requires.claim refl)
