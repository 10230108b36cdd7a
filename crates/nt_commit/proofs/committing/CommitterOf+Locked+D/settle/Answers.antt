use Rattle.std.proofs.Common.{sym, subst, refl}
use Rattle.nt_machine.specs.History.{ranges_of}
use Rattle.nt_commit.specs.Claims.{IsClaimOf}
use Rattle.nt_commit.specs.Locked.{history_of_locked}
use Rattle.nt_commit.proofs.Holding.{claim_taken, settles_by, adds, hold}
use Rattle.nt_commit.proofs.committing.CommitterOf+Locked+D.settle.Goals as goal

pub settle-requires-clause-own : goal.settle-requires-clause-own
settle-requires-clause-own g c =
    subst (λ n. IsClaimOf g.D.Ext.Ext.state (g.D.Disk.state c.take-locked.result.birth.begun).held
    (ranges_of (history_of_locked g.D.Disk.state c.take-locked.result)) n c.args.claim)
    (sym c.number-context.ensures)
    (claim_taken g.D.Disk.state _ _ _ _ c.requires.pass c.take-locked.ensures.pass c.take-locked.ensures.took g.D.Ext.Ext.state
    c.args.claim c.requires.own)

pub give-requires-clause-adds : goal.give-requires-clause-adds
give-requires-clause-adds g c =
    let grows = settles_by g.D.Disk.state _ _ _ _ c.requires.pass c.take-locked.ensures.pass c.take-locked.ensures.took _
    c.number-context.result c.args.claim.cluster (g.D.Ext.Ext.state c.args.claim.ext) c.number-context.ensures
    c.settle.ensures.settles in
    adds g.D.Disk.state _ _ _ _ c.requires.pass c.take-locked.ensures.pass c.take-locked.ensures.took c.settle.new.self _
    c.settle.ensures.step grows (refl, tt)

pub returns : goal.returns
returns g c =
    let grows = settles_by g.D.Disk.state _ _ _ _ c.requires.pass c.take-locked.ensures.pass c.take-locked.ensures.took _
    c.number-context.result c.args.claim.cluster (g.D.Ext.Ext.state c.args.claim.ext) c.number-context.ensures
    c.settle.ensures.settles in
    record {
      settles = record {
        taken = c.take-locked.result;
        given = c.settle.new.self;
        hold = hold g.D.Disk.state _ _ _ _ c.requires.pass c.take-locked.ensures.pass c.take-locked.ensures.took _ _
            c.settle.ensures.step grows (refl, tt) _ c.give.ensures;
      };
    }
