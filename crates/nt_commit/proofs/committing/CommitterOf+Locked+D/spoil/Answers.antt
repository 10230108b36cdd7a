use Rattle.std.proofs.Common.{sym, subst, refl}
use Rattle.nt_machine.specs.History.{ranges_of}
use Rattle.nt_commit.specs.Claims.{IsClaimOf}
use Rattle.nt_commit.specs.Locked.{history_of_locked}
use Rattle.nt_commit.proofs.Holding.{claim_taken, spoils_by, adds, hold}
use Rattle.nt_commit.proofs.committing.CommitterOf+Locked+D.spoil.Goals as goal

pub spoil-requires-clause-own : goal.spoil-requires-clause-own
spoil-requires-clause-own g c =
    subst (λ n. IsClaimOf g.D.Ext.Ext.state (g.D.Disk.state c.take-locked.result.birth.begun).held
    (ranges_of (history_of_locked g.D.Disk.state c.take-locked.result)) n c.args.claim)
    (sym c.number-context.ensures)
    (claim_taken g.D.Disk.state _ _ _ _ c.requires.pass c.take-locked.ensures.pass c.take-locked.ensures.took g.D.Ext.Ext.state
    c.args.claim c.requires.own)

pub give-requires-clause-adds : goal.give-requires-clause-adds
give-requires-clause-adds g c =
    let grows = spoils_by g.D.Disk.state _ _ _ _ c.requires.pass c.take-locked.ensures.pass c.take-locked.ensures.took _
    c.number-context.result c.args.claim.cluster c.number-context.ensures c.spoil.ensures.spoils in
    adds g.D.Disk.state _ _ _ _ c.requires.pass c.take-locked.ensures.pass c.take-locked.ensures.took c.spoil.new.self _
    c.spoil.ensures.step grows (refl, tt)

pub returns : goal.returns
returns g c =
    let grows = spoils_by g.D.Disk.state _ _ _ _ c.requires.pass c.take-locked.ensures.pass c.take-locked.ensures.took _
    c.number-context.result c.args.claim.cluster c.number-context.ensures c.spoil.ensures.spoils in
    record {
      spoils = record {
        taken = c.take-locked.result;
        given = c.spoil.new.self;
        rose = c.spoil.ensures.spoils.rose;
        hold = hold g.D.Disk.state _ _ _ _ c.requires.pass c.take-locked.ensures.pass c.take-locked.ensures.took _ _
            c.spoil.ensures.step grows (refl, tt) _ c.give.ensures;
      };
    }
