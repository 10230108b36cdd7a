use Rattle.std.proofs.Common.{ap, sym, subst, arith, ◌≤◌}
use Rattle.nt_machine.specs.History.{ranges_of}
use Rattle.nt_commit.specs.Claims.{IsClaimOf}
use Rattle.nt_commit.specs.Locked.{history_of_locked}
use Rattle.nt_commit.proofs.Standing.{out_in_book, out_of_disk}
use Rattle.nt_commit.proofs.Returning.{claim_spoiled}
use Rattle.nt_commit.proofs.Owned.{step_from, spoils_from}
use Rattle.nt_commit.proofs.locked.Locked.spoil.Goals as goal

pub spoil-requires : goal.spoil-requires
spoil-requires g c =
    let own = subst (λ v. IsClaimOf g.D.Ext.Ext.state (g.D.Disk.state v.birth.begun).held (ranges_of (history_of_locked g.D.Disk.state v))
    c.args.context c.args.claim)
    (sym c.self.view_is) c.requires.own in
    out_in_book g.D.Disk.state _ _ _ _ c.self.invariant g.D.Ext.Ext.state c.args.context c.args.claim own

pub settle-requires : goal.settle-requires
settle-requires g c =
    let own = subst (λ v. IsClaimOf g.D.Ext.Ext.state (g.D.Disk.state v.birth.begun).held (ranges_of (history_of_locked g.D.Disk.state v))
    c.args.context c.args.claim)
    (sym c.self.view_is) c.requires.own in
    out_of_disk g.D.Disk.state _ _ _ _ c.self.invariant g.D.Ext.Ext.state c.args.context c.args.claim own

pub invariant_of-self : goal.invariant_of-self
invariant_of-self g c =
    let own = subst (λ v. IsClaimOf g.D.Ext.Ext.state (g.D.Disk.state v.birth.begun).held (ranges_of (history_of_locked g.D.Disk.state v))
    c.args.context c.args.claim)
    (sym c.self.view_is) c.requires.own in
    let context : c.args.context ≤ c.self.inside.contexts = omega (arith, ap (λ v. v.birth.contexts) c.self.view_is, c.requires.context) in
    (claim_spoiled g.D.Disk.state _ _ _ _ c.self.invariant c.keeps.ensures _ _ g.D.Ext.Ext.state c.args.context c.args.claim own context
    (g.met.D.Ext.Ext.sized c.args.claim.ext)
    c.faults-faults.result _ _ c.spoil.ensures.book c.requires.failed.0 c.requires.failed.1 c.settle.ensures c.return_pen.ensures
    c.faults-faults.ensures c.faults-faults.type_inv).0.after

pub returns-clause-step : goal.returns-clause-step
returns-clause-step g c =
    let own = subst (λ v. IsClaimOf g.D.Ext.Ext.state (g.D.Disk.state v.birth.begun).held (ranges_of (history_of_locked g.D.Disk.state v))
    c.args.context c.args.claim)
    (sym c.self.view_is) c.requires.own in
    let context : c.args.context ≤ c.self.inside.contexts = omega (arith, ap (λ v. v.birth.contexts) c.self.view_is, c.requires.context) in
    step_from g.D.Disk.state _ _ _ c.self.view_is
    (claim_spoiled g.D.Disk.state _ _ _ _ c.self.invariant c.keeps.ensures _ _ g.D.Ext.Ext.state c.args.context c.args.claim own context
    (g.met.D.Ext.Ext.sized c.args.claim.ext)
    c.faults-faults.result _ _ c.spoil.ensures.book c.requires.failed.0 c.requires.failed.1 c.settle.ensures c.return_pen.ensures
    c.faults-faults.ensures c.faults-faults.type_inv).0

pub returns-clause-spoils : goal.returns-clause-spoils
returns-clause-spoils g c =
    let own = subst (λ v. IsClaimOf g.D.Ext.Ext.state (g.D.Disk.state v.birth.begun).held (ranges_of (history_of_locked g.D.Disk.state v))
    c.args.context c.args.claim)
    (sym c.self.view_is) c.requires.own in
    let context : c.args.context ≤ c.self.inside.contexts = omega (arith, ap (λ v. v.birth.contexts) c.self.view_is, c.requires.context) in
    spoils_from g.D.Disk.state _ _ _ c.self.view_is c.args.context c.args.claim.cluster
    (claim_spoiled g.D.Disk.state _ _ _ _ c.self.invariant c.keeps.ensures _ _ g.D.Ext.Ext.state c.args.context c.args.claim own context
    (g.met.D.Ext.Ext.sized c.args.claim.ext)
    c.faults-faults.result _ _ c.spoil.ensures.book c.requires.failed.0 c.requires.failed.1 c.settle.ensures c.return_pen.ensures
    c.faults-faults.ensures c.faults-faults.type_inv).1
