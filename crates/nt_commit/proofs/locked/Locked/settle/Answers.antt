use Rattle.std.proofs.Common.{ap, sym, subst, arith, ◌≤◌}
use Rattle.nt_machine.specs.History.{ranges_of}
use Rattle.nt_commit.specs.Claims.{IsClaimOf}
use Rattle.nt_commit.specs.Locked.{history_of_locked}
use Rattle.nt_commit.proofs.Standing.{out_in_book, out_of_disk}
use Rattle.nt_commit.proofs.Returning.{claim_settled}
use Rattle.nt_commit.proofs.Owned.{step_from, settles_from}
use Rattle.nt_commit.proofs.locked.Locked.settle.Goals as goal

pub settle-requires : goal.settle-requires
settle-requires g c =
    let own = subst (λ v. IsClaimOf g.D.Ext.Ext.state (g.D.Disk.state v.birth.begun).held (ranges_of (history_of_locked g.D.Disk.state v))
    c.args.context c.args.claim)
    (sym c.self.view_is) c.requires.own in
    out_in_book g.D.Disk.state _ _ _ _ c.self.invariant g.D.Ext.Ext.state c.args.context c.args.claim own

pub settle-requires-2 : goal.settle-requires-2
settle-requires-2 g c =
    let own = subst (λ v. IsClaimOf g.D.Ext.Ext.state (g.D.Disk.state v.birth.begun).held (ranges_of (history_of_locked g.D.Disk.state v))
    c.args.context c.args.claim)
    (sym c.self.view_is) c.requires.own in
    out_of_disk g.D.Disk.state _ _ _ _ c.self.invariant g.D.Ext.Ext.state c.args.context c.args.claim own

pub invariant_of-self : goal.invariant_of-self
invariant_of-self g c =
    let own = subst (λ v. IsClaimOf g.D.Ext.Ext.state (g.D.Disk.state v.birth.begun).held (ranges_of (history_of_locked g.D.Disk.state v))
    c.args.context c.args.claim)
    (sym c.self.view_is) c.requires.own in
    let context : c.args.context ≤ c.self.inside.contexts = omega (arith, ap (λ v. v.birth.contexts) c.self.view_is, c.requires.context) in
    (claim_settled g.D.Disk.state _ _ _ _ c.self.invariant c.keeps.ensures _ _ g.D.Ext.Ext.state c.args.context c.args.claim own context
    (g.met.D.Ext.Ext.sized c.args.claim.ext) c.settle.ensures.book
    (g.met.D.Ext.Ext.told c.args.claim.ext c.requires.filled) c.settle-2.ensures).0.after

pub returns-clause-step : goal.returns-clause-step
returns-clause-step g c =
    let own = subst (λ v. IsClaimOf g.D.Ext.Ext.state (g.D.Disk.state v.birth.begun).held (ranges_of (history_of_locked g.D.Disk.state v))
    c.args.context c.args.claim)
    (sym c.self.view_is) c.requires.own in
    let context : c.args.context ≤ c.self.inside.contexts = omega (arith, ap (λ v. v.birth.contexts) c.self.view_is, c.requires.context) in
    step_from g.D.Disk.state _ _ _ c.self.view_is
    (claim_settled g.D.Disk.state _ _ _ _ c.self.invariant c.keeps.ensures _ _ g.D.Ext.Ext.state c.args.context c.args.claim own context
    (g.met.D.Ext.Ext.sized c.args.claim.ext) c.settle.ensures.book
    (g.met.D.Ext.Ext.told c.args.claim.ext c.requires.filled) c.settle-2.ensures).0

pub returns-clause-settles : goal.returns-clause-settles
returns-clause-settles g c =
    let own = subst (λ v. IsClaimOf g.D.Ext.Ext.state (g.D.Disk.state v.birth.begun).held (ranges_of (history_of_locked g.D.Disk.state v))
    c.args.context c.args.claim)
    (sym c.self.view_is) c.requires.own in
    let context : c.args.context ≤ c.self.inside.contexts = omega (arith, ap (λ v. v.birth.contexts) c.self.view_is, c.requires.context) in
    settles_from g.D.Disk.state _ _ _ c.self.view_is c.args.context c.args.claim.cluster (g.D.Ext.Ext.state c.args.claim.ext)
    (claim_settled g.D.Disk.state _ _ _ _ c.self.invariant c.keeps.ensures _ _ g.D.Ext.Ext.state c.args.context c.args.claim own context
    (g.met.D.Ext.Ext.sized c.args.claim.ext) c.settle.ensures.book
    (g.met.D.Ext.Ext.told c.args.claim.ext c.requires.filled) c.settle-2.ensures).1
