use Rattle.std.proofs.Common.{◌∙◌, sym, ℕ, refl, subst, Option, List, [], ◌∷◌}
use Rattle.nt_commit.specs.Claims.{settled_with}
use Rattle.nt_commit.specs.Holds.{AddsInHold}
use Rattle.nt_fill.proofs.Passes.{told_bytes, when_ok, keeps_count}
use Rattle.nt_fill.proofs.writing.fill_range.Goals as goal

pub returns-then-filled-clause-ok : goal.returns-then-filled-clause-ok
returns-then-filled-clause-ok g c =
    let held = (g.D.Disk.state c.args.committer.now.birth.begun).held in
    let filled = c.is_ok-filled.ensures.value in
    let told = told_bytes held (g.D.Ext.Ext.state c.fill.new.ext).content c.args.bytes.now
    (λ h is. when_ok c.fill.result (sym filled ∙ c.if-filled.true) c.fill.ensures.told (c.requires.claim.own.tells h is)) in (
      subst (λ (b : Option (List ℕ)). AddsInHold g.D.Disk.state c.args.committer.now
          (settled_with c.args.pass.now.number c.args.claim.cluster b ∷ []) c.args.pass.now c.settle.new.pass) told
          c.settle.ensures.settles,
      refl,
      keeps_count g.D.Pen.Pen.state c.in-Some.pen c.fill.new.self c.args.pen.now c.in-Some.is
          (when_ok c.fill.result (sym filled ∙ c.if-filled.true) c.fill.ensures.kept),
    )
