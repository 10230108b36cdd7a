use Rattle.std.proofs.Common.{◌∙◌, ◌+◌, ap, ℕ}
use Rattle.nt_commit.proofs.Holding.{opened, unopened, kept_by}
use Rattle.nt_commit.proofs.contexts.CommitterOf+Locked+D.enter.Goals as goal

pub returns-in-Ok-clause-ok : goal.returns-in-Ok-clause-ok
returns-in-Ok-clause-ok g c =
    let opens = opened g.D.Disk.state _ _ _ _ c.in-Ok.ensures.opens in
    let held = c.open_pen.new.pass in
    record {
      held = held;
      opens = opens;
      first = c.split-pass.ensures.first ∙ ap (λ (n : ℕ). record held { splits = n + 1 })
          (ap (λ p. p.splits) (kept_by g.D.Disk.state _ _ _ opens).0);
      pass_is = c.split-pass.ensures.pass;
      unused = c.in-Ok.ensures.new;
    }

pub returns-in-Err-clause-err : goal.returns-in-Err-clause-err
returns-in-Err-clause-err g c = unopened g.D.Disk.state _ _ _ _ _ c.in-Err.ensures.opens
