use Rattle.std.proofs.Common.{◌∙◌, ap, refl, arith, ◌≤◌, ◌++◌, ◌∷◌, [], ◌-◌}
use Rattle.nt_book.specs.Books.{BookData}
use Rattle.nt_book.specs.Entries.{faulted_entry}
use Rattle.nt_commit.proofs.Stepping.{same_history}
use Rattle.nt_commit.proofs.Entering.{faulted}
use Rattle.nt_commit.proofs.Owned.{step_from, opens_from}
use Rattle.nt_commit.proofs.locked.Locked.open_pen.Goals as goal

pub invariant_of-self-in-Ok : goal.invariant_of-self-in-Ok
invariant_of-self-in-Ok g c =
    let made = c.in-Ok.ensures.makes in
    (same_history g.D.Disk.state _ _ _ _ c.self.invariant _ _ _ c.in_ok-room.ensures.same made.place made.cause.later).0.after

pub invariant_of-self-in-Err-Memory : goal.invariant_of-self-in-Err-Memory
invariant_of-self-in-Err-Memory g c =
    let made = c.in-Err-Memory.ensures.makes in
    (same_history g.D.Disk.state _ _ _ _ c.self.invariant _ _ _ c.in_ok-room.ensures.same made.place made.cause.later).0.after

pub invariant_of-self-in-Err-Failed : goal.invariant_of-self-in-Err-Failed
invariant_of-self-in-Err-Failed g c =
    let made = c.in-Err-Failed.ensures.makes in
    let count = c.faults-faults.result in
    let book = c.fault.ensures.book ∙ ap (λ (x : BookData). record x {
      history = x.history ++ faulted_entry c.args.context count ∷ [];
      spare = c.room.new.self.spare - 1;
    }) c.in_ok-room.ensures.same in
    let context : c.args.context ≤ c.self.inside.contexts = omega (arith, ap (λ v. v.birth.contexts) c.self.view_is, c.requires) in
    (faulted g.D.Disk.state _ _ _ _ c.self.invariant _ _ c.keeps.ensures c.args.context count _ book context made.place
    made.cause.later
    (made.cause.failed (cc c.in-Err-Failed.field-0-is)) c.faults-faults.ensures c.faults-faults.type_inv).0.after

pub returns-in-Ok-clause-step : goal.returns-in-Ok-clause-step
returns-in-Ok-clause-step g c =
    let made = c.in-Ok.ensures.makes in
    step_from g.D.Disk.state _ _ _ c.self.view_is (same_history g.D.Disk.state _ _ _ _ c.self.invariant _ _ _
    c.in_ok-room.ensures.same made.place made.cause.later).0

pub returns-in-Ok-clause-opens : goal.returns-in-Ok-clause-opens
returns-in-Ok-clause-opens g c =
    let made = c.in-Ok.ensures.makes in
    opens_from g.D.Disk.state _ _ _ c.self.view_is c.args.context _ (record {
      added = [];
      grows = (same_history g.D.Disk.state _ _ _ _ c.self.invariant _ _ _ c.in_ok-room.ensures.same made.place made.cause.later).1;
      adds = refl;
    })

pub returns-in-Err-Memory-clause-step : goal.returns-in-Err-Memory-clause-step
returns-in-Err-Memory-clause-step g c =
    let made = c.in-Err-Memory.ensures.makes in
    step_from g.D.Disk.state _ _ _ c.self.view_is (same_history g.D.Disk.state _ _ _ _ c.self.invariant _ _ _
    c.in_ok-room.ensures.same made.place made.cause.later).0

pub returns-in-Err-Memory-clause-opens : goal.returns-in-Err-Memory-clause-opens
returns-in-Err-Memory-clause-opens g c =
    let made = c.in-Err-Memory.ensures.makes in
    opens_from g.D.Disk.state _ _ _ c.self.view_is c.args.context _ (record {
      added = [];
      grows = (same_history g.D.Disk.state _ _ _ _ c.self.invariant _ _ _ c.in_ok-room.ensures.same made.place made.cause.later).1;
      adds = refl;
    })

pub returns-in-Err-Failed-clause-step : goal.returns-in-Err-Failed-clause-step
returns-in-Err-Failed-clause-step g c =
    let made = c.in-Err-Failed.ensures.makes in
    let count = c.faults-faults.result in
    let book = c.fault.ensures.book ∙ ap (λ (x : BookData). record x {
      history = x.history ++ faulted_entry c.args.context count ∷ [];
      spare = c.room.new.self.spare - 1;
    }) c.in_ok-room.ensures.same in
    let context : c.args.context ≤ c.self.inside.contexts = omega (arith, ap (λ v. v.birth.contexts) c.self.view_is, c.requires) in
    step_from g.D.Disk.state _ _ _ c.self.view_is
    (faulted g.D.Disk.state _ _ _ _ c.self.invariant _ _ c.keeps.ensures c.args.context count _ book context made.place
    made.cause.later
    (made.cause.failed (cc c.in-Err-Failed.field-0-is)) c.faults-faults.ensures c.faults-faults.type_inv).0

pub returns-in-Err-Failed-clause-opens : goal.returns-in-Err-Failed-clause-opens
returns-in-Err-Failed-clause-opens g c =
    let made = c.in-Err-Failed.ensures.makes in
    let count = c.faults-faults.result in
    let book = c.fault.ensures.book ∙ ap (λ (x : BookData). record x {
      history = x.history ++ faulted_entry c.args.context count ∷ [];
      spare = c.room.new.self.spare - 1;
    }) c.in_ok-room.ensures.same in
    let context : c.args.context ≤ c.self.inside.contexts = omega (arith, ap (λ v. v.birth.contexts) c.self.view_is, c.requires) in
    let rose = made.cause.failed (cc c.in-Err-Failed.field-0-is) in
    opens_from g.D.Disk.state _ _ _ c.self.view_is c.args.context _ (record {
      added = _;
      grows = (faulted g.D.Disk.state _ _ _ _ c.self.invariant _ _ c.keeps.ensures c.args.context count _ book context made.place
          made.cause.later
          rose c.faults-faults.ensures c.faults-faults.type_inv).1;
      adds = (rose, refl);
    })
