use Rattle.std.proofs.Common.{◌≡◌, ◌∙◌, ◌+◌, ◌≤◌, ap, sym, subst, arith, ◌++◌, ◌∷◌, ◌-◌, [], length}
use Rattle.std.specs.Prelude.{OnOk, OnErr, Ok, Err}
use Rattle.nt_outside.specs.Held.{appended, Becomes, BecomesSome, IsTornAppend}
use Rattle.nt_outside.specs.Faults.{Rose}
use Rattle.nt_book.specs.Books.{BookData, book_end}
use Rattle.nt_book.specs.Entries.{faulted_entry}
use Rattle.nt_commit.specs.declared.error.CommitError.TheVariants.{Fault}
use Rattle.nt_commit.specs.Appending.{AppendsList, IsDueList}
use Rattle.nt_commit.specs.Holds.{IsLater}
use Rattle.nt_commit.proofs.Appended.{on_done}
use Rattle.nt_commit.proofs.Listing.{bytes_long, list_appended, list_torn}
use Rattle.nt_commit.proofs.Owned.{step_from, list_from}
use Rattle.nt_commit.proofs.Standing.{locked_of}
use Rattle.nt_commit.proofs.locked.Locked.append_list.Given.{Over}
use Rattle.nt_commit.proofs.locked.Locked.append_list.Goals.{After-as_slice, After-note_list, After-fault}
use Rattle.nt_commit.proofs.locked.Locked.append_list.Goals as goal

-- the blob is as long as the list with room for its key
long : (g : Over) (c : After-as_slice g) → length c.as_slice.result.now ≡ c.len-len.result
long g c =
    let list = subst (λ v. IsDueList v.book c.args.list.items) (sym c.self.view_is) c.requires.list in
    bytes_long g.D.Disk.state _ _ _ _ c.self.invariant c.keeps.ensures c.args.context c.args.list.items list.is list.due
    c.end-start.result c.len-len.result c.end-start.ensures (omega (arith, c.len-len.ensures, c.args.list.ok)) c.as_slice.result.now
    (c.as_slice.ensures ∙ c.blob_at-blob.ensures) (g.D.Disk.state c.room.new.self) c.room.ensures.held c.room.ensures.end
    c.room.ensures.out c.room.ensures.faults

-- the list was appended, and is noted
noted : (g : Over) (c : After-note_list g)
    → IsLater g.D.Disk.state (locked_of c.self.inside.begun.value c.self.inside.disk c.self.inside.contexts c.self.inside.book)
    (locked_of c.self.inside.begun.value c.append.new.self c.self.inside.contexts c.note_list.new.self)
    × AppendsList g.D.Disk.state c.args.context
    (locked_of c.self.inside.begun.value c.self.inside.disk c.self.inside.contexts c.self.inside.book)
    (locked_of c.self.inside.begun.value c.append.new.self c.self.inside.contexts c.note_list.new.self) (Ok tt)
noted g c =
    let list = subst (λ v. IsDueList v.book c.args.list.items) (sym c.self.view_is) c.requires.list in
    list_appended g.D.Disk.state _ _ _ _ c.self.invariant c.keeps.ensures c.args.context c.args.list.items list.is list.due
    c.end-start.result c.len-len.result c.end-start.ensures (omega (arith, c.len-len.ensures, c.args.list.ok)) c.as_slice.result.now
    (c.as_slice.ensures ∙ c.blob_at-blob.ensures) (g.D.Disk.state c.room.new.self) c.room.ensures.held c.room.ensures.end
    c.room.ensures.out c.room.ensures.faults _ _ c.link_of.result
    (subst (λ v. length c.args.list.items ≤ v.book.limits.range) (sym c.self.view_is) c.requires.fits.short)
    c.link_of.ensures c.note_list.ensures
    (subst (λ r. OnOk r (Becomes (g.D.Disk.state c.room.new.self).held (g.D.Disk.state c.append.new.self).held
    (appended c.as_slice.result.now))) c.in-Ok.is c.append.ensures.ok)
    (subst (λ r. OnOk r ((g.D.Disk.state c.append.new.self).end ≡ (g.D.Disk.state c.room.new.self).end + length c.as_slice.result.now))
    c.in-Ok.is c.append.ensures.end_ok) c.append.ensures.out c.append.ensures.cause.later

-- the append failed, and the fault is entered in the torn book
torn : (g : Over) (c : After-fault g)
    → IsLater g.D.Disk.state (locked_of c.self.inside.begun.value c.self.inside.disk c.self.inside.contexts c.self.inside.book)
    (locked_of c.self.inside.begun.value c.append.new.self c.self.inside.contexts c.fault.new.self)
    × AppendsList g.D.Disk.state c.args.context
    (locked_of c.self.inside.begun.value c.self.inside.disk c.self.inside.contexts c.self.inside.book)
    (locked_of c.self.inside.begun.value c.append.new.self c.self.inside.contexts c.fault.new.self) (Err Fault)
torn g c =
    let list = subst (λ v. IsDueList v.book c.args.list.items) (sym c.self.view_is) c.requires.list in
    let context : c.args.context ≤ c.self.inside.contexts = omega (arith, ap (λ v. v.birth.contexts) c.self.view_is, c.requires.context) in
    let book = c.fault.ensures.book ∙ ap (λ (x : BookData). record x {
      history = x.history ++ faulted_entry c.args.context c.faults-faults.result ∷ [];
      spare = x.spare - 1;
    }) c.tear.ensures in
    list_torn g.D.Disk.state _ _ _ _ c.self.invariant c.keeps.ensures c.args.context c.args.list.items list.is list.due
    c.end-start.result c.len-len.result c.end-start.ensures (omega (arith, c.len-len.ensures, c.args.list.ok)) c.as_slice.result.now
    (c.as_slice.ensures ∙ c.blob_at-blob.ensures) (g.D.Disk.state c.room.new.self) c.room.ensures.held c.room.ensures.end
    c.room.ensures.out c.room.ensures.faults _ _ g.met.D.Disk.told c.faults-faults.result c.end.result _ _ c.end.ensures book
    (subst (λ r. OnErr r (BecomesSome (g.D.Disk.state c.room.new.self).held (g.D.Disk.state c.append.new.self).held
    (IsTornAppend (length c.as_slice.result.now)))) c.in-Err.is c.append.ensures.err) c.append.ensures.end_least
    c.append.ensures.end_most c.append.ensures.out context c.append.ensures.cause.later
    (subst (λ r. OnErr r (Rose (g.D.Disk.state c.room.new.self).faults (g.D.Disk.state c.append.new.self).faults)) c.in-Err.is
    c.append.ensures.cause.failed) c.faults-faults.ensures c.faults-faults.type_inv

pub append-requires-clause-sum : goal.append-requires-clause-sum
append-requires-clause-sum g c =
    let fits = subst (λ v. book_end v.book + length c.args.list.items ≤ v.book.limits.file) (sym c.self.view_is) c.requires.fits.within in
    omega (
      arith,
      fits,
      c.self.inside.book.limits.file_bound,
      c.self.invariant.end,
      c.room.ensures.end,
      c.len-len.ensures,
      c.args.list.ok,
      long g (goal.at.append-requires-clause-sum g c).After-as_slice,
    )

pub append-requires-clause-spare : goal.append-requires-clause-spare
append-requires-clause-spare g c =
    let most = on_done c.room.result c.if-is_err.ensures.negation c.room.ensures.bytes in
    record {
      step = on_done c.room.result c.if-is_err.ensures.negation c.room.ensures.steps;
      bytes = omega (arith, most, long g (goal.at.append-requires-clause-spare g c).After-as_slice);
    }

pub invariant_of-self-in-Ok : goal.invariant_of-self-in-Ok
invariant_of-self-in-Ok g c = (noted g (goal.at.invariant_of-self-in-Ok g c).After-note_list).0.after

pub returns-in-Ok-clause-step : goal.returns-in-Ok-clause-step
returns-in-Ok-clause-step g c =
    step_from g.D.Disk.state _ _ _ c.self.view_is (noted g (goal.at.returns-in-Ok-clause-step g c).After-note_list).0

pub returns-in-Ok-clause-appends : goal.returns-in-Ok-clause-appends
returns-in-Ok-clause-appends g c =
    list_from g.D.Disk.state _ _ _ c.self.view_is c.args.context _ (noted g (goal.at.returns-in-Ok-clause-appends g c).After-note_list).1

pub tear-requires-clause-fits : goal.tear-requires-clause-fits
tear-requires-clause-fits g c =
    let fits = subst (λ v. book_end v.book + length c.args.list.items ≤ v.book.limits.file) (sym c.self.view_is) c.requires.fits.within in
    omega (
      arith,
      fits,
      c.end.ensures,
      c.append.ensures.end_most,
      c.self.invariant.end,
      c.room.ensures.end,
      c.len-len.ensures,
      c.args.list.ok,
      long g (goal.at.tear-requires-clause-fits g c).After-as_slice,
    )

pub invariant_of-self-in-Err : goal.invariant_of-self-in-Err
invariant_of-self-in-Err g c = (torn g (goal.at.invariant_of-self-in-Err g c).After-fault).0.after

pub returns-clause-step : goal.returns-clause-step
returns-clause-step g c = step_from g.D.Disk.state _ _ _ c.self.view_is (torn g (goal.at.returns-clause-step g c).After-fault).0

pub returns-clause-appends : goal.returns-clause-appends
returns-clause-appends g c =
    list_from g.D.Disk.state _ _ _ c.self.view_is c.args.context _ (torn g (goal.at.returns-clause-appends g c).After-fault).1
