use Rattle.std.proofs.Common.{◌≡◌, ◌∙◌, ap, sym, refl, subst, arith, true, ◌+◌, length}
use Rattle.std.specs.Prelude.{Err}
use Rattle.std.proofs.lemmas.Result.{err_from_is_err_and}
use Rattle.nt_machine.specs.Deal.{times}
use Rattle.nt_machine.specs.History.{publishers_of, ranges_of}
use Rattle.nt_book.specs.Books.{book_ranges, book_end, is_due}
use Rattle.nt_book.specs.Limiting.{limit_error}
use Rattle.nt_meta.proofs.DueFacts.{due-none}
use Rattle.nt_commit.specs.Appending.{due_bytes}
use Rattle.nt_commit.specs.Holds.{Commits, MayReserveIn}
use Rattle.nt_commit.specs.Locked.{LockedState}
use Rattle.nt_commit.specs.declared.error.CommitError.TheVariants.{Memory}
use Rattle.nt_commit.proofs.Appended.{on_failed, on_passed, due-room, due-length, with-behind}
use Rattle.nt_commit.proofs.Publishing.{told_publishers}
use Rattle.nt_commit.proofs.Standing.{place_behind, limits_are}
use Rattle.nt_commit.proofs.Owned.{commits_from, limit_named, limit_refuses, unmade, no_room, list_refused, commits_behind}
use Rattle.nt_commit.proofs.locked.Locked.commit.Goals as goal

pub returns-in_default-clause-commits : goal.returns-in_default-clause-commits
returns-in_default-clause-commits g c =
    let due = subst (λ v. is_due v.book ≡ true) (sym c.self.view_is) c.in_default.ensures.err in
    unmade g.D.Disk.state g.D.Ext.Ext.state _ _ c.self.view_is c.keeps.ensures.no_groups c.args.meta.now
    (place_behind g.D.Disk.state _ _ _ _ c.self.invariant c.keeps.ensures _ refl) (λ none. due-none c.self.inside.book due none)

pub returns-in_err-check_with-clause-commits : goal.returns-in_err-check_with-clause-commits
returns-in_err-check_with-clause-commits g c =
    let list = subst (λ v. c.in-Ok.list.items ≡ due_bytes v.book) (sym c.self.view_is) c.in-Ok.ensures.list in
    let counted : c.len.result ≡ length c.in-Ok.list.items = omega (arith, c.len.ensures, c.in-Ok.list.ok) in
    let due = counted ∙ (ap length list ∙ due-length c.self.inside.book) in
    let place = place_behind g.D.Disk.state _ _ _ _ c.self.invariant c.keeps.ensures c.len.result due in
    limit_refuses g.D.Disk.state _ _ c.self.view_is c.keeps.ensures.no_groups g.D.Ext.Ext.state c.args.meta.now _
    c.in_err-check_with.field-0.0
    (limit_named _ _ c.from_residual.ensures.1) place
    (limits_are g.D.Disk.state _ _ _ _ c.self.invariant c.keeps.ensures c.len.result due c.args.meta.now.len _
    c.in_err-check_with.ensures)

pub returns-then-is_err-clause-commits : goal.returns-then-is_err-clause-commits
returns-then-is_err-clause-commits g c =
    let list = subst (λ v. c.in-Ok.list.items ≡ due_bytes v.book) (sym c.self.view_is) c.in-Ok.ensures.list in
    let counted : c.len.result ≡ length c.in-Ok.list.items = omega (arith, c.len.ensures, c.in-Ok.list.ok) in
    let due = counted ∙ (ap length list ∙ due-length c.self.inside.book) in
    let place = place_behind g.D.Disk.state _ _ _ _ c.self.invariant c.keeps.ensures c.len.result due in
    let limits = limits_are g.D.Disk.state _ _ _ _ c.self.invariant c.keeps.ensures c.len.result due c.args.meta.now.len _
    c.in_ok-check_with.ensures in
    let same = on_failed c.make_room.result c.if-is_err.ensures.value c.make_room.ensures.err in
    subst (λ w. Commits g.D.Disk.state c.args.self.now.birth.staged g.D.Ext.Ext.state c.args.meta.now c.args.self.now w (Err Memory))
    (sym same)
    (subst (λ v. Commits g.D.Disk.state v.birth.staged g.D.Ext.Ext.state c.args.meta.now v v (Err Memory)) c.self.view_is
    (no_room g.D.Disk.state g.D.Ext.Ext.state c.args.meta.now _ c.keeps.ensures.no_groups place limits))

pub append_due-requires-clause-list : goal.append_due-requires-clause-list
append_due-requires-clause-list g c =
    c.in-Ok.ensures.list ∙ (sym (due-room c.args.self.now.book c.make_room.new.self.book.spare)
    ∙ sym (ap (λ v. due_bytes v.book) c.make_room.ensures.same))

pub returns-in_err-append_due-clause-commits : goal.returns-in_err-append_due-clause-commits
returns-in_err-append_due-clause-commits g c =
    let list = subst (λ v. c.in-Ok.list.items ≡ due_bytes v.book) (sym c.self.view_is) c.in-Ok.ensures.list in
    let counted : c.len.result ≡ length c.in-Ok.list.items = omega (arith, c.len.ensures, c.in-Ok.list.ok) in
    let due = counted ∙ (ap length list ∙ due-length c.self.inside.book) in
    let place = place_behind g.D.Disk.state _ _ _ _ c.self.invariant c.keeps.ensures c.len.result due in
    let limits = limits_are g.D.Disk.state _ _ _ _ c.self.invariant c.keeps.ensures c.len.result due c.args.meta.now.len _
    c.in_ok-check_with.ensures in
    let room = c.make_room.ensures.same ∙ ap (λ (v : LockedState _). record v {
      book = record v.book { spare = c.make_room.new.self.book.spare };
    })
    (sym c.self.view_is) in
    let p = err_from_is_err_and c.from_residual-in_err-append_due.result c.from_residual-in_err-append_due.ensures.1 in
    let same : c.from_residual-in_err-append_due.result ≡ Err c.in_err-append_due.field-0.0 = cc (p.1, p.2) in
    subst (λ r. Commits g.D.Disk.state c.args.self.now.birth.staged g.D.Ext.Ext.state c.args.meta.now c.args.self.now
    c.append_due.new.self r) (sym same)
    (commits_from g.D.Disk.state _ _ _ c.self.view_is g.D.Ext.Ext.state c.args.meta.now _
    (list_refused g.D.Disk.state g.D.Ext.Ext.state c.args.meta.now _ c.keeps.ensures.no_groups place limits c.make_room.new.self
    c.make_room.new.self.book.spare room c.append_due.new.self c.in_err-append_due.field-0.0 c.in_err-append_due.ensures.appends))

pub append_cluster-requires-clause-fits : goal.append_cluster-requires-clause-fits
append_cluster-requires-clause-fits g c =
    let list = subst (λ v. c.in-Ok.list.items ≡ due_bytes v.book) (sym c.self.view_is) c.in-Ok.ensures.list in
    let counted : c.len.result ≡ length c.in-Ok.list.items = omega (arith, c.len.ensures, c.in-Ok.list.ok) in
    let due = counted ∙ (ap length list ∙ due-length c.self.inside.book) in
    let room = c.make_room.ensures.same ∙ ap (λ (v : LockedState _). record v {
      book = record v.book { spare = c.make_room.new.self.book.spare };
    })
    (sym c.self.view_is) in
    let first = c.in_ok-append_due.ensures.appends.listed in
    let made = on_passed c.make_room.result c.if-is_err.ensures.value c.make_room.ensures.ok in
    let b = c.self.inside.book in
    let kept = (with-behind b.limits (book_end b) (length (book_ranges b)) c.args.meta.now.len c.len.result
    (sym c.in_ok-check_with.ensures)).0 in
    let end : book_end c.append_due.new.self.book ≡ book_end b + c.len.result =
    first.end ∙ (ap (λ v. book_end v.book + length (due_bytes v.book)) room
    ∙ (ap (λ l. book_end b + length l) (due-room b c.make_room.new.self.book.spare ∙ sym list)
    ∙ ap (λ n. book_end b + n) (sym counted))) in
    let before = subst (λ v. MayReserveIn g.D.Disk.state v c.args.meta.now.context) (sym c.self.view_is) c.requires.before in
    let step = c.in_ok-append_due.ensures.step in
    let staged : c.append_due.new.self.book.staged ≡ b.staged =
    step.after.staged ∙ (ap (λ x. x.staged) step.birth ∙ (sym step.before.staged ∙ ap (λ v. v.book.staged) room)) in
    let history : c.append_due.new.self.book.history ≡ b.history = first.history ∙ ap (λ v. v.book.history) room in
    record {
      limits = ap (λ l. limit_error l (book_end c.append_due.new.self.book) (length (book_ranges c.append_due.new.self.book))
          c.args.meta.now.len)
          (first.limits ∙ ap (λ v. v.book.limits) room)
          ∙ (ap (λ n. limit_error b.limits n (length (book_ranges c.append_due.new.self.book)) c.args.meta.now.len) end
          ∙ (ap (λ n. limit_error b.limits (book_end b + c.len.result) n c.args.meta.now.len)
          (ap (λ h. length (ranges_of h)) history) ∙ kept));
      spare = omega (arith, first.spare, made);
      not_due = first.not_due;
      before = λ is.
          ap (λ h. times c.args.meta.now.context (publishers_of h)) history
          ∙ (sym (ap (λ ps. times c.args.meta.now.context ps) (told_publishers _ _ b.history)) ∙ before (sym staged ∙ is));
    }

pub returns-clause-commits : goal.returns-clause-commits
returns-clause-commits g c =
    let list = subst (λ v. c.in-Ok.list.items ≡ due_bytes v.book) (sym c.self.view_is) c.in-Ok.ensures.list in
    let counted : c.len.result ≡ length c.in-Ok.list.items = omega (arith, c.len.ensures, c.in-Ok.list.ok) in
    let due = counted ∙ (ap length list ∙ due-length c.self.inside.book) in
    let place = place_behind g.D.Disk.state _ _ _ _ c.self.invariant c.keeps.ensures c.len.result due in
    let limits = limits_are g.D.Disk.state _ _ _ _ c.self.invariant c.keeps.ensures c.len.result due c.args.meta.now.len _
    c.in_ok-check_with.ensures in
    let room = c.make_room.ensures.same ∙ ap (λ (v : LockedState _). record v {
      book = record v.book { spare = c.make_room.new.self.book.spare };
    })
    (sym c.self.view_is) in
    let first = c.in_ok-append_due.ensures.appends.listed in
    let b = c.self.inside.book in
    let end : book_end c.append_due.new.self.book ≡ book_end b + c.len.result =
    first.end ∙ (ap (λ v. book_end v.book + length (due_bytes v.book)) room
    ∙ (ap (λ l. book_end b + length l) (due-room b c.make_room.new.self.book.spare ∙ sym list)
    ∙ ap (λ n. book_end b + n) (sym counted))) in
    commits_from g.D.Disk.state _ _ _ c.self.view_is g.D.Ext.Ext.state c.args.meta.now _
    (commits_behind g.D.Disk.state g.D.Ext.Ext.state c.args.meta.now _ c.keeps.ensures.no_groups place limits c.make_room.new.self
    c.make_room.new.self.book.spare room c.append_due.new.self c.append_cluster.new.self _ c.in_ok-append_due.ensures.appends
    c.in_ok-append_due.ensures.step.birth end c.append_cluster.result c.append_cluster.ensures.appends)
