use Rattle.std.proofs.Common.{◌≡◌, ◌∙◌, ◌+◌, sym, refl, ap, subst, length, arith, ℕ, map, Err}
use Rattle.nt_types.specs.Views.{members_view}
use Rattle.nt_outside.specs.declared.fault.Refused.TheVariants as refused
use Rattle.nt_contexts.specs.declared.error.RunError.{RunError}
use Rattle.nt_contexts.specs.Seating.{HasLetIn, MayWork, CanRun}
use Rattle.nt_contexts.specs.Working.{HasWorked}
use Rattle.nt_contexts.proofs.Opens.{opened-count}
use Rattle.nt_contexts.proofs.Worked.{idle-worked}
use Rattle.nt_contexts.proofs.SeatsRun.{let-go, none-worked, can-run, all-seated, may-leave, all-worked}
use Rattle.nt_contexts.proofs.working.work.Goals as goal

pub returns-in-Err : goal.returns-in-Err
returns-in-Err g c =
    idle-worked g.D.Disk.state (members_view c.args.shared.now.fields.now) c.args.shared.now.schema.now c.args.shared.now.params.now
    c.args.committer.now (map g.S.Source.state c.args.sources.items) c.args.first.now c.requires.may.letting

pub turn_back-back-requires : goal.turn_back-back-requires
turn_back-back-requires g c =
    let committer = c.args.committer.now in
    let all = c.args.sources in
    let left = c.open_all.new.sources in
    let seats = c.open_all.new.seats in
    let room = c.in-Ok.ensures.second in
    let opened = c.open_all.ensures.opened in
    let count : length seats.items + length left.items ≡ length all.items =
    opened-count committer g.S.Source.state all.items left.items seats.items c.open_all.new.first opened in
    record {
      first = subst (λ (n : ℕ). HasLetIn committer n c.open_all.new.first) (sym seats.ok.0) opened.let_in;
      seats = (
        let-go g.D.Disk.state (members_view c.args.shared.now.fields.now) c.args.shared.now.schema.now c.args.shared.now.params.now
            committer g.S.Source.state all.items left.items seats.items c.open_all.new.first opened seats.items refl,
        omega (arith, c.requires.may.few, count, seats.ok.0, all.ok.0),
      );
      room = (room.0, omega (arith, room.1, count, seats.ok.0, all.ok.0, left.ok.0, c.len.ensures));
    }

pub returns-in-Err-open_all : goal.returns-in-Err-open_all
returns-in-Err-open_all g c =
    let fields = members_view c.args.shared.now.fields.now in
    let t = c.args.shared.now.schema.now in
    let p = c.args.shared.now.params.now in
    let turned = c.turn_back-back in
    let sources = map g.S.Source.state c.args.sources.items in
    let back = map g.S.Source.state turned.result.items in
    subst (λ (e : RunError). HasWorked g.D.Disk.state fields t p c.args.committer.now sources back turned.new.first (Err e))
    (sym c.refusal_of.ensures)
    (none-worked g.D.Disk.state fields t p c.args.committer.now g.S.Source.state c.args.sources.items c.open_all.new.sources.items
    c.open_all.new.seats.items c.open_all.new.first c.open_all.ensures.opened c.open_all.new.seats.items refl turned.new.first
    turned.result.items c.in-Err-open_all.refused turned.ensures (λ e. c.in-Err-open_all.ensures.blamed (cc)))

pub run_all-requires-clause-numbers : goal.run_all-requires-clause-numbers
run_all-requires-clause-numbers g c lifetimes outlive =
    let seats = c.open_all.new.seats in
    let count = opened-count c.args.committer.now g.S.Source.state c.args.sources.items c.open_all.new.sources.items seats.items
    c.open_all.new.first c.open_all.ensures.opened in
    (omega (arith, c.requires.may.few, count, seats.ok.0, c.args.sources.ok.0), c.requires.workers.0, c.requires.workers.1)

pub run_all-requires-clause-fresh : goal.run_all-requires-clause-fresh
run_all-requires-clause-fresh g c lifetimes outlive =
    let all = c.args.sources in
    let fields = members_view c.args.shared.now.fields.now in
    let t = c.args.shared.now.schema.now in
    let p = c.args.shared.now.params.now in
    let may = subst (λ (n : ℕ). MayWork c.args.committer.now fields t p n c.args.first.now) all.ok.0 c.requires.may in
    let run : CanRun c.args.committer.now g.S.Source.state fields t p c.open_all.new.seats.items c.open_all.new.first =
    can-run g.D.Disk.state fields t p c.args.committer.now g.S.Source.state all.items c.open_all.new.sources.items
    c.open_all.new.seats.items c.open_all.new.first c.open_all.ensures.opened c.args.first.now may c.in-Ok-open_all.ensures.ok in
    run.fresh

pub leave_all-answer-requires : goal.leave_all-answer-requires
leave_all-answer-requires g c =
    let all = c.args.sources in
    let fields = members_view c.args.shared.now.fields.now in
    let t = c.args.shared.now.schema.now in
    let p = c.args.shared.now.params.now in
    let may = subst (λ (n : ℕ). MayWork c.args.committer.now fields t p n c.args.first.now) all.ok.0 c.requires.may in
    let seats = c.open_all.new.seats in
    let news = c.in-Ok-run_all.seats in
    let none = c.in-Ok-open_all.ensures.ok in
    let room = c.in-Ok.ensures.second in
    let run : CanRun c.args.committer.now g.S.Source.state fields t p seats.items c.open_all.new.first =
    can-run g.D.Disk.state fields t p c.args.committer.now g.S.Source.state all.items c.open_all.new.sources.items seats.items
    c.open_all.new.first c.open_all.ensures.opened c.args.first.now may none in
    let seated : length seats.items ≡ length all.items =
    all-seated g.D.Disk.state fields t p c.args.committer.now g.S.Source.state all.items c.open_all.new.sources.items seats.items
    c.open_all.new.first c.open_all.ensures.opened c.args.first.now may none in
    let ran = c.in-Ok-run_all.ensures.ok in
    let long : length news.items ≡ length seats.items = sym news.ok.0 ∙ (ran.0 ∙ seats.ok.0) in
    record {
      first = run.letting.of;
      seats = (
        may-leave g.D.Disk.state fields t p c.args.committer.now g.S.Source.state all.items c.open_all.new.sources.items seats.items
            c.open_all.new.first c.open_all.ensures.opened c.args.first.now may none news.items long
            (λ k d less. ran.1 k d (omega (arith, less, seats.ok.0))),
        omega (arith, long, run.few, news.ok.0),
      );
      room = omega (arith, long, seated, room.1, ap length room.0, news.ok.0, all.ok.0, c.len.ensures);
    }

pub returns-in-Ok-run_all : goal.returns-in-Ok-run_all
returns-in-Ok-run_all g c =
    let all = c.args.sources in
    let fields = members_view c.args.shared.now.fields.now in
    let t = c.args.shared.now.schema.now in
    let p = c.args.shared.now.params.now in
    let may = subst (λ (n : ℕ). MayWork c.args.committer.now fields t p n c.args.first.now) all.ok.0 c.requires.may in
    let seats = c.open_all.new.seats in
    let news = c.in-Ok-run_all.seats in
    let ran = c.in-Ok-run_all.ensures.ok in
    let long : length news.items ≡ length seats.items = sym news.ok.0 ∙ (ran.0 ∙ seats.ok.0) in
    let left = c.leave_all-answer in
    all-worked g.D.Disk.state fields t p c.args.committer.now g.S.Source.state all.items c.open_all.new.sources.items seats.items
    c.open_all.new.first c.open_all.ensures.opened c.args.first.now may c.in-Ok-open_all.ensures.ok news.items long
    (λ k d less. ran.1 k d (omega (arith, less, seats.ok.0))) left.new.first c.in-Ok.room.1.items left.new.back.items left.result
    left.ensures.leave c.in-Ok.ensures.second.0

pub turn_back-back-requires-in-Err-run_all : goal.turn_back-back-requires-in-Err-run_all
turn_back-back-requires-in-Err-run_all g c =
    let committer = c.args.committer.now in
    let all = c.args.sources in
    let left = c.open_all.new.sources in
    let seats = c.open_all.new.seats in
    let back = c.in-Err-run_all.seats in
    let same = c.in-Err-run_all.ensures.err in
    let room = c.in-Ok.ensures.second in
    let opened = c.open_all.ensures.opened in
    let count : length seats.items + length left.items ≡ length all.items =
    opened-count committer g.S.Source.state all.items left.items seats.items c.open_all.new.first opened in
    let long : length back.items ≡ length seats.items = ap length same in
    record {
      first = subst (λ (n : ℕ). HasLetIn committer n c.open_all.new.first) (sym long ∙ sym back.ok.0) opened.let_in;
      seats = (
        let-go g.D.Disk.state (members_view c.args.shared.now.fields.now) c.args.shared.now.schema.now c.args.shared.now.params.now
            committer g.S.Source.state all.items left.items seats.items c.open_all.new.first opened back.items same,
        omega (arith, c.requires.may.few, count, long, back.ok.0, all.ok.0),
      );
      room = (room.0, omega (arith, room.1, count, long, back.ok.0, all.ok.0, left.ok.0, c.len.ensures));
    }

pub returns-in-Err-run_all : goal.returns-in-Err-run_all
returns-in-Err-run_all g c =
    let turned = c.turn_back-back-in-Err-run_all in
    none-worked g.D.Disk.state (members_view c.args.shared.now.fields.now) c.args.shared.now.schema.now c.args.shared.now.params.now
    c.args.committer.now g.S.Source.state c.args.sources.items c.open_all.new.sources.items c.open_all.new.seats.items
    c.open_all.new.first c.open_all.ensures.opened c.in-Err-run_all.seats.items c.in-Err-run_all.ensures.err turned.new.first
    turned.result.items refused.Memory turned.ensures (λ e. cc)
