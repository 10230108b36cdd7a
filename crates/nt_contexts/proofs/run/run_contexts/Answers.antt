use Rattle.std.proofs.Common.{◌≡◌, ◌∙◌, ap, sym, subst, map, length, ℕ, arith, Err}
use Rattle.nt_types.specs.Views.{members_view}
use Rattle.nt_book.specs.Books.{BookData}
use Rattle.nt_contexts.specs.declared.error.RunError.TheVariants.{Memory}
use Rattle.nt_contexts.specs.Contexts.{IsReady, RunsContexts}
use Rattle.nt_contexts.specs.Seating.{MayWork}
use Rattle.nt_contexts.proofs.Told.{runs, runs-nothing}
use Rattle.nt_contexts.proofs.Opened.{newly, born-for, born-firsts, runs-given}
use Rattle.nt_contexts.proofs.run.run_contexts.Goals as goal

pub new-requires : goal.new-requires
new-requires g c =
    let ready = c.requires.ready in
    record {
      contexts = (omega (arith, ready.some), omega (arith, ready.few));
      book = record {
        history = ap (λ b. b.history) ready.book_is;
        unlisted = record { none_noted = ap (λ b. b.lists) ready.book_is; none_torn = ap (λ b. b.torn) ready.book_is };
        end = ap (λ b. b.begin) ready.book_is ∙ sym ready.end;
        out = ready.out;
      };
    }

pub work-sources-requires-clause-may : goal.work-sources-requires-clause-may
work-sources-requires-clause-may g c lifetimes outlive =
    let fields = members_view c.args.shared.now.fields.now in
    let t = c.args.shared.now.schema.now in
    let p = c.args.shared.now.params.now in
    let count : length c.args.sources.items ≡ c.len-contexts.result = sym c.args.sources.ok.0 ∙ sym c.len-contexts.ensures in
    let ready = subst (λ (n : ℕ). IsReady fields p t c.args.book (g.D.Disk.state c.args.disk) n) count c.requires.ready in
    let new = c.in-Ok.ensures.ok in
    subst (λ (n : ℕ). MayWork c.in-Ok.committer fields t p n c.in-Ok.first) c.len-contexts.ensures
    (newly g.D.Disk.state fields t p c.in-Ok.committer c.in-Ok.first c.args.disk c.args.book c.len-contexts.result ready new.0 new.1 new.2)

pub returns-in-Ok : goal.returns-in-Ok
returns-in-Ok g c =
    let fields = members_view c.args.shared.now.fields.now in
    let t = c.args.shared.now.schema.now in
    let p = c.args.shared.now.params.now in
    let sources = map g.S.Source.state c.args.sources.items in
    let back = map g.S.Source.state c.work-sources.result.0.items in
    let count : length c.args.sources.items ≡ c.len-contexts.result = sym c.args.sources.ok.0 ∙ sym c.len-contexts.ensures in
    let ready = subst (λ (n : ℕ). IsReady fields p t c.args.book (g.D.Disk.state c.args.disk) n) count c.requires.ready in
    let birth = c.in-Ok.ensures.ok.1 in
    let born = born-for g.D.Disk.state fields t p c.in-Ok.committer c.args.disk c.args.book c.len-contexts.result ready birth in
    let firsts = born-firsts g.D.Disk.state fields t p c.in-Ok.committer c.args.disk c.args.book c.len-contexts.result ready birth in
    let ran = runs g.D.Disk.state fields t p c.in-Ok.committer sources back c.work-sources.new.first c.work-sources.result.1
    c.end-disk.result.0 c.end-disk.result.1 ready.rules ready.rows born firsts c.work-sources.ensures c.end-disk.ensures in
    runs-given g.D.Disk.state fields t p c.in-Ok.committer c.args.disk (g.D.Disk.state c.end-disk.result.0) c.args.book
    c.end-disk.result.1 c.len-contexts.result sources back c.work-sources.result.1 ready birth ran

pub returns-in-Err : goal.returns-in-Err
returns-in-Err g c =
    let fields = members_view c.args.shared.now.fields.now in
    let states = map g.S.Source.state c.args.sources.items in
    let back = c.in-Err.ensures.err in
    subst (λ d. RunsContexts c.args.shared.now.schema.now fields c.args.shared.now.params.now (g.D.Disk.state c.args.disk)
    (g.D.Disk.state d) c.args.book
    c.in-Err.book states states (Err Memory))
    (sym back.0)
    (subst (λ (b : BookData). RunsContexts c.args.shared.now.schema.now fields c.args.shared.now.params.now (g.D.Disk.state c.args.disk)
    (g.D.Disk.state
    c.args.disk) c.args.book b states states (Err Memory))
    (sym back.1)
    (runs-nothing fields c.args.shared.now.schema.now c.args.shared.now.params.now (g.D.Disk.state c.args.disk) c.args.book states (length
    c.args.sources.items) c.requires.ready))
