use Rattle.std.proofs.Common.{◌≡◌, ◌∙◌, ap, sym, subst, arith, ◌≤◌, [], ◌∷◌, ◌++◌, None}
use Rattle.std.specs.Prelude.{Ok}
use Rattle.std.specs.List.{AllByRecursion}
use Rattle.nt_machine.specs.Deal.{times}
use Rattle.nt_machine.specs.History.{own_of, publishers_of, ranges_of}
use Rattle.nt_machine.specs.Legal.{IsFilledRange}
use Rattle.nt_book.specs.Books.{BookData, book_ranges}
use Rattle.nt_book.specs.Entries.{published_entry}
use Rattle.nt_commit.specs.Holds.{IsLater, Publishes}
use Rattle.nt_commit.specs.Locked.{history_of_locked}
use Rattle.nt_commit.proofs.Entering.{published}
use Rattle.nt_commit.proofs.Owned.{step_from, publishes_from}
use Rattle.nt_commit.proofs.Publishing.{told_filled, told_publishers}
use Rattle.nt_commit.proofs.Standing.{locked_of}
use Rattle.nt_commit.proofs.locked.Locked.publish.Given.{Over}
use Rattle.nt_commit.proofs.locked.Locked.publish.Goals.{After-publish}
use Rattle.nt_commit.proofs.locked.Locked.publish.Goals as goal

-- the ranges were published
done : (g : Over) (c : After-publish g)
    → IsLater g.D.Disk.state (locked_of c.self.inside.begun.value c.self.inside.disk c.self.inside.contexts c.self.inside.book)
    (locked_of c.self.inside.begun.value c.self.inside.disk c.self.inside.contexts c.publish.new.self)
    × Publishes g.D.Disk.state c.args.context
    (locked_of c.self.inside.begun.value c.self.inside.disk c.self.inside.contexts c.self.inside.book)
    (locked_of c.self.inside.begun.value c.self.inside.disk c.self.inside.contexts c.publish.new.self) (Ok tt)
done g c =
    let context : c.args.context ≤ c.self.inside.contexts =
    omega (arith, ap (λ v. v.birth.contexts) c.self.view_is, c.requires.staged.1) in
    let filled = subst (λ v. AllByRecursion IsFilledRange (own_of (ranges_of (history_of_locked g.D.Disk.state v)) c.args.context))
    (sym c.self.view_is) c.requires.filled in
    let r = published g.D.Disk.state _ _ _ _ c.self.invariant _ c.keeps.ensures c.args.context
    (c.publish.ensures.book ∙ ap (λ (x : BookData). record x {
      history = x.history ++ published_entry (book_ranges x) c.args.context ∷ [];
      ready = None;
    }) c.in_ok-room_to_publish.ensures.same) context filled in
    (r.0, record { grows = r.1; refused = tt })

pub publish-requires : goal.publish-requires
publish-requires g c =
    let same = c.in_ok-room_to_publish.ensures.same in
    let before = subst (λ v. times c.args.context (publishers_of (history_of_locked g.D.Disk.state v)) ≡ 0) (sym c.self.view_is)
    c.requires.before in
    let filled = subst (λ v. AllByRecursion IsFilledRange (own_of (ranges_of (history_of_locked g.D.Disk.state v)) c.args.context))
    (sym c.self.view_is) c.requires.filled in
    record {
      ready = c.in_ok-room_to_publish.ensures.ok;
      before = ap (λ (x : BookData). times c.args.context (publishers_of x.history)) same
          ∙ (sym (ap (λ ps. times c.args.context ps) (told_publishers _ _ c.self.inside.book.history)) ∙ before);
      filled = subst (λ (x : BookData). AllByRecursion IsFilledRange (own_of (book_ranges x) c.args.context)) (sym same)
          (told_filled _ _ c.self.inside.book.history c.args.context filled);
    }

pub invariant_of-self-2 : goal.invariant_of-self-2
invariant_of-self-2 g c = (done g (goal.at.invariant_of-self-2 g c).After-publish).0.after

pub returns-clause-step : goal.returns-clause-step
returns-clause-step g c = step_from g.D.Disk.state _ _ _ c.self.view_is (done g (goal.at.returns-clause-step g c).After-publish).0

pub returns-clause-publishes : goal.returns-clause-publishes
returns-clause-publishes g c =
    publishes_from g.D.Disk.state _ _ _ c.self.view_is c.args.context _
    (done g (goal.at.returns-clause-publishes g c).After-publish).1
