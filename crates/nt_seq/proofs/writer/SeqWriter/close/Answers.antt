use Rattle.std.proofs.Common.{◌≡◌, ◌∙◌, sym, subst, true, Bool}
use Rattle.std.specs.List.{AllByRecursion}
use Rattle.std.proofs.lemmas.Bool.{false≢true}
use Rattle.nt_machine.specs.History.{clusters_of}
use Rattle.nt_book.specs.Books.{book_clusters, book_ranges}
use Rattle.nt_seq.proofs.Blobs.{late-length, late-entries}
use Rattle.nt_seq.proofs.Closed.{none-spoiled, left-open, left-whole}
use Rattle.nt_seq.specs.Standing.{IsSettledCluster}
use Rattle.nt_seq.proofs.writer.SeqWriter.close.Goals as goal

pub returns-in-Ok-clause-counts : goal.returns-in-Ok-clause-counts
returns-in-Ok-clause-counts g c =
    let cs = book_clusters c.self.inside.book in
    rw (← c.self.view_is) (λ clusters has. (
      c.clusters.ensures ∙ late-length c.self.inside.schema c.self.inside.params.page 0 clusters has.ranges cs has.late,
      c.entries.ensures ∙ late-entries c.self.inside.schema c.self.inside.params.page 0 clusters has.ranges cs has.late,
    ))

pub returns-in-Ok-clause-file : goal.returns-in-Ok-clause-file
returns-in-Ok-clause-file g c =
    let alive = subst (λ s. s.alive ≡ true) (sym c.self.view_is) c.requires.alive in
    let was = c.self.invariant.0.writing alive in
    rw (← c.self.view_is) (λ h told.
    let left = left-whole g.D.Disk.state _ was c.keeps.ensures (λ k held. (g.met.D.Disk.told c.self.inside.disk k held).1) h told
    c.crashes_leave_closed_or_unfinished.ensures
    (g.D.Disk.state c.close.new.disk) c.in-Ok.ensures.closes.left c.in-Ok.ensures.closes.cause in
    (left.0, left.1, record { order = left.2; whole = left.3.0; shut = tt; crash = left.3.1 }))

pub returns-clause-cause : goal.returns-clause-cause
returns-clause-cause g c =
    let alive = subst (λ s. s.alive ≡ true) (sym c.self.view_is) c.requires.alive in
    let was = c.self.invariant.0.writing alive in
    rw (← c.self.view_is) (record {
      undamaged = record {
        unspoiled = none-spoiled (book_ranges c.self.inside.book) (subst (λ (b : Bool). AllByRecursion IsSettledCluster (clusters_of b
            c.self.inside.book.history)) was.not_staged was.settled);
        untorn = was.untorn;
        published = λ staged. absurd (false≢true (sym was.not_staged ∙ staged));
      };
      cause = c.in-Err.ensures.closes.cause;
    })

pub returns-clause-file : goal.returns-clause-file
returns-clause-file g c =
    let alive = subst (λ s. s.alive ≡ true) (sym c.self.view_is) c.requires.alive in
    let was = c.self.invariant.0.writing alive in
    rw (← c.self.view_is) (λ h told.
    let left = left-open g.D.Disk.state _ was c.keeps.ensures (λ k held. (g.met.D.Disk.told c.self.inside.disk k held).1) h told
    c.crashes_leave_closed_or_unfinished.ensures
    (g.D.Disk.state c.close.new.disk) c.in-Err.error c.in-Err.ensures.closes.left c.in-Err.ensures.closes.cause in
    (left.0, left.1, record { order = left.2; whole = tt; shut = left.3.0; crash = left.3.1 }))
