use Rattle.std.proofs.Common.{◌≡◌, ◌∙◌, Bool, true, List, [], length, ap, sym, subst}
use Rattle.std.specs.Prelude.{None, vec_len}
use Rattle.std.specs.List.{AllByRecursion}
use Rattle.nt_book.specs.declared.event.Event.{Event}
use Rattle.nt_book.specs.declared.row.ClusterRow.{ClusterRow}
use Rattle.nt_book.specs.Books.{BookData}
use Rattle.nt_book.specs.Keeping.{AreOffsets, KeepsStagedOrder, IsKindOf, listed_rows}
use Rattle.nt_book.proofs.Noted.{no-items}
use Rattle.nt_book.proofs.Staged.{KeepsStagedOrder-staged, no-order, HasRoomToPublish-staged, nothing-listed}
use Rattle.nt_book.proofs.Telling.{length-book}
use Rattle.nt_book.proofs.book.Book.stage_all.Goals as goal

pub invariant_of-self : goal.invariant_of-self
invariant_of-self c =
    let h = c.self.invariant.0 in
    let told = ap (λ (b : BookData). b.history) c.self.view_is in
    let i = c.self.inside in
    let room = c.self.invariant.3 in
    let rows : i.rows.items ≡ [] =
    no-items i.rows.items (sym (length-book _ _ _ h c.args.self.now told) ∙ ap length c.requires.none_yet) in
    let kept : KeepsStagedOrder i.staged i.group (vec_len i.firsts) i.order.items [] i.events.items =
    subst (λ (rs : List ClusterRow). KeepsStagedOrder i.staged i.group (vec_len i.firsts) i.order.items rs i.events.items) rows
    c.self.invariant.5 in
    let named : AllByRecursion (λ (e : Event). IsKindOf 0 e.cluster e.kind) i.events.items =
    subst (λ (rs : List ClusterRow). AllByRecursion (λ (e : Event). IsKindOf (length rs) e.cluster e.kind) i.events.items) rows h.named in
    let order : i.order.items ≡ [] = no-items i.order.items (no-order _ _ _ _ _ kept named) in
    let none : i.group ≡ None = ap (λ (b : BookData). b.group) c.self.view_is ∙ c.requires.no_groups in
    let nothing : (b : Bool) → listed_rows b i.order.items i.rows.items ≡ [] =
    λ b. nothing-listed b i.order.items i.rows.items order rows in (
      h,
      c.self.invariant.1,
      subst (λ (l : List ClusterRow). AreOffsets i.entries i.firsts.items l i.offsets.items) (sym (nothing true))
          (subst (λ (l : List ClusterRow). AreOffsets i.entries i.firsts.items l i.offsets.items) (nothing i.staged) c.self.invariant.2),
      record {
        one = room.one;
        for_row = room.for_row;
        for_events = room.for_events;
        for_offsets = λ no some. absurd (cc no);
      },
      c.self.invariant.4,
      subst (λ (rs : List ClusterRow). KeepsStagedOrder true i.group (vec_len i.firsts) i.order.items rs i.events.items) (sym rows)
          (KeepsStagedOrder-staged _ _ _ _ _ kept named none),
      HasRoomToPublish-staged i.staged i.ready _ _ _ _ _ _ c.self.invariant.6,
    )
