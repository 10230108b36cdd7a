use Rattle.std.proofs.Common.{◌≡◌, ◌∙◌, ap, sym, subst, rules, arith, true, length, List, ℕ}
use Rattle.std.specs.Prelude.{vec_len, vec_capacity}
use Rattle.nt_book.specs.declared.row.ClusterRow.{ClusterRow}
use Rattle.nt_book.specs.declared.list.NotedList.{NotedList}
use Rattle.nt_book.specs.Books.{BookData}
use Rattle.nt_book.specs.Keeping.{KeepsLists, HasRoomToPublish}
use Rattle.nt_book.proofs.Staged.{HasRoomToPublish-roomier}
use Rattle.nt_book.specs.Listing.{is_due_after}
use Rattle.nt_book.proofs.Telling.{due-book}
use Rattle.nt_book.proofs.Listed.{KeepsLists-roomy}
use Rattle.nt_book.proofs.book.Book.room.Goals as goal

pub invariant_of-self-2 : goal.invariant_of-self-2
invariant_of-self-2 c =
    let h = c.self.invariant.0 in
    let told = ap (λ (b : BookData). b.history) c.self.view_is in
    let kept = c.self.invariant.5 in
    let stages = ap (λ (b : BookData). b.staged) c.self.view_is in
    let lists = c.in_ok-room_for_list.ensures.items in
    let i = c.self.inside in
    let due : is_due_after i.group i.lists.items i.torn (length i.rows.items) ≡ true → c.due-due.result ≡ true =
    λ is. c.due-due.ensures ∙ (due-book _ _ _ h c.args.self.now told _ _ _ _ kept stages _ _
    (sym (ap (λ (b : BookData). b.group) c.self.view_is))
    (sym (ap (λ (b : BookData). b.lists) c.self.view_is)) (sym (ap (λ (b : BookData). b.torn) c.self.view_is)) ∙ is) in (
      search rules,
      search rules,
      search rules,
      search rules,
      subst (λ (rs : List ClusterRow). KeepsLists i.begin i.end 1 i.group c.room_for_list.new.lists.items i.torn i.listed
          (vec_capacity c.room_for_list.new.lists) rs) (sym c.in_ok-reserve.ensures.items)
          (subst (λ (ls : List NotedList). KeepsLists i.begin i.end 1 i.group ls i.torn i.listed (vec_capacity c.room_for_list.new.lists)
          i.rows.items) (sym lists)
          (KeepsLists-roomy _ _ _ _ _ _ _ _ _ c.self.invariant.4 1 (vec_capacity c.room_for_list.new.lists)
          (λ is. omega (arith, c.in_ok-room_for_list.ensures.ok (due is), ap length lists, c.room_for_list.new.lists.ok)))),
      search rules,
      subst (λ (rs : List ClusterRow). HasRoomToPublish i.staged i.ready (vec_len i.firsts) rs (vec_len i.order) (vec_capacity i.order)
          (vec_len c.reserve-3.new.self) (vec_capacity c.reserve-3.new.self)) (sym c.in_ok-reserve.ensures.items)
          (subst (λ (n : ℕ). HasRoomToPublish i.staged i.ready (vec_len i.firsts) i.rows.items (vec_len i.order) (vec_capacity i.order)
          n (vec_capacity c.reserve-3.new.self)) (sym c.in_ok-reserve-3.ensures.len)
          (HasRoomToPublish-roomier i.staged i.ready _ _ _ _ _ _ (vec_capacity i.order) (vec_capacity c.reserve-3.new.self) (omega arith)
          (omega (arith, c.in_ok-reserve-3.ensures.capacity)) c.self.invariant.6)),
    )
