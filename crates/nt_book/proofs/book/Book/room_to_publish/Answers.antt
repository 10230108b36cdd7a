use Rattle.std.proofs.Common.{◌≡◌, ◌∙◌, ℕ, ◌*◌, List, ap, sym, subst, arith}
use Rattle.std.specs.Prelude.{vec_len}
use Rattle.nt_book.specs.declared.event.Event.{Event}
use Rattle.nt_book.specs.declared.row.ClusterRow.{ClusterRow}
use Rattle.nt_book.specs.declared.row.PublishedRow.{PublishedRow}
use Rattle.nt_book.specs.Books.{BookData}
use Rattle.nt_book.specs.Keeping.{AreOffsets, IsHistory, KeepsStagedOrder, listed_rows, own_count}
use Rattle.nt_book.proofs.Publishing.{columns-counted}
use Rattle.nt_book.proofs.book.Book.room_to_publish.Goals as goal

pub invariant_of-self-2 : goal.invariant_of-self-2
invariant_of-self-2 c =
    let i = c.self.inside in
    let room = c.self.invariant.3 in
    let events = c.in_ok-reserve-3.ensures.items in
    let order = c.in_ok-reserve.ensures.items in
    let count : c.count_own-count.result ≡ own_count i.rows.items c.args.context =
    c.count_own-count.ensures ∙ ap (λ (l : List ClusterRow). own_count l c.args.context) c.as_slice.ensures.value in
    let columns : c.len.result ≡ vec_len i.firsts = omega (arith, c.len.ensures) in (
      subst (λ (es : List Event). IsHistory i.begin i.rows.items es) (sym events) c.self.invariant.0,
      c.self.invariant.1,
      subst (λ (l : List PublishedRow). AreOffsets i.entries i.firsts.items
          (listed_rows i.staged l i.rows.items) c.reserve-2.new.self.items)
          (sym order)
          (subst (λ (os : List ℕ). AreOffsets i.entries i.firsts.items (listed_rows i.staged i.order.items i.rows.items) os)
          (sym c.in_ok-reserve-2.ensures.items) c.self.invariant.2),
      record {
        one = room.one;
        for_row = room.for_row;
        for_events = omega (arith, room.for_events, c.in_ok-reserve-3.ensures.len, c.in_ok-reserve-3.ensures.ok);
        for_offsets = λ no some. omega (
          arith,
          room.for_offsets no some,
          c.in_ok-reserve-2.ensures.len,
          c.in_ok-reserve-2.ensures.capacity,
        );
      },
      c.self.invariant.4,
      subst (λ (l : List PublishedRow). KeepsStagedOrder i.staged i.group (vec_len i.firsts) l i.rows.items c.reserve-3.new.self.items)
          (sym order)
          (subst (λ (es : List Event). KeepsStagedOrder i.staged i.group (vec_len i.firsts) i.order.items i.rows.items es) (sym events)
          c.self.invariant.5),
      record {
        is_staged = ap (λ (b : BookData). b.staged) c.self.view_is ∙ c.requires;
        for_order = omega (arith, count, c.in_ok-reserve.ensures.len, c.in_ok-reserve.ensures.ok);
        for_offsets = omega (
          arith,
          columns-counted (vec_len i.firsts) i.rows.items c.args.context,
          ap (λ (n : ℕ). n * vec_len i.firsts) count,
          ap (λ (n : ℕ). c.count_own-count.result * n) columns,
          c.in_ok-reserve-2.ensures.len,
          c.in_ok-reserve-2.ensures.ok,
        );
      },
    )
