use Rattle.std.proofs.Common.{◌≡◌, ◌∙◌, ◌++◌, ◌∷◌, [], ℕ, Bool, List, length, map, ap, sym, refl, subst, arith}
use Rattle.std.specs.Prelude.{Option, Some, None, vec_len, vec_capacity}
use Rattle.std.specs.List.{AllByRecursion}
use Rattle.nt_machine.specs.declared.entry.Entry.{Entry}
use Rattle.nt_machine.specs.Deal.{times}
use Rattle.nt_machine.specs.History.{Cluster, own_of, publishers_of, ranges_of}
use Rattle.nt_machine.specs.Legal.{IsAllowed, IsFilledRange}
use Rattle.nt_book.specs.declared.meta.ClusterMeta.{ClusterMeta}
use Rattle.nt_book.specs.declared.event.Event.{Event}
use Rattle.nt_book.specs.declared.event.EventKind.TheVariants.{Published}
use Rattle.nt_book.specs.declared.row.ClusterRow.{ClusterRow}
use Rattle.nt_book.specs.Books.{BookData, book_ranges}
use Rattle.nt_book.specs.Entries.{history_of, published_entry, row_clusters}
use Rattle.nt_book.specs.Keeping.{AreOffsets, IsHistory, IsPublishable, IsRoomToPublish, HasRoomToPublish, listed_rows}
use Rattle.nt_book.specs.Keeping.{order_numbers, own_columns, own_numbers, placed_row, ready_events}
use Rattle.nt_book.proofs.Kept.{history-beside, IsHistory-beside}
use Rattle.nt_book.proofs.Publishing.{publishing-fits, published-allowed, KeepsStagedOrder-published}
use Rattle.nt_book.proofs.Telling.{same_ranges}
use Rattle.nt_book.proofs.book.Book.publish.Goals as goal

pub enter-self-inside-requires : goal.enter-self-inside-requires
enter-self-inside-requires c =
    let i = c.self.inside in
    let h = c.self.invariant.0 in
    let counted = c.self.invariant.1 in
    let told = ap (λ (b : BookData). b.history) c.self.view_is in
    let ready : i.ready ≡ Some c.args.context = ap (λ (b : BookData). b.ready) c.self.view_is ∙ c.requires.ready in
    let to_publish : IsRoomToPublish i.staged (vec_len i.firsts) i.rows.items (vec_len i.order) (vec_capacity i.order) (vec_len i.offsets)
    (vec_capacity i.offsets) c.args.context =
    subst (λ (r : Option ℕ). HasRoomToPublish i.staged r (vec_len i.firsts) i.rows.items (vec_len i.order) (vec_capacity i.order)
    (vec_len i.offsets) (vec_capacity i.offsets)) ready c.self.invariant.6 in
    let is_staged = to_publish.is_staged in
    let before : times c.args.context (publishers_of (history_of i.rows.items i.events.items)) ≡ 0 =
    ap (λ (l : List (Entry ClusterMeta)). times c.args.context (publishers_of l)) told ∙ c.requires.before in
    let columns : vec_len i.firsts ≡ length i.firsts.items = omega (arith, i.firsts.ok) in
    let publishable : IsPublishable i.entries i.firsts.items i.rows.items c.args.context i.order.items
    (vec_capacity i.order) i.offsets.items
    (vec_capacity i.offsets) =
    record {
      are = subst (λ (b : Bool). AreOffsets i.entries i.firsts.items (listed_rows b i.order.items i.rows.items) i.offsets.items) is_staged
          c.self.invariant.2;
      each = counted.each;
      lists_all = subst (λ (n : ℕ). AllByRecursion (λ (row : ClusterRow). length row.meta.pages ≡ n) i.rows.items) columns
          (c.self.invariant.5.lists_all is_staged);
      low = counted.low;
      few = omega (arith, counted.few, counted.bound);
      for_order = omega (arith, to_publish.for_order, i.order.ok);
      for_offsets = omega (
        arith,
        to_publish.for_offsets,
        i.offsets.ok,
        ap (λ (n : ℕ). own_columns n i.rows.items c.args.context) columns,
      );
      fits = publishing-fits _ _ _ _ _ _ c.self.invariant.5 is_staged c.args.context before i.begin i.end i.out i.limits i.firsts.items
          h counted;
    } in
    subst (λ (fs : List ℕ). IsPublishable i.entries fs c.as_slice.result.now c.args.context i.order.items (vec_capacity i.order)
    i.offsets.items (vec_capacity i.offsets)) (sym c.as_slice-2.ensures.value)
    (subst (λ (rs : List ClusterRow). IsPublishable i.entries i.firsts.items rs c.args.context i.order.items (vec_capacity i.order)
    i.offsets.items (vec_capacity i.offsets)) (sym c.as_slice.ensures.value) publishable)

pub invariant_of-self : goal.invariant_of-self
invariant_of-self c =
    let i = c.self.inside in
    let h = c.self.invariant.0 in
    let counted = c.self.invariant.1 in
    let told = ap (λ (b : BookData). b.history) c.self.view_is in
    let ready : i.ready ≡ Some c.args.context = ap (λ (b : BookData). b.ready) c.self.view_is ∙ c.requires.ready in
    let to_publish : IsRoomToPublish i.staged (vec_len i.firsts) i.rows.items (vec_len i.order) (vec_capacity i.order) (vec_len i.offsets)
    (vec_capacity i.offsets) c.args.context =
    subst (λ (r : Option ℕ). HasRoomToPublish i.staged r (vec_len i.firsts) i.rows.items (vec_len i.order) (vec_capacity i.order)
    (vec_len i.offsets) (vec_capacity i.offsets)) ready c.self.invariant.6 in
    let is_staged = to_publish.is_staged in
    let before : times c.args.context (publishers_of (history_of i.rows.items i.events.items)) ≡ 0 =
    ap (λ (l : List (Entry ClusterMeta)). times c.args.context (publishers_of l)) told ∙ c.requires.before in
    let allowed : IsAllowed i.begin (ranges_of (history_of i.rows.items i.events.items))
    (published_entry (row_clusters 0 i.rows.items) c.args.context) =
    published-allowed i.begin i.rows.items i.events.items h c.args.context
    (subst (λ (l : List (Entry ClusterMeta)). AllByRecursion IsFilledRange (own_of (ranges_of l) c.args.context)) (sym told)
    c.requires.filled) in
    let grown : history_of i.rows.items c.push_reserved.new.self.items
    ≡ history_of i.rows.items i.events.items ++ published_entry (row_clusters 0 i.rows.items) c.args.context ∷ [] =
    ap (λ (es : List Event). history_of i.rows.items es) c.push_reserved.ensures.items
    ∙ history-beside _ _ _ h c.args.context Published (published_entry (row_clusters 0 i.rows.items) c.args.context) tt refl allowed refl in
    let room = c.self.invariant.3 in
    let now = c.enter-self-inside.new.order.items in
    let result = c.enter-self-inside.result in
    let numbers : order_numbers now ≡ order_numbers i.order.items ++ own_numbers 0 i.rows.items c.args.context =
    c.enter-self-inside.ensures.order
    ∙ ap (λ (l : List ClusterRow). order_numbers i.order.items ++ own_numbers 0 l c.args.context) c.as_slice.ensures.value in (
      subst (λ (es : List Event). IsHistory i.begin i.rows.items es) (sym c.push_reserved.ensures.items)
          (IsHistory-beside _ _ _ h c.args.context Published (published_entry (row_clusters 0 i.rows.items) c.args.context) tt refl allowed
          refl),
      counted,
      subst (λ (b : Bool). AreOffsets result i.firsts.items (listed_rows b now i.rows.items) c.enter-self-inside.new.offsets.items)
          (sym is_staged)
          (subst (λ (fs : List ℕ). AreOffsets result fs (map (placed_row i.rows.items) now) c.enter-self-inside.new.offsets.items)
          c.as_slice-2.ensures.value
          (subst (λ (rs : List ClusterRow). AreOffsets result c.as_slice-2.result.now (map (placed_row rs) now)
          c.enter-self-inside.new.offsets.items) c.as_slice.ensures.value c.enter-self-inside.ensures.offsets)),
      record {
        one = room.one;
        for_row = room.for_row;
        for_events = omega (
          arith,
          room.for_events,
          ap (λ (r : Option ℕ). ready_events r) ready,
          c.push_reserved.ensures.len,
          c.push_reserved.ensures.capacity,
        );
        for_offsets = λ no some. absurd (cc (sym is_staged ∙ no));
      },
      c.self.invariant.4,
      KeepsStagedOrder-published _ _ _ _ _ _ c.self.invariant.5 is_staged c.args.context before now c.push_reserved.new.self.items numbers
          grown,
      tt,
    )

pub returns-clause-book : goal.returns-clause-book
returns-clause-book c =
    let i = c.self.inside in
    let h = c.self.invariant.0 in
    let counted = c.self.invariant.1 in
    let told = ap (λ (b : BookData). b.history) c.self.view_is in
    let ready : i.ready ≡ Some c.args.context = ap (λ (b : BookData). b.ready) c.self.view_is ∙ c.requires.ready in
    let to_publish : IsRoomToPublish i.staged (vec_len i.firsts) i.rows.items (vec_len i.order) (vec_capacity i.order) (vec_len i.offsets)
    (vec_capacity i.offsets) c.args.context =
    subst (λ (r : Option ℕ). HasRoomToPublish i.staged r (vec_len i.firsts) i.rows.items (vec_len i.order) (vec_capacity i.order)
    (vec_len i.offsets) (vec_capacity i.offsets)) ready c.self.invariant.6 in
    let is_staged = to_publish.is_staged in
    let before : times c.args.context (publishers_of (history_of i.rows.items i.events.items)) ≡ 0 =
    ap (λ (l : List (Entry ClusterMeta)). times c.args.context (publishers_of l)) told ∙ c.requires.before in
    let allowed : IsAllowed i.begin (ranges_of (history_of i.rows.items i.events.items))
    (published_entry (row_clusters 0 i.rows.items) c.args.context) =
    published-allowed i.begin i.rows.items i.events.items h c.args.context
    (subst (λ (l : List (Entry ClusterMeta)). AllByRecursion IsFilledRange (own_of (ranges_of l) c.args.context)) (sym told)
    c.requires.filled) in
    let grown : history_of i.rows.items c.push_reserved.new.self.items
    ≡ history_of i.rows.items i.events.items ++ published_entry (row_clusters 0 i.rows.items) c.args.context ∷ [] =
    ap (λ (es : List Event). history_of i.rows.items es) c.push_reserved.ensures.items
    ∙ history-beside _ _ _ h c.args.context Published (published_entry (row_clusters 0 i.rows.items) c.args.context) tt refl allowed refl in
    let all : history_of i.rows.items c.push_reserved.new.self.items
    ≡ history_of i.rows.items i.events.items ++ published_entry (book_ranges c.args.self.now) c.args.context ∷ [] =
    grown ∙ ap (λ (l : List (Cluster ClusterMeta)). history_of i.rows.items i.events.items ++ published_entry l c.args.context ∷ [])
    (same_ranges _ _ _ h c.args.self.now told) in
    subst
    (λ (b : BookData). record {
      begin = i.begin;
      limits = i.limits;
      firsts = i.firsts.items;
      history = history_of i.rows.items c.push_reserved.new.self.items;
      spare = i.spare;
      group = i.group;
      lists = i.lists.items;
      torn = i.torn;
      staged = i.staged;
      ready = None;
    } ≡ record b {
      history = b.history ++ published_entry (book_ranges c.args.self.now) c.args.context ∷ [];
      ready = None;
    }) c.self.view_is
    (ap (λ (l : List (Entry ClusterMeta)). record {
      begin = i.begin;
      limits = i.limits;
      firsts = i.firsts.items;
      history = l;
      spare = i.spare;
      group = i.group;
      lists = i.lists.items;
      torn = i.torn;
      staged = i.staged;
      ready = None;
    }) all)
