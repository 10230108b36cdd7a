use Rattle.std.proofs.Common.{◌≡◌, ℕ, ◌-◌, ◌+◌, ◌≤◌, Bool, true, false, List, [], ◌∷◌, ◌++◌, length, ap, sym, subst, refl, ◌∙◌, arith}
use Rattle.std.specs.Prelude.{Option, None, vec_len, vec_capacity}
use Rattle.nt_machine.specs.declared.entry.Entry.{Entry}
use Rattle.nt_machine.specs.Deal.{times}
use Rattle.nt_machine.specs.History.{publishers_of}
use Rattle.nt_book.specs.declared.meta.ClusterMeta.{ClusterMeta}
use Rattle.nt_book.specs.declared.event.Event.{Event}
use Rattle.nt_book.specs.declared.event.EventKind.TheVariants.{Reserved}
use Rattle.nt_book.specs.declared.state.RangeState.TheVariants as state
use Rattle.nt_book.specs.declared.row.ClusterRow.{ClusterRow}
use Rattle.nt_book.specs.Books.{BookData, book_end}
use Rattle.nt_book.specs.Entries.{history_of, reserved_by, reserved_entry}
use Rattle.nt_book.specs.Keeping.{IsHistory, IsCounted, KeepsLists, KeepsStagedOrder, AreOffsets, listed_rows}
use Rattle.nt_book.specs.Limiting.{limit_error}
use Rattle.nt_book.specs.Listing.{is_due_after}
use Rattle.nt_book.specs.Pages.{IsPaged}
use Rattle.nt_book.proofs.Counted.{count_out-le}
use Rattle.nt_book.proofs.OneMore.{IsCounted-append}
use Rattle.nt_book.proofs.Fitting.{limit_error-none, fewer}
use Rattle.nt_book.proofs.Kept.{history-reserved, IsHistory-reserved, next-range}
use Rattle.nt_book.proofs.Listed.{KeepsLists-append}
use Rattle.nt_book.proofs.Staged.{KeepsStagedOrder-reserved, order-inside}
use Rattle.nt_book.proofs.Clusters.{placed-append}
use Rattle.nt_book.proofs.Telling.{limit-book, length-book, last-book, end-book}
use Rattle.nt_book.proofs.book.Book.reserve.Goals as goal

pub overflow_add-self-2 : goal.overflow_add-self-2
overflow_add-self-2 c =
    let h = c.self.invariant.0 in
    let told = ap (λ (b : BookData). b.history) c.self.view_is in
    let i = c.self.inside in
    let is_staged : i.staged ≡ true = ap (λ (b : BookData). b.staged) c.self.view_is ∙ c.requires.staged in
    let ends : book_end c.args.self.now ≡ i.end =
    end-book _ _ _ h c.args.self.now told _ _ (sym (ap (λ (b : BookData). b.begin) c.self.view_is))
    (sym (ap (λ (b : BookData). b.lists) c.self.view_is)) (sym (ap (λ (b : BookData). b.torn) c.self.view_is))
    ∙ sym c.self.invariant.4.ends in
    let taken = c.take.ensures.taken in
    let counted = c.self.invariant.1 in
    let lists : length c.take.result.pages ≡ length i.firsts.items =
    ap (λ (m : ClusterMeta). length m.pages) taken ∙ (c.requires.lists ∙ sym (ap (λ (b : BookData). length b.firsts) c.self.view_is)) in
    let paged : IsPaged c.take.result = subst IsPaged (sym taken) c.requires.paged in
    let fits = limit_error-none i.limits i.end (length i.rows.items) c.take.result.len
    (ap (λ (m : ClusterMeta). limit_error i.limits i.end (length i.rows.items) m.len) taken
    ∙ (sym (limit-book _ _ _ h c.args.self.now told i.limits i.end c.args.meta.now.len
    (ap (λ (b : BookData). b.limits) c.self.view_is) ends)
    ∙ c.requires.limits)) in
    omega (
      arith,
      count_out-le i.rows.items,
      counted.counted,
      counted.bound,
      fewer (length i.rows.items)
          i.limits.clusters counted.few fits.2,
    )

pub invariant_of-self : goal.invariant_of-self
invariant_of-self c =
    let h = c.self.invariant.0 in
    let told = ap (λ (b : BookData). b.history) c.self.view_is in
    let i = c.self.inside in
    let is_staged : i.staged ≡ true = ap (λ (b : BookData). b.staged) c.self.view_is ∙ c.requires.staged in
    let ends : book_end c.args.self.now ≡ i.end =
    end-book _ _ _ h c.args.self.now told _ _ (sym (ap (λ (b : BookData). b.begin) c.self.view_is))
    (sym (ap (λ (b : BookData). b.lists) c.self.view_is)) (sym (ap (λ (b : BookData). b.torn) c.self.view_is))
    ∙ sym c.self.invariant.4.ends in
    let taken = c.take.ensures.taken in
    let counted = c.self.invariant.1 in
    let lists : length c.take.result.pages ≡ length i.firsts.items =
    ap (λ (m : ClusterMeta). length m.pages) taken ∙ (c.requires.lists ∙ sym (ap (λ (b : BookData). length b.firsts) c.self.view_is)) in
    let paged : IsPaged c.take.result = subst IsPaged (sym taken) c.requires.paged in
    let fits = limit_error-none i.limits i.end (length i.rows.items) c.take.result.len
    (ap (λ (m : ClusterMeta). limit_error i.limits i.end (length i.rows.items) m.len) taken
    ∙ (sym (limit-book _ _ _ h c.args.self.now told i.limits i.end c.args.meta.now.len
    (ap (λ (b : BookData). b.limits) c.self.view_is) ends)
    ∙ c.requires.limits)) in
    let number : c.len-range.result ≡ length i.rows.items = omega (arith, c.len-range.ensures, i.rows.ok) in
    let row : ClusterRow = record { meta = c.take.result; start = i.end; first = 0; offsets = 0; state = state.Out } in
    let none : times c.take.result.context (publishers_of (history_of i.rows.items i.events.items)) ≡ 0 =
    ap (λ (m : ClusterMeta). times m.context (publishers_of (history_of i.rows.items i.events.items))) taken
    ∙ (ap (λ (l : List (Entry ClusterMeta)). times c.args.meta.now.context (publishers_of l)) told ∙ c.requires.before) in
    let e : ClusterRow → Entry ClusterMeta = λ r. reserved_by c.take.result.context (length i.rows.items) r.start r.meta in
    let grown = history-reserved _ _ _ h row none refl Reserved e (omega arith) (λ rs. refl)
    (next-range _ _ _ h i.end counted.behind) refl in
    let more : history_of (i.rows.items ++ row ∷ []) c.push_reserved.new.self.items ≡ history_of i.rows.items i.events.items ++ e row ∷ [] =
    ap (λ (es : List Event). history_of (i.rows.items ++ row ∷ []) es) c.push_reserved.ensures.items
    ∙ (ap (λ (n : ℕ). history_of (i.rows.items ++ row ∷ []) (i.events.items
    ++ record { context = c.take.result.context; kind = Reserved; cluster = n } ∷ [])) number ∙ grown) in
    let room = c.self.invariant.3 in
    let spare : 1 ≤ i.spare = omega (arith, c.requires.spare, ap (λ (b : BookData). b.spare) c.self.view_is) in
    let not_due : is_due_after i.group i.lists.items i.torn (length i.rows.items) ≡ false =
    ap (λ (g : Option (ℕ × ℕ)). is_due_after g i.lists.items i.torn (length i.rows.items)) (c.self.invariant.5.no_groups is_staged) in (
      subst (λ (rs : List ClusterRow). IsHistory i.begin rs c.push_reserved.new.self.items)
          (sym c.push_reserved-2.ensures.items)
          (subst (λ (es : List Event). IsHistory i.begin (i.rows.items ++ row ∷ []) es)
          (sym c.push_reserved.ensures.items)
          (subst (λ (n : ℕ). IsHistory i.begin (i.rows.items ++ row ∷ []) (i.events.items
          ++ record { context = c.take.result.context; kind = Reserved; cluster = n } ∷ [])) (sym number)
          (IsHistory-reserved _ _ _ h row none refl Reserved e (omega arith) (λ rs. refl)
          (next-range _ _ _ h i.end counted.behind) refl))),
      subst (λ (rs : List ClusterRow). IsCounted i.begin (i.end + c.take.result.len) (i.out + 1) i.limits i.firsts.items rs)
          (sym c.push_reserved-2.ensures.items)
          (IsCounted-append i.rows.items row i.begin i.end i.out i.limits i.firsts.items refl refl
          (record {
            short = omega (arith, fits.0, i.limits.range_bound);
            low = omega (arith, fits.1, i.limits.file_bound);
            lists = omega (arith, lists);
            paged = paged;
          }) fits.1 fits.2 counted),
      subst (λ (rs : List ClusterRow). AreOffsets i.entries i.firsts.items (listed_rows i.staged i.order.items rs) i.offsets.items)
          (sym c.push_reserved-2.ensures.items)
          (subst (λ (b : Bool). AreOffsets i.entries i.firsts.items (listed_rows b i.order.items (i.rows.items ++ row ∷ []))
          i.offsets.items) (sym is_staged)
          (subst (λ (xs : List ClusterRow). AreOffsets i.entries i.firsts.items xs i.offsets.items)
          (sym (placed-append i.rows.items row i.order.items (order-inside _ _ _ _ _ _ c.self.invariant.5)))
          (subst (λ (b : Bool). AreOffsets i.entries i.firsts.items (listed_rows b i.order.items i.rows.items) i.offsets.items) is_staged
          c.self.invariant.2))),
      record {
        one = omega (arith, room.one);
        for_row = omega (arith, room.for_row, spare, c.push_reserved-2.ensures.len, c.push_reserved-2.ensures.capacity);
        for_events = omega (arith, room.for_events, spare, c.push_reserved.ensures.len, c.push_reserved.ensures.capacity);
        for_offsets = λ no some. absurd (omega (arith, some, room.one));
      },
      subst (λ (rs : List ClusterRow). KeepsLists i.begin (i.end + c.take.result.len) (i.spare - 1) i.group i.lists.items i.torn i.listed
          (vec_capacity i.lists) rs) (sym c.push_reserved-2.ensures.items)
          (KeepsLists-append _ _ _ _ _ _ _ _ _ c.self.invariant.4 row refl room.one not_due),
      subst (λ (rs : List ClusterRow). KeepsStagedOrder i.staged i.group (vec_len i.firsts) i.order.items rs c.push_reserved.new.self.items)
          (sym c.push_reserved-2.ensures.items)
          (KeepsStagedOrder-reserved _ _ _ _ _ _ c.self.invariant.5 (e row) (is_staged, none) refl row none
          (λ yes. omega (arith, lists, i.firsts.ok))
          c.push_reserved.new.self.items more),
      tt,
    )

pub returns-clause-number : goal.returns-clause-number
returns-clause-number c =
    let h = c.self.invariant.0 in
    let told = ap (λ (b : BookData). b.history) c.self.view_is in
    omega (arith, c.len-range.ensures, c.self.inside.rows.ok, length-book _ _ _ h c.args.self.now told)

pub returns-clause-allowed : goal.returns-clause-allowed
returns-clause-allowed c =
    let h = c.self.invariant.0 in
    let told = ap (λ (b : BookData). b.history) c.self.view_is in
    let i = c.self.inside in
    let ends : book_end c.args.self.now ≡ i.end =
    end-book _ _ _ h c.args.self.now told _ _ (sym (ap (λ (b : BookData). b.begin) c.self.view_is))
    (sym (ap (λ (b : BookData). b.lists) c.self.view_is)) (sym (ap (λ (b : BookData). b.torn) c.self.view_is))
    ∙ sym c.self.invariant.4.ends in (
      omega (arith, c.len-range.ensures, i.rows.ok, length-book _ _ _ h c.args.self.now told),
      omega (
        arith,
        c.self.invariant.1.behind,
        ends,
        last-book _ _ _ h c.args.self.now told (sym (ap (λ (b : BookData). b.begin) c.self.view_is)),
      ),
    )

pub returns-clause-book : goal.returns-clause-book
returns-clause-book c =
    let h = c.self.invariant.0 in
    let told = ap (λ (b : BookData). b.history) c.self.view_is in
    let i = c.self.inside in
    let is_staged : i.staged ≡ true = ap (λ (b : BookData). b.staged) c.self.view_is ∙ c.requires.staged in
    let ends : book_end c.args.self.now ≡ i.end =
    end-book _ _ _ h c.args.self.now told _ _ (sym (ap (λ (b : BookData). b.begin) c.self.view_is))
    (sym (ap (λ (b : BookData). b.lists) c.self.view_is)) (sym (ap (λ (b : BookData). b.torn) c.self.view_is))
    ∙ sym c.self.invariant.4.ends in
    let taken = c.take.ensures.taken in
    let counted = c.self.invariant.1 in
    let lists : length c.take.result.pages ≡ length i.firsts.items =
    ap (λ (m : ClusterMeta). length m.pages) taken ∙ (c.requires.lists ∙ sym (ap (λ (b : BookData). length b.firsts) c.self.view_is)) in
    let paged : IsPaged c.take.result = subst IsPaged (sym taken) c.requires.paged in
    let fits = limit_error-none i.limits i.end (length i.rows.items) c.take.result.len
    (ap (λ (m : ClusterMeta). limit_error i.limits i.end (length i.rows.items) m.len) taken
    ∙ (sym (limit-book _ _ _ h c.args.self.now told i.limits i.end c.args.meta.now.len
    (ap (λ (b : BookData). b.limits) c.self.view_is) ends)
    ∙ c.requires.limits)) in
    let number : c.len-range.result ≡ length i.rows.items = omega (arith, c.len-range.ensures, i.rows.ok) in
    let row : ClusterRow = record { meta = c.take.result; start = i.end; first = 0; offsets = 0; state = state.Out } in
    let none : times c.take.result.context (publishers_of (history_of i.rows.items i.events.items)) ≡ 0 =
    ap (λ (m : ClusterMeta). times m.context (publishers_of (history_of i.rows.items i.events.items))) taken
    ∙ (ap (λ (l : List (Entry ClusterMeta)). times c.args.meta.now.context (publishers_of l)) told ∙ c.requires.before) in
    let e : ClusterRow → Entry ClusterMeta = λ r. reserved_by c.take.result.context (length i.rows.items) r.start r.meta in
    let grown = history-reserved _ _ _ h row none refl Reserved e (omega arith) (λ rs. refl)
    (next-range _ _ _ h i.end counted.behind) refl in
    let all : history_of c.push_reserved-2.new.self.items c.push_reserved.new.self.items
    ≡ history_of i.rows.items i.events.items ++ reserved_entry c.len-range.result (book_end c.args.self.now) c.args.meta.now ∷ [] =
    ap (λ (rs : List ClusterRow). history_of rs c.push_reserved.new.self.items) c.push_reserved-2.ensures.items
    ∙ (ap (λ (es : List Event). history_of (i.rows.items ++ row ∷ []) es) c.push_reserved.ensures.items
    ∙ (ap (λ (n : ℕ). history_of (i.rows.items ++ row ∷ []) (i.events.items
    ++ record { context = c.take.result.context; kind = Reserved; cluster = n } ∷ [])) number
    ∙ (grown
    ∙ (ap (λ (n : ℕ). history_of i.rows.items i.events.items ++ reserved_entry n i.end c.take.result ∷ []) (sym number)
    ∙ (ap (λ (x : ℕ). history_of i.rows.items i.events.items ++ reserved_entry c.len-range.result x c.take.result ∷ []) (sym ends)
    ∙ ap (λ (m : ClusterMeta). history_of i.rows.items i.events.items ++ reserved_entry c.len-range.result (book_end c.args.self.now) m ∷
    [])
    c.take.ensures.taken))))) in
    subst
    (λ (b : BookData). record {
      begin = i.begin;
      limits = i.limits;
      firsts = i.firsts.items;
      history = history_of c.push_reserved-2.new.self.items c.push_reserved.new.self.items;
      spare = i.spare - 1;
      group = i.group;
      lists = i.lists.items;
      torn = i.torn;
      staged = i.staged;
      ready = None;
    } ≡ record b {
      history = b.history ++ reserved_entry c.len-range.result (book_end c.args.self.now) c.args.meta.now ∷ [];
      spare = b.spare - 1;
      ready = None;
    }) c.self.view_is
    (ap (λ (l : List (Entry ClusterMeta)). record {
      begin = i.begin;
      limits = i.limits;
      firsts = i.firsts.items;
      history = l;
      spare = i.spare - 1;
      group = i.group;
      lists = i.lists.items;
      torn = i.torn;
      staged = i.staged;
      ready = None;
    }) all)
