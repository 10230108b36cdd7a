use Rattle.std.proofs.Common.{◌≡◌, ◌∙◌, ◌+◌, ◌-◌, ◌++◌, ◌∷◌, ◌==◌, [], ℕ, Bool, true, false, cond, List, length, map, take, drop, ap, sym}
use Rattle.std.proofs.Common.{subst, refl, append-nil, arith}
use Rattle.std.specs.Prelude.{vec_len, vec_capacity}
use Rattle.std.proofs.lemmas.Bool.{eq-eqb}
use Rattle.std.proofs.lemmas.List.Sums.{sum_by-drop_more}
use Rattle.nt_machine.proofs.Histories.{not-eqb}
use Rattle.nt_book.specs.declared.row.ClusterRow.{ClusterRow}
use Rattle.nt_book.specs.declared.row.PublishedRow.{PublishedRow}
use Rattle.nt_book.specs.Entries.{no_row}
use Rattle.nt_book.specs.Keeping.{AreOffsets, order_numbers, own_count, own_columns, own_numbers, placed_row, row_at}
use Rattle.nt_book.proofs.Rows.{row_at-any}
use Rattle.nt_book.proofs.Entering.{own-take, numbers-next, entries-next, lists-next, offsets-next, AreOffsets-next}
use Rattle.nt_book.proofs.staging.enter.Goals as goal
use Rattle.nt_book.proofs.staging.enter.Goals.{then-row-context, else-row-context}

pub push_offsets-requires-clause-fit : goal.push_offsets-requires-clause-fit
push_offsets-requires-clause-fit c =
    let k = c.loop-range.range in
    let rows = c.args.rows.now in
    let row : c.index-rows-range.result ≡ row_at rows k =
    c.index-rows-range.is ∙ row_at-any rows k c.index-rows-range.result c.loop-range-test.true in
    let own : (row_at rows k).meta.context == c.args.context ≡ true =
    eq-eqb _ _ (ap (λ (r : ClusterRow). r.meta.context) (sym row) ∙ c.if-row-context.true) in
    offsets-next _ _ _ _ _ _ _ _ c.requires k _ c.loop-range-test.true own c.loop-range.invariant.1 _ _ c.loop-range.invariant.0 _ _
    (c.as_slice.ensures ∙ ap (λ (r : ClusterRow). r.meta.pages) row) (omega (arith, c.loop-range.offsets.ok))

pub overflow_add-entries : goal.overflow_add-entries
overflow_add-entries c =
    let k = c.loop-range.range in
    let rows = c.args.rows.now in
    let row : c.index-rows-range.result ≡ row_at rows k =
    c.index-rows-range.is ∙ row_at-any rows k c.index-rows-range.result c.loop-range-test.true in
    let own : (row_at rows k).meta.context == c.args.context ≡ true =
    eq-eqb _ _ (ap (λ (r : ClusterRow). r.meta.context) (sym row) ∙ c.if-row-context.true) in
    omega (
      arith,
      entries-next _ _ _ _ _ _ _ _ c.requires k _ c.loop-range-test.true own c.loop-range.invariant.1 _ _ c.loop-range.invariant.0,
      ap (λ (r : ClusterRow). r.meta.entries) row,
    )

pub loop-range-preserved : goal.loop-range-preserved
loop-range-preserved c =
    let k = c.loop-range.range in
    let rows = c.args.rows.now in
    let row : c.index-rows-range.result ≡ row_at rows k =
    c.index-rows-range.is ∙ row_at-any rows k c.index-rows-range.result c.loop-range-test.true in
    let i = c.args.context in
    let columns = length c.args.firsts.now in
    let inside = c.loop-range-test.true in
    let counts : own_count (drop k rows) i ≡ cond ((row_at rows k).meta.context == i) 1 0 + own_count (drop (k + 1) rows) i =
    sum_by-drop_more (λ (r : ClusterRow). cond {A = ℕ} (r.meta.context == i) 1 0) rows k no_row inside in
    let offsets : own_columns columns (drop k rows) i
    ≡ cond ((row_at rows k).meta.context == i) columns 0 + own_columns columns (drop (k + 1) rows) i =
    sum_by-drop_more (λ (r : ClusterRow). cond {A = ℕ} (r.meta.context == i) columns 0) rows k no_row inside in
    let result = c.if-row-context in
    elim c.if-row-context.branch [
      | then-row-context w ↦
          let own : (row_at rows k).meta.context == i ≡ true =
          eq-eqb _ _ (ap (λ (r : ClusterRow). r.meta.context) (sym row) ∙ w.if-row-context.true) in
          let p : PublishedRow = record { range = k; first = c.loop-range.entries; offsets = w.len.result - columns } in
          let order_is : result.order.items ≡ c.loop-range.order.items ++ p ∷ [] =
          ap (λ v. v.items) w.order-is ∙ w.push_reserved.ensures.items in
          let sum : result.entries ≡ c.loop-range.entries + (row_at rows k).meta.entries =
          w.entries-is ∙ ap (λ (r : ClusterRow). c.loop-range.entries + r.meta.entries) row in
          let as_many : length w.as_slice.result.now ≡ columns =
          ap length (w.as_slice.ensures ∙ ap (λ (r : ClusterRow). r.meta.pages) row)
          ∙ lists-next _ _ _ _ _ _ _ _ c.requires k _ inside own c.loop-range.invariant.1 _ _ c.loop-range.invariant.0 in
          let long = w.push_offsets.ensures.pushed.long in (
            subst (λ (n : ℕ). AreOffsets n c.args.firsts.now (map (placed_row rows) result.order.items) result.offsets.items) (sym sum)
                (subst (λ (l : List PublishedRow). AreOffsets (c.loop-range.entries + (row_at rows k).meta.entries) c.args.firsts.now
                (map (placed_row rows) l) result.offsets.items) (sym order_is)
                (subst (λ (os : List ℕ). AreOffsets (c.loop-range.entries + (row_at rows k).meta.entries) c.args.firsts.now
                (map (placed_row rows) (c.loop-range.order.items ++ p ∷ [])) os) (sym (ap (λ v. v.items) w.offsets-is))
                (AreOffsets-next _ _ _ _ _ _ _ _ c.requires k _ inside own c.loop-range.invariant.1 _ _ c.loop-range.invariant.0
                w.as_slice.result.now w.push_offsets.new.offsets.items p refl refl
                (omega (arith, w.len.ensures, c.loop-range.offsets.ok))
                (w.as_slice.ensures ∙ ap (λ (r : ClusterRow). r.meta.pages) row) w.push_offsets.ensures.pushed))),
            ap order_numbers order_is
                ∙ numbers-next _ _ _ _ _ _ _ _ c.requires k _ inside own c.loop-range.invariant.1 p refl,
            omega (
              arith,
              c.loop-range.invariant.2,
              counts,
              ap (λ (b : Bool). cond {A = ℕ} b 1 0) own,
              ap (λ v. vec_len v) w.order-is,
              ap (λ v. vec_capacity v) w.order-is,
              w.push_reserved.ensures.len,
              w.push_reserved.ensures.capacity,
            ),
            omega (
              arith,
              c.loop-range.invariant.3,
              offsets,
              ap (λ (b : Bool). cond {A = ℕ} b columns 0) own,
              ap (λ v. vec_len v) w.offsets-is,
              ap (λ v. vec_capacity v) w.offsets-is,
              long,
              as_many,
              w.push_offsets.ensures.capacity,
              c.loop-range.offsets.ok,
              w.push_offsets.new.offsets.ok,
            ),
          )
      | else-row-context w ↦
          let other : (row_at rows k).meta.context == i ≡ false =
          not-eqb _ _ (λ is. w.if-row-context.false (ap (λ (r : ClusterRow). r.meta.context) row ∙ is)) in (
            subst (λ (n : ℕ). AreOffsets n c.args.firsts.now (map (placed_row rows) result.order.items) result.offsets.items)
                (sym w.entries-is)
                (subst (λ (l : List PublishedRow). AreOffsets c.loop-range.entries c.args.firsts.now
                (map (placed_row rows) l) result.offsets.items) (sym (ap (λ v. v.items) w.order-is))
                (subst (λ (os : List ℕ). AreOffsets c.loop-range.entries c.args.firsts.now
                (map (placed_row rows) c.loop-range.order.items) os) (sym (ap (λ v. v.items) w.offsets-is)) c.loop-range.invariant.0)),
            ap (λ v. order_numbers v.items) w.order-is
                ∙ (c.loop-range.invariant.1 ∙ ap (λ (l : List ℕ). order_numbers c.args.order.now.items ++ l)
                (sym (own-take k rows i inside
                ∙ (ap (λ (b : Bool). own_numbers 0 (take k rows) i ++ cond b (k ∷ []) []) other ∙ append-nil
                (own_numbers 0 (take k rows) i))))),
            omega (
              arith,
              c.loop-range.invariant.2,
              counts,
              ap (λ (b : Bool). cond {A = ℕ} b 1 0) other,
              ap (λ v. vec_len v) w.order-is,
              ap (λ v. vec_capacity v) w.order-is,
            ),
            omega (
              arith,
              c.loop-range.invariant.3,
              offsets,
              ap (λ (b : Bool). cond {A = ℕ} b columns 0) other,
              ap (λ v. vec_len v) w.offsets-is,
              ap (λ v. vec_capacity v) w.offsets-is,
            ),
          )
    ]
