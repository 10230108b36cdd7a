-- What each call keeps of the page lists between the ranges.
use Rattle.std.proofs.Common.{◌≡◌, ap, sym, refl, subst, ℕ, ◌+◌, ◌-◌, ◌<◌, ◌≤◌, Bool, true, false, List, [], ◌∷◌, ◌++◌, length, arith}
use Rattle.std.specs.Prelude.{Option, Some, None, IfSome}
use Rattle.std.specs.List.{sum_by}
use Rattle.std.proofs.lemmas.Bool.{eqb-false}
use Rattle.std.proofs.lemmas.List.{length-append, length-map}
use Rattle.std.proofs.lemmas.List.{map-append}
use Rattle.std.proofs.lemmas.List.Sums.{sum_by-cons}
use Rattle.nt_machine.specs.History.{Cluster}
use Rattle.nt_machine.specs.Legal.{spans_of}
use Rattle.nt_machine.specs.Spans.{Span}
use Rattle.nt_book.specs.declared.meta.ClusterMeta.{ClusterMeta}
use Rattle.nt_book.specs.declared.list.NotedList.{NotedList}
use Rattle.nt_book.specs.declared.list.Tear.{Tear}
use Rattle.nt_book.specs.declared.state.RangeState.{RangeState}
use Rattle.nt_book.specs.declared.row.ClusterRow.{ClusterRow}
use Rattle.nt_book.specs.Entries.{row_cluster, row_clusters}
use Rattle.nt_book.specs.declared.row.PublishedRow.{PublishedRow}
use Rattle.nt_book.specs.Keeping.{KeepsLists, listed_rows, with_state}
use Rattle.nt_book.specs.Listing.{AreBeside, AtMostOneUnlisted, clusters_listed, group_size, is_due_after, spans_len, torn_bytes}
use Rattle.nt_book.proofs.Beside.{beside-range}
use Rattle.nt_book.proofs.Fitting.{fewer}
use Rattle.nt_book.proofs.Counted.{map-with_state, sum-with_state}
use Rattle.nt_book.proofs.OneMore.{clusters-append, sum-clusters-append}
use Rattle.nt_book.proofs.Rows.{length-row_clusters, length-with_state}

-- the bytes of ranges are those of their clusters
spans_len-clusters : (cs : List (Cluster ClusterMeta)) → spans_len (spans_of cs) ≡ sum_by (λ (c : Cluster ClusterMeta). c.len) cs
spans_len-clusters [] = refl
spans_len-clusters (c ∷ cs) =
    omega (
      arith,
      spans_len-clusters cs,
      sum_by-cons (λ (s : Span). s.len) (record { start = c.start; len = c.len }) (spans_of cs),
      sum_by-cons (λ (d : Cluster ClusterMeta). d.len) c cs,
    )

late-more : (torn : Option Tear) (n : ℕ) → IfSome torn (λ t. 0 < n + 1)
late-more None n = tt
late-more (Some t) n = omega arith

-- a group that isn't due its list has room for one cluster more
not-full : (group : Option (ℕ × ℕ)) (lists : List NotedList) (n : ℕ) → is_due_after group lists None n ≡ false
    → AtMostOneUnlisted group lists n → AtMostOneUnlisted group lists (n + 1)
not-full None lists n not_due few = tt
not-full (Some g) lists n not_due few =
    omega (arith, fewer n (clusters_listed g.0 lists + g.0) few (eqb-false n (clusters_listed g.0 lists + g.0) not_due))

module _ (begin end spare : ℕ) (group : Option (ℕ × ℕ)) (lists : List NotedList) (torn : Option Tear) (listed room : ℕ)
    (rows : List ClusterRow) (h : KeepsLists begin end spare group lists torn listed room rows) where
  -- a row more, of a range that starts at the end
  pub KeepsLists-append : (row : ClusterRow) → row.start ≡ end → spare ≤ 1 → is_due_after group lists torn (length rows) ≡ false
      → KeepsLists begin (end + row.meta.len) (spare - 1) group lists torn listed room (rows ++ row ∷ [])
  KeepsLists-append row start one not_due =
      let one_more = length-append rows (row ∷ []) in
      record {
        ends = omega (arith, h.ends, sum-clusters-append rows row (λ (c : Cluster ClusterMeta). c.len));
        placed = λ whole.
            subst (λ (l : List (Cluster ClusterMeta)). AreBeside begin (group_size group) lists (spans_of l))
            (sym (clusters-append rows row))
            (subst (AreBeside begin (group_size group) lists)
            (sym (map-append (λ (c : Cluster ClusterMeta). record { start = c.start; len = c.len }) (row_clusters 0 rows)
            (row_cluster (length rows) row ∷ [])))
            (beside-range begin (group_size group) lists (spans_of (row_clusters 0 rows))
            (record { start = row.start; len = row.meta.len })
            (omega (
              arith,
              h.counted,
              h.inside,
              length-row_clusters 0 rows,
              length-map {B = Span} (row_clusters 0 rows) (λ (c : Cluster ClusterMeta). record { start = c.start; len = c.len }),
            ))
            (h.placed whole)
            (omega (arith, start, h.ends, spans_len-clusters (row_clusters 0 rows), ap torn_bytes whole))));
        counted = h.counted;
        inside = omega (arith, h.inside, one_more);
        sized = h.sized;
        few = λ whole.
            subst (AtMostOneUnlisted group lists) (sym one_more)
            (not-full group lists (length rows)
            (subst (λ (t : Option Tear). is_due_after group lists t (length rows) ≡ false) whole not_due) (h.few whole));
        ungrouped = h.ungrouped;
        late = subst (λ (n : ℕ). IfSome torn (λ t. 0 < n)) (sym one_more) (late-more torn (length rows));
        for_list = λ some due. absurd (omega (arith, some, one));
      }

  -- the state of a row is no matter
  pub KeepsLists-with_state : (n : ℕ) (s : RangeState) → KeepsLists begin end spare group lists torn listed room (with_state rows n s)
  KeepsLists-with_state n s =
      let same = length-with_state rows n s in
      record {
        ends = omega (arith, h.ends, sum-with_state (λ (c : Cluster ClusterMeta). c.len) (λ m row t. refl) rows n s);
        placed = λ whole.
            subst (AreBeside begin (group_size group) lists)
            (sym (map-with_state (λ (c : Cluster ClusterMeta). record { start = c.start; len = c.len }) (λ m row t. refl) 0 rows n s))
            (h.placed whole);
        counted = h.counted;
        inside = omega (arith, h.inside, same);
        sized = h.sized;
        few = λ whole. subst (AtMostOneUnlisted group lists) (sym same) (h.few whole);
        ungrouped = h.ungrouped;
        late = subst (λ (n : ℕ). IfSome torn (λ t. 0 < n)) (sym same) h.late;
        for_list = λ some due.
            h.for_list some (subst (λ (k : ℕ). is_due_after group lists torn k ≡ true) same due);
      }

  -- room for a list that is due
  pub KeepsLists-roomy : (some space : ℕ) → (is_due_after group lists torn (length rows) ≡ true → length lists < space)
      → KeepsLists begin end some group lists torn listed space rows
  KeepsLists-roomy some space enough = record {
    ends = h.ends;
    placed = h.placed;
    counted = h.counted;
    inside = h.inside;
    sized = h.sized;
    few = h.few;
    ungrouped = h.ungrouped;
    late = h.late;
    for_list = λ one due. enough due;
  }

  -- less room for clusters needs no more room for lists
  pub KeepsLists-spends : (less : ℕ) → less ≤ spare → KeepsLists begin end less group lists torn listed room rows
  KeepsLists-spends less le = record {
    ends = h.ends;
    placed = h.placed;
    counted = h.counted;
    inside = h.inside;
    sized = h.sized;
    few = h.few;
    ungrouped = h.ungrouped;
    late = h.late;
    for_list = λ some due. h.for_list (omega (arith, some, le)) due;
  }

  -- in a staged book there are none, however few clusters it has
  module _ (staged : Bool) (order : List PublishedRow) (none : staged ≡ true → group ≡ None) where
    pub listed-staged : clusters_listed (group_size group) lists ≤ length (listed_rows staged order rows)
    listed-staged = at staged none
      where
        at : (b : Bool) → (b ≡ true → group ≡ None) → clusters_listed (group_size group) lists ≤ length (listed_rows b order rows)
        at false ungrouped = omega (arith, h.counted, h.inside)
        at true ungrouped =
            omega (arith, ap (λ (ls : List NotedList). clusters_listed (group_size group) ls) (h.ungrouped (ungrouped refl)).none_noted)

    pub few-staged : torn ≡ None → AtMostOneUnlisted group lists (length (listed_rows staged order rows))
    few-staged whole = at staged none
      where
        at : (b : Bool) → (b ≡ true → group ≡ None) → AtMostOneUnlisted group lists (length (listed_rows b order rows))
        at false ungrouped = h.few whole
        at true ungrouped = subst (λ (g : Option (ℕ × ℕ)). AtMostOneUnlisted g lists (length (listed_rows true order rows)))
            (sym (ungrouped refl)) tt
