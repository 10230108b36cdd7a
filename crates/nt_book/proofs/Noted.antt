-- What is kept of the page lists between the ranges when one is noted, fails, or is asked for.
use Rattle.std.proofs.Common.{◌≡◌, ap, refl, ℕ, ◌+◌, ◌≤◌, ◌^◌, true, List, [], ◌∷◌, ◌++◌, length, arith}
use Rattle.std.specs.Prelude.{Option, Some, None}
use Rattle.std.proofs.lemmas.Bool.{eqb-true}
use Rattle.std.proofs.lemmas.List.{length-map}
use Rattle.std.proofs.lemmas.List.Sums.{sum_by_push}
use Rattle.nt_machine.specs.History.{Cluster}
use Rattle.nt_machine.specs.Legal.{spans_of}
use Rattle.nt_machine.specs.Spans.{Span}
use Rattle.nt_book.specs.declared.limits.Limits.{Limits}
use Rattle.nt_book.specs.declared.meta.ClusterMeta.{ClusterMeta}
use Rattle.nt_book.specs.declared.list.NotedList.{NotedList}
use Rattle.nt_book.specs.declared.list.Tear.{Tear}
use Rattle.nt_book.specs.declared.row.ClusterRow.{ClusterRow}
use Rattle.nt_book.specs.Entries.{row_clusters}
use Rattle.nt_book.specs.Keeping.{IsCounted, KeepsLists}
use Rattle.nt_book.specs.Listing.{clusters_listed, is_due_after}
use Rattle.nt_book.proofs.Beside.{beside-list, clusters_listed-more, fewer-lists}
use Rattle.nt_book.proofs.Rows.{length-row_clusters}

-- the numbers beside the rows, with a later end
pub IsCounted-later : (begin end more out : ℕ) (limits : Limits) (firsts : List ℕ) (rows : List ClusterRow) → end ≤ more
    → more ≤ 2 ^ 56 → IsCounted begin end out limits firsts rows → IsCounted begin more out limits firsts rows
IsCounted-later begin end more out limits firsts rows le most h = record {
  summing = omega (arith, h.summing, le);
  behind = omega (arith, h.behind, le);
  most = most;
  counted = h.counted;
  few = h.few;
  bound = h.bound;
  each = h.each;
  low = h.low;
  columns = h.columns;
}

-- a list that is due is noted behind all that there is
pub KeepsLists-noted : (begin end spare : ℕ) (group : Option (ℕ × ℕ)) (lists : List NotedList) (torn : Option Tear) (listed room : ℕ)
    (rows : List ClusterRow) → KeepsLists begin end spare group lists torn listed room rows
    → is_due_after group lists torn (length rows) ≡ true → (l : NotedList) (space : ℕ)
    → KeepsLists begin (end + l.len) spare group (lists ++ l ∷ []) torn (length rows) space rows
KeepsLists-noted begin end spare None lists torn listed room rows h due l space = absurd (cc due)
KeepsLists-noted begin end spare (Some g) lists (Some t) listed room rows h due l space = absurd (cc due)
KeepsLists-noted begin end spare (Some g) lists None listed room rows h due l space =
    let full = eqb-true (length rows) (clusters_listed g.0 lists + g.0) due in
    let more = clusters_listed-more g.0 lists l in
    record {
      ends = omega (arith, h.ends, sum_by_push (λ (k : NotedList). k.len) lists l);
      placed = λ whole.
          beside-list begin g.0 lists (spans_of (row_clusters 0 rows)) l
          (omega (
            arith,
            full,
            length-row_clusters 0 rows,
            length-map {B = Span} (row_clusters 0 rows) (λ (c : Cluster ClusterMeta). record { start = c.start; len = c.len }),
          ))
          (h.placed refl);
      counted = omega (arith, full, more);
      inside = omega arith;
      sized = h.sized;
      few = λ whole. omega (arith, full, more);
      ungrouped = λ none. absurd (cc none);
      late = tt;
      for_list = λ some again.
          let next = eqb-true (length rows) (clusters_listed g.0 (lists ++ l ∷ []) + g.0) again in
          absurd (omega (arith, next, full, more, h.sized));
    }

-- a list that is due failed, and left so many bytes
pub KeepsLists-torn : (begin end spare : ℕ) (group : Option (ℕ × ℕ)) (lists : List NotedList) (torn : Option Tear) (listed room : ℕ)
    (rows : List ClusterRow) → KeepsLists begin end spare group lists torn listed room rows
    → is_due_after group lists torn (length rows) ≡ true → (t : Tear) (next : ℕ) → next ≡ end + t.len
    → KeepsLists begin next spare group lists (Some t) listed room rows
KeepsLists-torn begin end spare None lists torn listed room rows h due t next is = absurd (cc due)
KeepsLists-torn begin end spare (Some g) lists (Some u) listed room rows h due t next is = absurd (cc due)
KeepsLists-torn begin end spare (Some g) lists None listed room rows h due t next is =
    let full = eqb-true (length rows) (clusters_listed g.0 lists + g.0) due in
    record {
      ends = omega (arith, h.ends, is);
      placed = λ whole. absurd (cc whole);
      counted = h.counted;
      inside = h.inside;
      sized = h.sized;
      few = λ whole. absurd (cc whole);
      ungrouped = λ none. absurd (cc none);
      late = omega (arith, full, h.sized);
      for_list = λ some again. absurd (cc again);
    }

pub no-items : {X : Type 0} (xs : List X) → length xs ≡ 0 → xs ≡ []
no-items [] none = refl
no-items (x ∷ xs) none = absurd (omega (arith, none))

no-lists : (most : ℕ) (lists : List NotedList) → 1 ≤ most → clusters_listed most lists ≤ 0 → lists ≡ []
no-lists most [] some none = refl
no-lists most (l ∷ ls) some none = absurd (omega (arith, some, none))

-- a book without clusters has neither list nor tear
pub none-yet : (begin end spare : ℕ) (group : Option (ℕ × ℕ)) (lists : List NotedList) (torn : Option Tear) (listed room : ℕ)
    → KeepsLists begin end spare group lists torn listed room [] → (lists ≡ []) × (torn ≡ None)
none-yet begin end spare group lists (Some t) listed room h = absurd (omega (arith, h.late))
none-yet begin end spare None lists None listed room h = (((h.ungrouped refl).none_noted), refl)
none-yet begin end spare (Some g) lists None listed room h =
    (no-lists g.0 lists (omega (arith, h.sized)) (omega (arith, h.counted, h.inside)), refl)

-- its groups are asked for
pub KeepsLists-grouped : (begin end spare : ℕ) (group : Option (ℕ × ℕ)) (listed room : ℕ) (g : ℕ × ℕ)
    → KeepsLists begin end spare group [] None listed room [] → 1 ≤ g.0
    → KeepsLists begin end spare (Some g) [] None 0 room []
KeepsLists-grouped begin end spare group listed room g h some = record {
  ends = h.ends;
  placed = λ whole. tt;
  counted = refl;
  inside = omega arith;
  sized = omega (arith, some);
  few = λ whole. omega arith;
  ungrouped = λ none. absurd (cc none);
  late = tt;
  for_list = λ one due. absurd (omega (arith, some, eqb-true 0 (0 + g.0) due));
}

-- there are no more lists than clusters
pub lists-few : (begin end spare : ℕ) (group : Option (ℕ × ℕ)) (lists : List NotedList) (torn : Option Tear) (listed room : ℕ)
    (rows : List ClusterRow) → KeepsLists begin end spare group lists torn listed room rows → length lists ≤ length rows
lists-few begin end spare None lists torn listed room rows h = omega (arith, ap length (h.ungrouped refl).none_noted)
lists-few begin end spare (Some g) lists torn listed room rows h =
    omega (arith, fewer-lists g.0 lists (omega (arith, h.sized)), h.counted, h.inside)
