-- Files whose page lists stand behind all ranges.
use Rattle.std.proofs.Common.{◌≡◌, ℕ, zero, suc, ◌+◌, Bool, true, List, [], ◌∷◌, ◌++◌, map, length, sum, refl, sym, ap, subst, ◌∙◌}
use Rattle.std.proofs.Common.{append_assoc, arith}
use Rattle.std.proofs.lemmas.Bool.{false≢true}
use Rattle.std.specs.Prelude.{slice_index_or}
use Rattle.std.specs.List.{concat, fold}
use Rattle.std.proofs.lemmas.List.{length-append, length-map}
use Rattle.std.proofs.lemmas.List.Sums.{sum-map}
use Rattle.nt_lists.specs.Parts.{Part, AreBehind, part_bytes}
use Rattle.nt_format.proofs.Pieces.{length-concat}
use Rattle.nt_types.specs.TreeData.{TreesData}
use Rattle.nt_grammar.specs.declared.rows.ColumnRow.{ColumnRow}
use Rattle.nt_grammar.specs.Table.{Table}
use Rattle.nt_machine.specs.declared.entry.Entry.{Entry}
use Rattle.nt_machine.specs.History.{Cluster, ranges_of, after_entry}
use Rattle.nt_machine.specs.Legal.{IsLegalAfter, spans_of, end_after}
use Rattle.nt_machine.specs.Spans.{AreBehindSpans}
use Rattle.nt_machine.proofs.Legality.{IsNumbered, IsNumbered-after_entry}
use Rattle.nt_book.specs.declared.meta.ClusterMeta.{ClusterMeta}
use Rattle.nt_book.specs.Books.{BookData, IsUngrouped, book_ranges, book_clusters}
use Rattle.nt_book.specs.Kept.{IsBookKept}
use Rattle.nt_book.proofs.Ungrouped.{placed-ungrouped}
use Rattle.nt_layout.specs.Headers.{header_sum, clusters_place}
use Rattle.nt_pagelists.specs.Objects.{ClusterSpan, list_object, list_len}
use Rattle.nt_layout.specs.Groups.{list_parts, places_behind}
use Rattle.nt_layout.specs.Finished.{spans, list_places, range_parts, middle, finished}
use Rattle.nt_layout.specs.Laid.{AreBlobsOf, Measures, IsWithin, IsBookOf, RangesAreClusters, IsLaid, range_of}
use Rattle.nt_finished.specs.Ranged.{IsRangedBook}
use Rattle.nt_finished.proofs.Standing.{length-blob}
use Rattle.nt_finished.proofs.Arranged.{parts_len}
use Rattle.nt_layout.proofs.Middles.{concat-range_parts}

-- ---- all parts lie in order

pub behind-append : (place : ℕ) (ps qs : List Part) → AreBehind place ps → AreBehind (place + parts_len ps) qs → AreBehind place (ps ++ qs)
behind-append place [] qs h more = let same : place + 0 ≡ place = omega arith in subst (λ (n : ℕ). AreBehind n qs) same more
behind-append place (p ∷ ps) qs h more =
    let same : place + parts_len (p ∷ ps) ≡ place + length p.bytes + parts_len ps =
    omega (arith, length-append p.bytes (concat (part_bytes ps))) in
    (h.0, behind-append (place + length p.bytes) ps qs h.1 (subst (λ (n : ℕ). AreBehind n qs) same more))

behind-lists : (sum : ℕ) (book : BookData) (place : ℕ) (ss : List ClusterSpan)
    → AreBehind place (list_parts sum book (places_behind sum book place ss))
behind-lists sum book place [] = tt
behind-lists sum book place (s ∷ ss) = (
  refl,
  subst (λ (n : ℕ). AreBehind (place + n) (list_parts sum book (places_behind sum book (place + list_len sum book s) ss)))
      (sym (length-blob place (list_object sum book s))) (behind-lists sum book (place + list_len sum book s) ss),
)

pub behind-ranges : (place : ℕ) (cs : List (Cluster ClusterMeta)) (ranges : List (List ℕ)) → AreBehindSpans place (spans_of cs)
    → map length ranges ≡ map (λ (c : Cluster ClusterMeta). c.len) cs → AreBehind place (range_parts cs ranges)
behind-ranges place [] ranges h lens = tt
behind-ranges place (c ∷ cs) [] h lens = tt
behind-ranges place (c ∷ cs) (r ∷ ranges) h lens =
    let here : c.len ≡ length r = cc in
    let rest : map length ranges ≡ map (λ (d : Cluster ClusterMeta). d.len) cs = cc in
    (h.0, subst (λ (n : ℕ). AreBehind (place + n) (range_parts cs ranges)) here (behind-ranges (place + c.len) cs ranges h.1 rest))

pub all_behind : (t : Table) (most : ℕ) (book : BookData) (ranges : List (List ℕ)) → IsBookKept book → IsUngrouped book
    → book.begin ≡ clusters_place t
    → map length ranges ≡ map (λ (c : Cluster ClusterMeta). c.len) (ranges_of book.history)
    → AreBehind (clusters_place t) (middle true t book most ranges)
all_behind t most book ranges kept bare begin lens =
    let cs = ranges_of book.history in
    let same : length ranges ≡ length cs =
    sym (length-map ranges length) ∙ (ap length lens ∙ length-map cs (λ (c : Cluster ClusterMeta). c.len)) in
    let end : end_after book.begin cs ≡ clusters_place t + parts_len (range_parts cs ranges) =
    omega (
      arith,
      begin,
      ap length (concat-range_parts cs ranges same),
      length-concat ranges,
      ap sum lens,
      sum-map (λ (c : Cluster ClusterMeta). c.len) cs,
    ) in
    behind-append (clusters_place t) (range_parts cs ranges) (list_parts (header_sum t) book (list_places true t book most))
    (behind-ranges (clusters_place t) cs ranges
    (subst (λ (n : ℕ). AreBehindSpans n (spans_of cs)) begin (placed-ungrouped book kept bare)) lens)
    (subst (λ (n : ℕ). AreBehind n (list_parts (header_sum t) book (list_places true t book most))) end
    (behind-lists (header_sum t) book (end_after book.begin cs) (spans book most)))

-- ---- the ranges of clusters by their numbers

numbered : (place : ℕ) (cs : List (Cluster ClusterMeta)) (history : List (Entry ClusterMeta)) → IsLegalAfter place cs history
    → IsNumbered 0 cs → IsNumbered 0 (fold after_entry cs history)
numbered place cs [] ok h = h
numbered place cs (e ∷ es) ok h = numbered place (after_entry cs e) es ok.1 (IsNumbered-after_entry place cs e.context e.kind ok.0 h)

index-last : (xs ys : List (List ℕ)) (x : List ℕ) (m : ℕ) → length xs ≡ m → slice_index_or (xs ++ x ∷ ys) m [] ≡ x
index-last [] ys x zero is = refl
index-last [] ys x (suc m) is = absurd (omega (arith, is))
index-last (y ∷ xs) ys x zero is = absurd (omega (arith, is))
index-last (y ∷ xs) ys x (suc m) is = index-last xs ys x m (omega (arith, is))

ranges-of-numbers : (before : List (List ℕ)) (n : ℕ) (cs : List (Cluster ClusterMeta)) (ranges : List (List ℕ)) → length before ≡ n
    → IsNumbered n cs → length ranges ≡ length cs → map (range_of (before ++ ranges)) cs ≡ ranges
ranges-of-numbers before n [] [] is h same = refl
ranges-of-numbers before n [] (r ∷ ranges) is h same = absurd (omega (arith, same))
ranges-of-numbers before n (c ∷ cs) [] is h same = absurd (omega (arith, same))
ranges-of-numbers before n (c ∷ cs) (r ∷ ranges) is h same =
    ap (λ (x : List ℕ). x ∷ map (range_of (before ++ r ∷ ranges)) cs) (index-last before ranges r c.number (is ∙ sym h.0))
    ∙ ap (λ (l : List (List ℕ)). r ∷ l)
    (ap (λ (l : List (List ℕ)). map (range_of l) cs) (sym (append_assoc before (r ∷ []) ranges))
    ∙ ranges-of-numbers (before ++ r ∷ []) (suc n) cs ranges (omega (arith, is, length-append before (r ∷ []))) h.1 (omega (arith, same)))

pub ranges-by_number : (book : BookData) (ranges : List (List ℕ)) → IsBookKept book
    → map length ranges ≡ map (λ (c : Cluster ClusterMeta). c.len) (ranges_of book.history)
    → map (range_of ranges) (book_ranges book) ≡ ranges
ranges-by_number book ranges kept lens =
    let cs = ranges_of book.history in
    let same : length ranges ≡ length cs =
    sym (length-map ranges length) ∙ (ap length lens ∙ length-map cs (λ (c : Cluster ClusterMeta). c.len)) in
    ranges-of-numbers [] 0 cs ranges refl (numbered book.begin [] book.history kept.legal tt) same

-- ---- what is laid out

pub staged_ranged : (t : Table) (most : ℕ) (book : BookData) (ranges : List (List ℕ)) → IsBookKept book → IsUngrouped book
    → book.begin ≡ clusters_place t
    → map (λ (c : ColumnRow). c.first) t.columns ≡ book.firsts
    → map length ranges ≡ map (λ (c : Cluster ClusterMeta). c.len) (ranges_of book.history)
    → IsRangedBook true t most book ranges
staged_ranged t most book ranges kept bare begin firsts lens = record {
  kept = kept;
  begin = begin;
  firsts = firsts;
  lens = lens;
  behind = all_behind t most book ranges kept bare begin lens;
}

pub all-clusters : (staged : Bool) (book : BookData) → staged ≡ true → length (book_clusters book) ≡ length (book_ranges book)
    → RangesAreClusters staged book
all-clusters staged book is same = record { all = same; in_order = λ not. absurd (false≢true (sym not ∙ is)) }

pub laid-staged : (file : List ℕ) (t : Table) (clusters : List (List TreesData)) (m : Measures) (ranges : List (List ℕ)) (book : BookData)
    → m.staged ≡ true → IsBookOf t book → IsUngrouped book → IsWithin t m book
    → length (book_clusters book) ≡ length (book_ranges book)
    → map length ranges ≡ map (λ (c : Cluster ClusterMeta). c.len) (ranges_of book.history)
    → AreBlobsOf t m.page clusters (map (range_of ranges) (book_clusters book)) (book_clusters book)
    → file ≡ finished m.staged t book m.group ranges → IsLaid file t clusters m
laid-staged file t clusters m ranges book staged of bare within same lens are is = record {
  book = book;
  is_of = of;
  within = within;
  whole = all-clusters m.staged book staged same;
  ranges = ranges;
  lens = lens;
  blobs_are = are;
  behind = subst (λ (b : _). AreBehind (clusters_place t) (middle b t book m.group ranges)) (sym staged)
      (all_behind t m.group book ranges of.kept bare of.begin lens);
  is = is;
}
