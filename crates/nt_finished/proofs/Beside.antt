-- Files whose page lists stand beside their clusters.
use Rattle.std.proofs.Common.{◌≡◌, ℕ, Bool, ◌+◌, ◌<◌, ◌≤◌, false, List, ◌++◌, map, length}
use Rattle.std.proofs.Common.{sym, ap, subst, ◌∙◌, arith, Option}
use Rattle.std.specs.Prelude.{IfSome}
use Rattle.std.specs.List.{concat, range_with_len}
use Rattle.std.specs.Int.{div_ceil}
use Rattle.std.proofs.lemmas.List.{length-map, map-append}
use Rattle.nt_lists.specs.Parts.{Part, AreBehind, part_bytes}
use Rattle.nt_format.proofs.Pieces.{concat-append}
use Rattle.nt_types.specs.TreeData.{TreesData}
use Rattle.nt_grammar.specs.declared.rows.ColumnRow.{ColumnRow}
use Rattle.nt_grammar.specs.Table.{Table}
use Rattle.nt_machine.specs.History.{Cluster, ranges_of}
use Rattle.nt_machine.specs.Legal.{spans_of}
use Rattle.nt_book.specs.declared.meta.ClusterMeta.{ClusterMeta}
use Rattle.nt_book.specs.Books.{BookData, book_clusters}
use Rattle.nt_book.specs.Kept.{IsBookKept}
use Rattle.nt_book.specs.Listing.{AreBeside, AtMostOneUnlisted, clusters_listed, group_size}
use Rattle.nt_pagelists.specs.Objects.{list_len}
use Rattle.nt_pagelists.proofs.Named.{clusters-unstaged, grouped-unstaged}
use Rattle.nt_layout.specs.Headers.{header_sum, clusters_place}
use Rattle.nt_layout.specs.Groups.{list_parts}
use Rattle.nt_layout.specs.Finished.{spans, range_parts, middle, finished}
use Rattle.nt_layout.specs.Beside.{HasListsBeside, full_span, lists_left, parts_so_far}
use Rattle.nt_layout.specs.Laid.{AreBlobsOf, Measures, IsWithin, IsBookOf, RangesAreClusters, IsLaid, range_of}
use Rattle.nt_finished.specs.Ranged.{IsRangedBook}
use Rattle.nt_finished.proofs.Lengths.{clusters_told, ranges-len}
use Rattle.nt_finished.proofs.Spans.{spans_in_order}
use Rattle.nt_finished.proofs.Staged.{ranges-by_number}
use Rattle.nt_finished.proofs.RangeParts.{length-range_parts}
use Rattle.nt_finished.proofs.BesideLists.{AreNotedOf, beside-from, left-behind, noted-of, spans-large}

module _ (t : Table) (most : ℕ) (book : BookData) (kept : IsBookKept book) (beside : HasListsBeside t most book) where
  pub some-beside : 0 < most
  some-beside = subst (λ (g : Option (ℕ × ℕ)). IfSome g (λ (x : ℕ × ℕ). 0 < x.0)) beside.group kept.sized

  -- so no cluster is staged
  pub ranges-beside : book_clusters book ≡ ranges_of book.history
  ranges-beside = clusters-unstaged book (grouped-unstaged book (most, header_sum t) kept beside.group)

  pub by-number_beside : (ranges : List (List ℕ)) → map length ranges ≡ map (λ (c : Cluster ClusterMeta). c.len) (ranges_of book.history)
      → map (range_of ranges) (book_clusters book) ≡ ranges
  by-number_beside ranges lens =
      ap (λ (cs : List (Cluster ClusterMeta)). map (range_of ranges) cs) ranges-beside ∙ ranges-by_number book ranges kept lens

  pub listed-beside : clusters_listed most book.lists ≤ length (book_clusters book)
  listed-beside =
      subst (λ (g : Option (ℕ × ℕ)). clusters_listed (group_size g) book.lists ≤ length (book_clusters book)) beside.group kept.listed

  few-beside : length (book_clusters book) ≤ clusters_listed most book.lists + most
  few-beside =
      subst (λ (g : Option (ℕ × ℕ)). AtMostOneUnlisted g book.lists (length (book_clusters book))) beside.group
      (kept.few_lists beside.untorn)

  -- so many lists are noted, of that many groups
  pub noted-beside : AreNotedOf (header_sum t) book book.lists (spans book most)
  noted-beside =
      noted-of (header_sum t) book most some-beside (length (book_clusters book)) 0 (div_ceil (length (book_clusters book)) most) book.lists
      (λ k less. beside.noted k less ∙ ap (λ (j : ℕ). list_len (header_sum t) book (full_span most j)) (omega arith))
      (omega (arith, listed-beside))

  pub all_beside : (ranges : List (List ℕ)) → book.begin ≡ clusters_place t
      → map length ranges ≡ map (λ (c : Cluster ClusterMeta). c.len) (ranges_of book.history)
      → AreBehind (clusters_place t) (middle false t book most ranges)
  all_beside ranges begin lens =
      let cs = ranges_of book.history in
      let n = length (book_clusters book) in
      let same : length ranges ≡ length cs =
      sym (length-map ranges length) ∙ (ap length lens ∙ length-map cs (λ (c : Cluster ClusterMeta). c.len)) in
      let placed : AreBeside (clusters_place t) most book.lists (spans_of cs) =
      subst (λ (i : ℕ). AreBeside i most book.lists (spans_of cs)) begin
      (subst (λ (g : Option (ℕ × ℕ)). AreBeside book.begin (group_size g) book.lists (spans_of cs)) beside.group
      (kept.placed beside.untorn)) in
      beside-from (header_sum t) book most some-beside (spans book most) 0 (clusters_place t) cs ranges book.lists
      (spans_in_order most n some-beside) (spans-large most n (range_with_len 0 (div_ceil n most))) (sym ranges-beside)
      (omega (arith, ap length ranges-beside)) lens same placed
      (omega (arith, listed-beside)) (omega (arith, few-beside)) noted-beside

  -- the lists that are left stand behind all that stands already
  pub middle-parts : (ranges : List (List ℕ))
      → map length ranges ≡ map (λ (c : Cluster ClusterMeta). c.len) (ranges_of book.history)
      → middle false t book most ranges
      ≡ parts_so_far t book most ranges ++ list_parts (header_sum t) book (lists_left t book most)
  middle-parts ranges lens =
      let cs = ranges_of book.history in
      let n = length (book_clusters book) in
      let same : length ranges ≡ length cs =
      sym (length-map ranges length) ∙ (ap length lens ∙ length-map cs (λ (c : Cluster ClusterMeta). c.len)) in
      left-behind (header_sum t) book most some-beside (spans book most) 0 (range_parts cs ranges) book.lists
      (spans_in_order most n some-beside) (spans-large most n (range_with_len 0 (div_ceil n most)))
      (omega (arith, length-range_parts cs ranges same, ap length ranges-beside)) (omega (arith, listed-beside)) (omega (arith, few-beside))

  pub middle_beside : (ranges : List (List ℕ))
      → map length ranges ≡ map (λ (c : Cluster ClusterMeta). c.len) (ranges_of book.history)
      → concat (part_bytes (middle false t book most ranges))
      ≡ concat (part_bytes (parts_so_far t book most ranges))
      ++ concat (part_bytes (list_parts (header_sum t) book (lists_left t book most)))
  middle_beside ranges lens =
      let left = list_parts (header_sum t) book (lists_left t book most) in
      ap (λ (ps : List Part). concat (part_bytes ps)) (middle-parts ranges lens)
      ∙ (ap (λ (l : List (List ℕ)). concat l) (map-append (λ (p : Part). p.bytes) (parts_so_far t book most ranges) left)
      ∙ concat-append (part_bytes (parts_so_far t book most ranges)) (part_bytes left))

pub beside_ranged : (t : Table) (most : ℕ) (book : BookData) (ranges : List (List ℕ)) → IsBookKept book → HasListsBeside t most book
    → book.begin ≡ clusters_place t
    → map (λ (c : ColumnRow). c.first) t.columns ≡ book.firsts
    → map length ranges ≡ map (λ (c : Cluster ClusterMeta). c.len) (ranges_of book.history)
    → IsRangedBook false t most book ranges
beside_ranged t most book ranges kept beside begin firsts lens = record {
  kept = kept;
  begin = begin;
  firsts = firsts;
  lens = lens;
  behind = all_beside t most book kept beside ranges begin lens;
}

pub clusters-beside : (staged : Bool) (t : Table) (most : ℕ) (book : BookData) → IsBookKept book → HasListsBeside t most book
    → RangesAreClusters staged book
clusters-beside staged t most book kept beside =
    let all = ranges-beside t most book kept beside in
    record { all = ap (λ (cs : List (Cluster ClusterMeta)). length cs) all; in_order = λ is. all }

pub laid-beside : (file : List ℕ) (t : Table) (clusters : List (List TreesData)) (m : Measures) (ranges : List (List ℕ)) (book : BookData)
    → m.staged ≡ false → IsBookOf t book → HasListsBeside t m.group book → IsWithin t m book
    → AreBlobsOf t m.page clusters ranges (book_clusters book)
    → file ≡ finished m.staged t book m.group ranges → IsLaid file t clusters m
laid-beside file t clusters m ranges book staged of beside within are is =
    let all = ranges-beside t m.group book of.kept beside in
    let lens = ranges-len t m.page clusters ranges (book_clusters book) are (clusters_told book of.kept)
    ∙ ap (λ (cs : List (Cluster ClusterMeta)). map (λ (c : Cluster ClusterMeta). c.len) cs) all in
    record {
      book = book;
      is_of = of;
      within = within;
      whole = clusters-beside m.staged t m.group book of.kept beside;
      ranges = ranges;
      lens = lens;
      blobs_are =
          subst (λ (l : List (List ℕ)). AreBlobsOf t m.page clusters l (book_clusters book))
          (sym (by-number_beside t m.group book of.kept beside ranges lens)) are;
      behind = subst (λ (b : _). AreBehind (clusters_place t) (middle b t book m.group ranges)) (sym staged)
          (all_beside t m.group book of.kept beside ranges of.begin lens);
      is = is;
    }
