-- Finished files to which fields were added, with all page lists behind the ranges, or beside their clusters.
use Rattle.std.proofs.Common.{◌≡◌, ℕ, true, false, List, map, length, sym, ap, subst, ◌∙◌}
use Rattle.nt_types.specs.TreeData.{TreesData}
use Rattle.nt_grammar.specs.declared.rows.ColumnRow.{ColumnRow}
use Rattle.nt_grammar.specs.Table.{Table}
use Rattle.nt_lists.specs.Parts.{AreBehind}
use Rattle.nt_machine.specs.History.{Cluster, ranges_of}
use Rattle.nt_book.specs.declared.meta.ClusterMeta.{ClusterMeta}
use Rattle.nt_book.specs.Books.{BookData, IsUngrouped, book_ranges, book_clusters}
use Rattle.nt_book.specs.Kept.{IsBookKept}
use Rattle.nt_layout.specs.Headers.{clusters_place}
use Rattle.nt_layout.specs.Finished.{middle, finished}
use Rattle.nt_layout.specs.Beside.{HasListsBeside}
use Rattle.nt_layout.specs.Laid.{Measures, IsWithin, range_of}
use Rattle.nt_finished.proofs.Lengths.{clusters_told}
use Rattle.nt_finished.proofs.Staged.{all_behind, all-clusters}
use Rattle.nt_finished.proofs.Beside.{all_beside, ranges-beside, by-number_beside, clusters-beside}
use Rattle.nt_finished.specs.LateFiles.{AreLateBlobs, IsLaidLate}
use Rattle.nt_finished.proofs.LaidLate.{lens-late}

pub late-behind : (file : List ℕ) (t : Table) (clusters : List (List TreesData)) (m : Measures) (ranges : List (List ℕ)) (book : BookData)
    → m.staged ≡ true → IsBookKept book → IsUngrouped book → length (book_clusters book) ≡ length (book_ranges book)
    → book.begin ≡ clusters_place t
    → map (λ (c : ColumnRow). c.first) t.columns ≡ book.firsts → IsWithin t m book
    → map length ranges ≡ map (λ (c : Cluster ClusterMeta). c.len) (ranges_of book.history)
    → AreLateBlobs t m.page 0 clusters (map (range_of ranges) (book_clusters book)) (book_clusters book)
    → file ≡ finished m.staged t book m.group ranges → IsLaidLate file t clusters m
late-behind file t clusters m ranges book staged kept bare same begin firsts within lens late is = record {
  book = book;
  kept = kept;
  begin = begin;
  firsts = firsts;
  within = within;
  whole = all-clusters m.staged book staged same;
  ranges = ranges;
  lens = lens;
  blobs_are = late;
  behind = subst (λ (b : _). AreBehind (clusters_place t) (middle b t book m.group ranges)) (sym staged)
      (all_behind t m.group book ranges kept bare begin lens);
  is = is;
}

pub late-beside : (file : List ℕ) (t : Table) (clusters : List (List TreesData)) (m : Measures) (ranges : List (List ℕ)) (book : BookData)
    → m.staged ≡ false → IsBookKept book → HasListsBeside t m.group book → book.begin ≡ clusters_place t
    → map (λ (c : ColumnRow). c.first) t.columns ≡ book.firsts → IsWithin t m book
    → AreLateBlobs t m.page 0 clusters ranges (book_clusters book)
    → file ≡ finished m.staged t book m.group ranges → IsLaidLate file t clusters m
late-beside file t clusters m ranges book staged kept beside begin firsts within late is =
    let all = ranges-beside t m.group book kept beside in
    let lens = lens-late t m.page 0 clusters ranges (book_clusters book) late (clusters_told book kept)
    ∙ ap (λ (cs : List (Cluster ClusterMeta)). map (λ (c : Cluster ClusterMeta). c.len) cs) all in
    record {
      book = book;
      kept = kept;
      begin = begin;
      firsts = firsts;
      within = within;
      whole = clusters-beside m.staged t m.group book kept beside;
      ranges = ranges;
      lens = lens;
      blobs_are = subst (λ (l : List (List ℕ)). AreLateBlobs t m.page 0 clusters l (book_clusters book))
          (sym (by-number_beside t m.group book kept beside ranges lens)) late;
      behind = subst (λ (b : _). AreBehind (clusters_place t) (middle b t book m.group ranges)) (sym staged)
          (all_beside t m.group book kept beside ranges begin lens);
      is = is;
    }
