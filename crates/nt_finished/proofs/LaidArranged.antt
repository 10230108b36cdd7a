-- Files whose page lists stand where their book has them: behind all ranges, or beside their clusters.
use Rattle.std.proofs.Common.{◌≡◌, ◌∙◌, ap, refl, subst, ℕ, Bool, true, false, List, ◌++◌, map, length}
use Rattle.std.specs.List.{concat}
use Rattle.std.proofs.lemmas.List.{map-append}
use Rattle.nt_lists.specs.Parts.{Part, part_bytes}
use Rattle.nt_format.proofs.Pieces.{concat-append}
use Rattle.nt_types.specs.TreeData.{TreesData}
use Rattle.nt_grammar.specs.declared.rows.ColumnRow.{ColumnRow}
use Rattle.nt_grammar.specs.Table.{Table}
use Rattle.nt_machine.specs.History.{Cluster, ranges_of}
use Rattle.nt_book.specs.declared.meta.ClusterMeta.{ClusterMeta}
use Rattle.nt_book.specs.Books.{BookData, book_ranges, book_clusters}
use Rattle.nt_layout.specs.Headers.{header_sum}
use Rattle.nt_layout.specs.Groups.{list_parts}
use Rattle.nt_layout.specs.Finished.{list_places, list_blobs, range_parts, middle, finished}
use Rattle.nt_layout.specs.Beside.{HasListsBeside}
use Rattle.nt_layout.specs.Arranged.{HasLists, lists_after, parts_filled}
use Rattle.nt_layout.specs.Laid.{AreBlobsOf, Measures, IsWithin, IsBookOf, IsLaid, range_of}
use Rattle.nt_finished.specs.Filled.{IsArrangedBook}
use Rattle.nt_finished.specs.Ranged.{IsRangedBook}
use Rattle.nt_finished.proofs.Staged.{staged_ranged, laid-staged}
use Rattle.nt_finished.proofs.Beside.{beside_ranged, by-number_beside, laid-beside, middle_beside}

pub arranged_ranged : (staged : Bool) (t : Table) (most : ℕ) (book : BookData) (ranges : List (List ℕ))
    → IsArrangedBook staged t most book ranges → map (λ (c : ColumnRow). c.first) t.columns ≡ book.firsts
    → IsRangedBook staged t most book ranges
arranged_ranged true t most book ranges of firsts = staged_ranged t most book ranges of.kept of.lists.1 of.begin firsts of.lens
arranged_ranged false t most book ranges of firsts = beside_ranged t most book ranges of.kept of.lists of.begin firsts of.lens

pub laid-arranged : (file : List ℕ) (t : Table) (clusters : List (List TreesData)) (m : Measures) (ranges : List (List ℕ)) (book : BookData)
    → IsBookOf t book → HasLists m.staged t m.group book → IsWithin t m book
    → length (book_clusters book) ≡ length (book_ranges book)
    → map length ranges ≡ map (λ (c : Cluster ClusterMeta). c.len) (ranges_of book.history)
    → AreBlobsOf t m.page clusters (map (range_of ranges) (book_clusters book)) (book_clusters book)
    → file ≡ finished m.staged t book m.group ranges → IsLaid file t clusters m
laid-arranged file t clusters m ranges book of lists within same lens are is = at m.staged refl
  where
    at : (b : Bool) → m.staged ≡ b → IsLaid file t clusters m
    at true staged =
        laid-staged file t clusters m ranges book staged of (subst (λ (b : Bool). HasLists b t m.group book) staged lists).1 within same
        lens are is
    at false staged =
        let beside : HasListsBeside t m.group book = subst (λ (b : Bool). HasLists b t m.group book) staged lists in
        laid-beside file t clusters m ranges book staged of beside within
        (subst (λ (l : List (List ℕ)). AreBlobsOf t m.page clusters l (book_clusters book))
        (by-number_beside t m.group book of.kept beside ranges lens) are) is

pub middle_arranged : (staged : Bool) (t : Table) (most : ℕ) (book : BookData) (ranges : List (List ℕ))
    → IsArrangedBook staged t most book ranges
    → concat (part_bytes (middle staged t book most ranges))
    ≡ concat (part_bytes (parts_filled staged t book most ranges)) ++ concat (list_blobs t book (lists_after staged t book most))
middle_arranged true t most book ranges of =
    let parts = range_parts (ranges_of book.history) ranges in
    let lists = list_parts (header_sum t) book (list_places true t book most) in
    ap (λ (l : List (List ℕ)). concat l) (map-append (λ (p : Part). p.bytes) parts lists)
    ∙ concat-append (part_bytes parts) (part_bytes lists)
middle_arranged false t most book ranges of = middle_beside t most book of.kept of.lists ranges of.lens
