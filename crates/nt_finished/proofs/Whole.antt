-- A finished file means its schema and the entries of its clusters.
use Rattle.std.proofs.Common.{◌≡◌, ℕ, ◌+◌, List, map, length, Ok, refl, sym, ap, ◌∙◌, subst, arith}
use Rattle.nt_types.specs.TreeData.{TreesData}
use Rattle.nt_grammar.specs.Table.{Table}
use Rattle.nt_grammar.specs.ReadingBack.{IsDescribed}
use Rattle.nt_book.specs.Books.{book_clusters, cluster_at}
use Rattle.nt_pagelists.specs.declared.cluster.ClusterList.{ClusterList}
use Rattle.nt_file_meaning.specs.Outlines.{outline_of}
use Rattle.nt_file_meaning.specs.Files.{entries_from, read_file, Means}
use Rattle.nt_layout.specs.Finished.{finished}
use Rattle.nt_layout.specs.Laid.{Measures, AreMeasures, IsLaid, range_of}
use Rattle.nt_finished.proofs.Headers.{ranges-stand}
use Rattle.nt_finished.proofs.Clusters.{HaveNeeds, entries_read}
use Rattle.nt_finished.proofs.Outlines.{laid-ranged, outlined}

file-chain : (file : List ℕ) (t : Table) (lists : List ClusterList) (clusters : List (List TreesData))
    → outline_of file ≡ Ok (record { table = t; clusters = lists })
    → entries_from file t 0 lists ≡ Ok clusters → read_file file ≡ Ok (t, clusters)
unfolding read_file
file-chain file t lists clusters p q = rw (p, q) refl

pub laid-means : (needs : (t : Table) → HaveNeeds t) (file : List ℕ) (t : Table) (clusters : List (List TreesData)) (m : Measures)
    → IsDescribed t → AreMeasures m → IsLaid file t clusters m → Means file t clusters
laid-means needs file t clusters m is measures laid =
    let book = laid.book in
    let made = finished m.staged t book m.group laid.ranges in
    let outline = outlined file t clusters m is measures laid in
    subst (λ (f : List ℕ). Means f t clusters) (sym laid.is)
    (file-chain made t outline.0 clusters (ap (λ (f : List ℕ). outline_of f) (sym laid.is) ∙ outline.1)
    (entries_read made t (needs t) m.page measures.page laid.is_of.none_deferred book
    (length (book_clusters book)) 0 clusters (map (range_of laid.ranges) (book_clusters book)) (book_clusters book) outline.0
    laid.blobs_are outline.2 (omega arith) (λ j less. let same : j ≡ 0 + j = omega arith in ap (λ (k : ℕ). cluster_at book k) same)
    (ranges-stand t m laid.ranges book is measures (laid-ranged file t clusters m laid) laid.within)))
