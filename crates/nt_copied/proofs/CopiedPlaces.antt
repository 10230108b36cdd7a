-- Where the copies of a finished file stand, and what is stored in them.
use Rattle.std.proofs.Common.{◌≡◌, ℕ, suc, ◌+◌, ◌<◌, Bool, true, false, List, [], ◌∷◌, map, length, refl, sym, ap, subst, ◌∙◌}
use Rattle.std.proofs.Common.{arith}
use Rattle.std.specs.Prelude.{slice_index_or}
use Rattle.std.specs.List.{AllByRecursion}
use Rattle.nt_types.specs.TreeData.{TreesData}
use Rattle.nt_grammar.specs.Table.{Table}
use Rattle.nt_grammar.specs.ReadingBack.{IsDescribed}
use Rattle.nt_machine.specs.History.{Cluster, ranges_of}
use Rattle.nt_book.specs.declared.meta.ClusterMeta.{ClusterMeta}
use Rattle.nt_book.specs.Books.{BookData, IsUngrouped, book_ranges, book_clusters, cluster_at, no_cluster, first_entry}
use Rattle.nt_pagelists.specs.declared.cluster.ClusterList.{ClusterList}
use Rattle.nt_lists.specs.Parts.{Part, AreBehind}
use Rattle.nt_layout.specs.Headers.{clusters_place}
use Rattle.nt_layout.specs.Finished.{range_parts, middle, finished}
use Rattle.nt_layout.specs.Beside.{HasListsBeside}
use Rattle.nt_layout.specs.Laid.{Measures, AreMeasures, IsWithin, IsBookOf, range_of}
use Rattle.nt_finished.specs.Listed.{IsListOf, AreListsOf}
use Rattle.nt_finished.proofs.Standing.{StandsThere}
use Rattle.nt_finished.proofs.Lengths.{clusters_told}
use Rattle.nt_finished.proofs.Staged.{all_behind, all-clusters}
use Rattle.nt_finished.proofs.Beside.{all_beside, ranges-beside, by-number_beside, clusters-beside}
use Rattle.nt_finished.proofs.Headers.{ranges-stand}
use Rattle.nt_finished.proofs.Outlines.{ranged-outlined}
use Rattle.nt_copied.specs.Stored.{StoredPage}
use Rattle.nt_copied.specs.Copies.{Source, sources_of, stored_columns, NoneDeferred, AreCopies, no_copy, and_copy, IsCopied, HasStoredPages}
use Rattle.nt_copied.proofs.CopiedStored.{copy_stored}
use Rattle.nt_copied.proofs.CopiedFiles.{lens-copies, lists-le, ranged, sound-copies}

-- ---- a finished file of copies, whatever else stands between its ranges

pub copied-beside : (file : List ℕ) (t : Table) (sources : List Source) (clusters : List (List TreesData)) (m : Measures)
    (ranges : List (List ℕ)) (book : BookData) → m.staged ≡ false → IsBookOf t book → HasListsBeside t m.group book → IsWithin t m book
    → AreCopies t sources clusters ranges (book_clusters book) → file ≡ finished m.staged t book m.group ranges
    → IsCopied file t sources clusters m
copied-beside file t sources clusters m ranges book staged of beside within are is =
    let all = ranges-beside t m.group book of.kept beside in
    let lens = lens-copies t of.none_deferred sources clusters ranges (book_clusters book) are (clusters_told book of.kept)
    ∙ ap (λ (cs : List (Cluster ClusterMeta)). map (λ (c : Cluster ClusterMeta). c.len) cs) all in
    record {
      book = book;
      is_of = of;
      within = within;
      whole = clusters-beside m.staged t m.group book of.kept beside;
      ranges = ranges;
      lens = lens;
      copies =
          subst (λ (l : List (List ℕ)). AreCopies t sources clusters l (book_clusters book))
          (sym (by-number_beside t m.group book of.kept beside ranges lens)) are;
      behind = subst (λ (b : Bool). AreBehind (clusters_place t) (middle b t book m.group ranges)) (sym staged)
          (all_beside t m.group book of.kept beside ranges of.begin lens);
      is = is;
    }

pub copied-behind : (file : List ℕ) (t : Table) (sources : List Source) (clusters : List (List TreesData)) (m : Measures)
    (ranges : List (List ℕ)) (book : BookData) → m.staged ≡ true → IsBookOf t book → IsUngrouped book → IsWithin t m book
    → length (book_clusters book) ≡ length (book_ranges book)
    → map length ranges ≡ map (λ (c : Cluster ClusterMeta). c.len) (ranges_of book.history)
    → AreCopies t sources clusters (map (range_of ranges) (book_clusters book)) (book_clusters book)
    → file ≡ finished m.staged t book m.group ranges → IsCopied file t sources clusters m
copied-behind file t sources clusters m ranges book staged of bare within same lens are is = record {
  book = book;
  is_of = of;
  within = within;
  whole = all-clusters m.staged book staged same;
  ranges = ranges;
  lens = lens;
  copies = are;
  behind = subst (λ (b : Bool). AreBehind (clusters_place t) (middle b t book m.group ranges)) (sym staged)
      (all_behind t m.group book ranges of.kept bare of.begin lens);
  is = is;
}

-- ---- what is stored in it

copies_stored : (file : List ℕ) (t : Table) → NoneDeferred t.columns → (book : BookData) (n k : ℕ) (ss : List Source)
    (clusters : List (List TreesData)) (ranges : List (List ℕ)) (cs : List (Cluster ClusterMeta)) (ls : List ClusterList)
    → AreCopies t ss clusters ranges cs → AreListsOf book k n ls → k + length cs ≡ n
    → ((j : ℕ) → j < length cs → slice_index_or cs j no_cluster ≡ cluster_at book (k + j))
    → AllByRecursion (λ (p : Part). StandsThere file p.place p.bytes) (range_parts cs ranges)
    → map stored_columns (sources_of file t ls) ≡ map stored_columns ss
copies_stored file t begin book n k ss clusters ranges cs [] no_copy lists all at there = refl
copies_stored file t begin book n k ss clusters ranges cs (l ∷ ls) no_copy lists all at there =
    absurd (omega (arith, all, lists-le book (k + 1) n ls lists.1))
copies_stored file t begin book n k ss clusters ranges cs [] (and_copy one more) lists all at there = absurd (omega (arith, all, lists))
copies_stored file t begin book n k ss clusters ranges cs (l ∷ ls)
    (and_copy {s = s} {ss = rest} {entries = entries} {others = others} {range = range} {ranges = left} {c = c} {cs = ds} one more)
    lists all at there =
    let same : k + 0 ≡ k = omega arith in
    let here : cluster_at book k ≡ c = ap (λ (j : ℕ). cluster_at book j) (sym same) ∙ sym (at 0 (omega arith)) in
    let listed : IsListOf (first_entry book k) c l =
    subst (λ (x : Cluster ClusterMeta). IsListOf (first_entry book k) x l) here lists.0 in
    let stored = copy_stored t s entries c range one begin file (first_entry book k) l listed there.0 in
    ap (λ (x : List (List StoredPage)). x ∷ map stored_columns (sources_of file t ls)) stored
    ∙ ap (λ (x : List (List (List StoredPage))). stored_columns s ∷ x)
    (copies_stored file t begin book n (k + 1) rest others left ds ls more lists.1 (omega (arith, all))
    (λ j less. let next : k + suc j ≡ k + 1 + j = omega arith in at (suc j) (omega (arith, less))
    ∙ ap (λ (i : ℕ). cluster_at book i) next) there.1)

pub copied-stored : (file : List ℕ) (t : Table) (sources : List Source) (clusters : List (List TreesData)) (m : Measures) → IsDescribed t
    → AreMeasures m → IsCopied file t sources clusters m → HasStoredPages file t sources
copied-stored file t sources clusters m is measures copied =
    let book = copied.book in
    let made = finished m.staged t book m.group copied.ranges in
    let whole = ranged file t sources clusters m is measures copied in
    let outline = ranged-outlined t m copied.ranges book is measures whole copied.within
    (sound-copies file t sources clusters m is measures copied) in
    subst (λ (f : List ℕ). HasStoredPages f t sources) (sym copied.is) (record {
      lists = outline.0;
      outline = outline.1;
      pages = copies_stored made t copied.is_of.none_deferred book (length (book_clusters book)) 0 sources clusters
          (map (range_of copied.ranges) (book_clusters book)) (book_clusters book) outline.0 copied.copies outline.2 (omega arith)
          (λ j less. let same : j ≡ 0 + j = omega arith in ap (λ (k : ℕ). cluster_at book k) same)
          (ranges-stand t m copied.ranges book is measures whole copied.within);
    })
