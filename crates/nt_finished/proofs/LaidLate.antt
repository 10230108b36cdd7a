-- A finished file to which fields were added between clusters means its entries.
use Rattle.std.proofs.Common.{◌≡◌, ℕ, zero, suc, ◌+◌, ◌<◌, ◌≤◌, List, [], ◌∷◌, map, length, Ok, refl, sym, ap, subst, ◌∙◌}
use Rattle.std.proofs.Common.{inr, arith}
use Rattle.std.specs.Prelude.{slice_index_or, take}
use Rattle.std.specs.List.{AllByRecursion}
use Rattle.std.proofs.lemmas.List.Sums.{sum_by-cons}
use Rattle.nt_types.specs.TreeData.{TreesData}
use Rattle.nt_grammar.specs.ReadingBack.{IsDescribed}
use Rattle.nt_grammar.specs.Table.{Table}
use Rattle.nt_plans.specs.Plan.{PlanData}
use Rattle.nt_plans.specs.Needs.{entries, need_in, need_of}
use Rattle.nt_plans.specs.Late.{GrowsBy}
use Rattle.nt_machine.specs.History.{Cluster}
use Rattle.nt_book.specs.declared.meta.ClusterMeta.{ClusterMeta}
use Rattle.nt_book.specs.Books.{BookData, book_clusters, cluster_at, no_cluster, first_entry, entry_count}
use Rattle.nt_pagelists.specs.declared.column.KnownColumn.{KnownColumn}
use Rattle.nt_pagelists.specs.declared.cluster.ClusterList.{ClusterList}
use Rattle.nt_pagelists.specs.SoundBooks.{IsSoundList, HasSoundClusters}
use Rattle.nt_pagelists.proofs.SoundLists.{entries-more}
use Rattle.nt_file_meaning.specs.Outlines.{Outline, known_columns, outline_of}
use Rattle.nt_file_meaning.specs.Files.{Means}
use Rattle.nt_file_meaning.specs.Holds.{HoldsCluster}
use Rattle.nt_lists.specs.Parts.{Part}
use Rattle.nt_layout.specs.Finished.{range_parts, finished}
use Rattle.nt_layout.specs.Laid.{Measures, AreMeasures, range_of}
use Rattle.nt_finished.specs.Listed.{IsListOf, AreListsOf}
use Rattle.nt_finished.specs.Ranged.{IsRangedBook}
use Rattle.nt_finished.proofs.Standing.{StandsThere}
use Rattle.nt_finished.proofs.Lengths.{AreTold, range-len}
use Rattle.nt_finished.proofs.Needs.{known-firsts, length-known}
use Rattle.nt_finished.proofs.Sound.{length-described, length-metas, sound-list}
use Rattle.nt_finished.proofs.Clusters.{HaveNeeds, cluster_held}
use Rattle.nt_finished.proofs.Headers.{ranges-stand}
use Rattle.nt_finished.proofs.Outlines.{ranged-outlined}
use Rattle.nt_finished.specs.LeftOut.{LacksFields, AreFilled, none_filled, and_filled}
use Rattle.nt_finished.specs.LateFiles.{IsLateBlob, AreLateBlobs, no_blob, late_blob, IsLaidLate}
use Rattle.nt_finished.proofs.GrownTables.{known-chain, behind-chain}

-- ---- the blobs

record IsSomeLate (new : Table) (page first : ℕ) (c : Cluster ClusterMeta) : Type 0 where
  all : List TreesData
  range : List ℕ
  is : IsLateBlob new page first c range all

late-at : (new : Table) (page first : ℕ) (clusters : List (List TreesData)) (ranges : List (List ℕ)) (cs : List (Cluster ClusterMeta))
    → AreLateBlobs new page first clusters ranges cs
    → (k : ℕ) → k < length cs → IsSomeLate new page (first + entry_count (take k cs)) (slice_index_or cs k no_cluster)
late-at new page first clusters ranges cs no_blob k less = absurd (omega (arith, less))
late-at new page first clusters ranges cs (late_blob {all = all} {range = range} {c = c} one more) zero less =
    let same : first ≡ first + 0 = omega arith in
    record { all = all; range = range; is = subst (λ (n : ℕ). IsLateBlob new page n c range all) same one }
late-at new page first clusters ranges cs (late_blob {others = others} {ranges = left} {c = c} {cs = ds} one more) (suc k) less =
    let sum = sum_by-cons (λ (x : Cluster ClusterMeta). x.meta.entries) c (take k ds) in
    let same : first + c.meta.entries + entry_count (take k ds) ≡ first + entry_count (take (suc k) (c ∷ ds)) = omega (arith, sum) in
    subst (λ (n : ℕ). IsSomeLate new page n (slice_index_or ds k no_cluster)) same
    (late-at new page (first + c.meta.entries) others left ds more k (omega (arith, less)))

pub lens-late : (new : Table) (page first : ℕ) (clusters : List (List TreesData)) (ranges : List (List ℕ)) (cs : List (Cluster ClusterMeta))
    → AreLateBlobs new page first clusters ranges cs → AreTold cs → map length ranges ≡ map (λ (c : Cluster ClusterMeta). c.len) cs
lens-late new page first clusters ranges cs no_blob told = refl
lens-late new page first clusters ranges cs
    (late_blob {others = others} {range = range} {ranges = left} {c = c} {cs = ds} one more) told =
    ap (λ (n : ℕ). n ∷ map length left) (range-len one.table page one.entries c.start range c.meta one.blob ∙ sym told.0)
    ∙ ap (λ (l : List ℕ). c.len ∷ l) (lens-late new page (first + c.meta.entries) others left ds more told.1)

listed-columns : (new : Table) (page first : ℕ) (c : Cluster ClusterMeta) (range : List ℕ) (all : List TreesData)
    (is : IsLateBlob new page first c range all) → length c.meta.pages ≡ length is.table.columns
listed-columns new page first c range all is =
    ap (λ (m : ClusterMeta). length m.pages) is.blob.meta_is
    ∙ (length-metas page 0 is.blob.columns ∙ length-described is.blob.columns is.table.columns is.blob.gives.set.described)

-- ---- a file

module _ (need_before : (t new : Table) (p : PlanData) → GrowsBy t new p → (k : ℕ) → k < length t.columns → need_of new k ≡ need_of t k)
    (need_behind : (t new : Table) (p : PlanData) → GrowsBy t new p → (k : ℕ) → length t.columns ≤ k
    → need_of new k ≡ need_in entries p k) (needs : (t : Table) → HaveNeeds t)
    (mean : (file : List ℕ) (o : Outline) (clusters : List (List TreesData)) → outline_of file ≡ Ok o
    → AreFilled file o.table o.clusters clusters → Means file o.table clusters) where
  lists-le : (book : BookData) (k n : ℕ) (ls : List ClusterList) → AreListsOf book k n ls → k ≤ n
  lists-le book k n [] h = omega (arith, h)
  lists-le book k n (l ∷ ls) h = omega (arith, lists-le book (k + 1) n ls h.1)

  filled-from : (file : List ℕ) (new : Table) (page : ℕ) → 0 < page → (book : BookData) (n k first : ℕ)
      (clusters : List (List TreesData)) (ranges : List (List ℕ)) (cs : List (Cluster ClusterMeta)) (ls : List ClusterList)
      → AreLateBlobs new page first clusters ranges cs → first ≡ first_entry book k → AreListsOf book k n ls → k + length cs ≡ n
      → n ≡ length (book_clusters book)
      → ((j : ℕ) → j < length cs → slice_index_or cs j no_cluster ≡ cluster_at book (k + j))
      → AllByRecursion (λ (p : Part). StandsThere file p.place p.bytes) (range_parts cs ranges) → AreFilled file new ls clusters
  filled-from file new page some book n k first clusters ranges cs [] no_blob begin lists all full at there = none_filled
  filled-from file new page some book n k first clusters ranges cs (l ∷ ls) no_blob begin lists all full at there =
      absurd (omega (arith, all, lists-le book (k + 1) n ls lists.1))
  filled-from file new page some book n k first clusters ranges cs [] (late_blob one more) begin lists all full at there =
      absurd (omega (arith, all, lists))
  filled-from file new page some book n k first clusters ranges cs (l ∷ ls)
      (late_blob {all = own_entries} {others = others} {range = range} {ranges = left} {c = c} {cs = ds} one more) begin lists all full at
      there =
      let same : k + 0 ≡ k = omega arith in
      let here : cluster_at book k ≡ c = ap (λ (j : ℕ). cluster_at book j) (sym same) ∙ sym (at 0 (omega arith)) in
      let listed : IsListOf first c l =
      subst (λ (b : ℕ). IsListOf b c l) (sym begin) (subst (λ (x : Cluster ClusterMeta). IsListOf (first_entry book k) x l) here lists.0) in
      let held : HoldsCluster file one.table l one.entries =
      cluster_held file one.table (needs one.table) page some first c l one.entries range listed one.begun one.blob there.0 in
      let few = listed.few in
      let first_is = listed.first_is in
      let count = listed.entries in
      let ends : first + c.meta.entries ≡ l.first + l.entries = omega (arith, first_is, count) in
      let lacks : LacksFields (l.first + l.entries) new one.table one.zeros =
      subst (λ (b : ℕ). LacksFields b new one.table one.zeros) ends one.lacks in
      let next : first + c.meta.entries ≡ first_entry book (k + 1) =
      omega (
        arith,
        begin,
        entries-more book k (omega (arith, all, full)),
        ap (λ (x : Cluster ClusterMeta). x.meta.entries) here,
      ) in
      subst (λ (a : List TreesData). AreFilled file new (l ∷ ls) (a ∷ others)) (sym one.all_are)
      (and_filled held (omega (arith, few, listed-columns new page first c range own_entries one)) lacks
      (filled-from file new page some book n (k + 1) (first + c.meta.entries) others left ds ls more next lists.1
      (omega (arith, all)) full
      (λ j less. let step : k + suc j ≡ k + 1 + j = omega arith in at (suc j) (omega (arith, less))
      ∙ ap (λ (i : ℕ). cluster_at book i) step) there.1))

  module _ (file : List ℕ) (t : Table) (clusters : List (List TreesData)) (m : Measures) (is : IsDescribed t) (measures : AreMeasures m)
      (laid : IsLaidLate file t clusters m) where
    late-book : (k : ℕ) → k < length (book_clusters laid.book)
        → IsSomeLate t m.page (first_entry laid.book k) (cluster_at laid.book k)
    late-book k less =
        let same : 0 + first_entry laid.book k ≡ first_entry laid.book k = omega arith in
        subst (λ (n : ℕ). IsSomeLate t m.page n (cluster_at laid.book k)) same
        (late-at t m.page 0 clusters (map (range_of laid.ranges) (book_clusters laid.book)) (book_clusters laid.book)
        laid.blobs_are k less)

    listed-at : (k : ℕ) (less : k < length (book_clusters laid.book))
        → length (cluster_at laid.book k).meta.pages ≡ length (late-book k less).is.table.columns
    listed-at k less =
        let some = late-book k less in
        listed-columns t m.page (first_entry laid.book k) (cluster_at laid.book k) some.range some.all some.is

    sound-late : (from count : ℕ) → from + count ≤ length (book_clusters laid.book)
        → HasSoundClusters (known_columns t) laid.book from count
    sound-late from count inside = record {
      kept = laid.kept;
      firsts = known-firsts t 0 t.columns ∙ laid.firsts;
      inside = inside;
      each = λ k j low high listed.
          let there : k < length (book_clusters laid.book) = omega (arith, high, inside) in
          let some = late-book k there in
          let less : j < length some.is.table.columns = omega (arith, listed, listed-at k there) in
          subst (λ (c : KnownColumn). IsSoundList (cluster_at laid.book k).meta.entries (first_entry laid.book k) c
          (slice_index_or (cluster_at laid.book k).meta.pages j []))
          (sym (known-chain need_before need_behind _ t some.is.table some.is.zeros some.is.lacks j less))
          (sound-list some.is.table m.page measures.page (cluster_at laid.book k) (first_entry laid.book k) some.is.begun
          (record { entries = some.is.entries; range = some.range; is = some.is.blob }) j less);
      others = λ k j low high past less principal.
          let there : k < length (book_clusters laid.book) = omega (arith, high, inside) in
          let some = late-book k there in
          inr (behind-chain need_before need_behind _ t some.is.table some.is.zeros some.is.lacks j
          (omega (arith, past, listed-at k there)) (omega (arith, less, length-known t 0 t.columns)) principal);
    }

    ranged : IsRangedBook m.staged t m.group laid.book laid.ranges
    ranged = record { kept = laid.kept; begin = laid.begin; firsts = laid.firsts; lens = laid.lens; behind = laid.behind }

    pub laid-late : Means file t clusters
    laid-late =
        let made = finished m.staged t laid.book m.group laid.ranges in
        let outline = ranged-outlined t m laid.ranges laid.book is measures ranged laid.within sound-late in
        let begin : 0 ≡ first_entry laid.book 0 = refl in
        subst (λ (f : List ℕ). Means f t clusters) (sym laid.is)
        (mean made (record { table = t; clusters = outline.0 }) clusters outline.1
        (filled-from made t m.page measures.page laid.book (length (book_clusters laid.book)) 0 0
        clusters (map (range_of laid.ranges) (book_clusters laid.book)) (book_clusters laid.book) outline.0 laid.blobs_are begin outline.2
        (omega arith) refl
        (λ j less. let same : j ≡ 0 + j = omega arith in ap (λ (k : ℕ). cluster_at laid.book k) same)
        (ranges-stand t m laid.ranges laid.book is measures ranged laid.within)))
