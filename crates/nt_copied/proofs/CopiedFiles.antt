-- A finished file whose clusters are copies means the entries of their sources.
use Rattle.std.proofs.Common.{◌≡◌, ℕ, zero, suc, ◌+◌, ◌<◌, ◌≤◌, List, [], ◌∷◌, map, length, Ok, refl, sym, ap, subst, ◌∙◌, arith}
use Rattle.std.specs.Prelude.{slice_index_or}
use Rattle.std.specs.List.{AllByRecursion}
use Rattle.std.proofs.lemmas.List.{length-map}
use Rattle.nt_types.specs.TreeData.{TreesData}
use Rattle.nt_grammar.specs.declared.rows.ColumnRow.{ColumnRow}
use Rattle.nt_grammar.specs.Table.{Table}
use Rattle.nt_grammar.specs.ReadingBack.{IsDescribed}
use Rattle.nt_machine.specs.History.{Cluster}
use Rattle.nt_book.specs.declared.meta.ClusterMeta.{ClusterMeta}
use Rattle.nt_book.specs.Books.{BookData, book_clusters, cluster_at, no_cluster, first_entry}
use Rattle.nt_pagelists.specs.declared.cluster.ClusterList.{ClusterList}
use Rattle.nt_pagelists.specs.Columns.{unknown_column}
use Rattle.nt_pagelists.specs.SoundBooks.{IsSoundList, HasSoundClusters}
use Rattle.nt_pagelists.proofs.SoundLists.{unlisted-whole}
use Rattle.nt_file_meaning.specs.Outlines.{known_columns, outline_of}
use Rattle.nt_file_meaning.specs.Clusters.{cluster_of}
use Rattle.nt_file_meaning.specs.Files.{entries_from, read_file, Means}
use Rattle.nt_file_meaning.specs.Holds.{HoldsCluster}
use Rattle.nt_file_meaning.proofs.ClustersBack.{cluster}
use Rattle.nt_lists.specs.Parts.{Part}
use Rattle.nt_layout.specs.Finished.{range_parts, finished}
use Rattle.nt_layout.specs.Laid.{Measures, AreMeasures, range_of}
use Rattle.nt_finished.specs.Listed.{IsListOf, AreListsOf}
use Rattle.nt_finished.specs.Ranged.{IsRangedBook}
use Rattle.nt_finished.proofs.Standing.{StandsThere}
use Rattle.nt_finished.proofs.Lengths.{AreTold}
use Rattle.nt_finished.proofs.Needs.{known-firsts, length-known}
use Rattle.nt_finished.proofs.Headers.{ranges-stand}
use Rattle.nt_finished.proofs.Outlines.{ranged-outlined}
use Rattle.nt_copied.specs.Copies.{Source, NoneDeferred, IsCopyOf, AreCopies, no_copy, and_copy, IsCopied}
use Rattle.nt_copied.proofs.CopiedClusters.{copy-long, copy_held, copy_sound}

-- ---- the copies of a book

record IsSomeCopy (t : Table) (c : Cluster ClusterMeta) : Type 0 where
  source : Source
  entries : List TreesData
  range : List ℕ
  is : IsCopyOf t source entries c range

copy-at : (t : Table) (ss : List Source) (clusters : List (List TreesData)) (ranges : List (List ℕ)) (cs : List (Cluster ClusterMeta))
    → AreCopies t ss clusters ranges cs → (k : ℕ) → k < length cs → IsSomeCopy t (slice_index_or cs k no_cluster)
copy-at t ss clusters ranges cs no_copy k less = absurd (omega (arith, less))
copy-at t ss clusters ranges cs (and_copy {s = s} {entries = entries} {range = range} one more) zero less =
    record { source = s; entries = entries; range = range; is = one }
copy-at t ss clusters ranges cs (and_copy {ss = rest} {others = others} {ranges = left} {cs = ds} one more) (suc k) less =
    copy-at t rest others left ds more k (omega (arith, less))

pub lens-copies : (t : Table) → NoneDeferred t.columns → (ss : List Source) (clusters : List (List TreesData)) (ranges : List (List ℕ))
    (cs : List (Cluster ClusterMeta)) → AreCopies t ss clusters ranges cs → AreTold cs
    → map length ranges ≡ map (λ (c : Cluster ClusterMeta). c.len) cs
lens-copies t begin ss clusters ranges cs no_copy told = refl
lens-copies t begin ss clusters ranges cs
    (and_copy {s = s} {ss = rest} {entries = entries} {others = others} {range = range} {ranges = left} {c = c} {cs = ds} one more) told =
    ap (λ (n : ℕ). n ∷ map length left) (copy-long t s entries c range one begin ∙ sym told.0)
    ∙ ap (λ (l : List ℕ). c.len ∷ l) (lens-copies t begin rest others left ds more told.1)

-- ---- a file

entries-chain : (file : List ℕ) (t : Table) (number : ℕ) (l : ClusterList) (ls : List ClusterList) (entries : List TreesData)
    (others : List (List TreesData)) → cluster_of file t number l ≡ Ok entries
    → entries_from file t (number + 1) ls ≡ Ok others → entries_from file t number (l ∷ ls) ≡ Ok (entries ∷ others)
entries-chain file t number l ls entries others p q = rw (p, q) refl

file-chain : (file : List ℕ) (t : Table) (lists : List ClusterList) (clusters : List (List TreesData))
    → outline_of file ≡ Ok (record { table = t; clusters = lists })
    → entries_from file t 0 lists ≡ Ok clusters → read_file file ≡ Ok (t, clusters)
unfolding read_file
file-chain file t lists clusters p q = rw (p, q) refl

pub lists-le : (book : BookData) (k n : ℕ) (ls : List ClusterList) → AreListsOf book k n ls → k ≤ n
lists-le book k n [] h = omega (arith, h)
lists-le book k n (l ∷ ls) h = omega (arith, lists-le book (k + 1) n ls h.1)

copies_read : (file : List ℕ) (t : Table) → NoneDeferred t.columns → (book : BookData) (n k : ℕ) (ss : List Source)
    (clusters : List (List TreesData)) (ranges : List (List ℕ)) (cs : List (Cluster ClusterMeta)) (ls : List ClusterList)
    → AreCopies t ss clusters ranges cs → AreListsOf book k n ls → k + length cs ≡ n
    → ((j : ℕ) → j < length cs → slice_index_or cs j no_cluster ≡ cluster_at book (k + j))
    → AllByRecursion (λ (p : Part). StandsThere file p.place p.bytes) (range_parts cs ranges) → entries_from file t k ls ≡ Ok clusters
copies_read file t begin book n k ss clusters ranges cs [] no_copy lists all at there = refl
copies_read file t begin book n k ss clusters ranges cs (l ∷ ls) no_copy lists all at there =
    absurd (omega (arith, all, lists-le book (k + 1) n ls lists.1))
copies_read file t begin book n k ss clusters ranges cs [] (and_copy one more) lists all at there = absurd (omega (arith, all, lists))
copies_read file t begin book n k ss clusters ranges cs (l ∷ ls)
    (and_copy {s = s} {ss = rest} {entries = entries} {others = others} {range = range} {ranges = left} {c = c} {cs = ds} one more)
    lists all at there =
    let same : k + 0 ≡ k = omega arith in
    let here : cluster_at book k ≡ c = ap (λ (j : ℕ). cluster_at book j) (sym same) ∙ sym (at 0 (omega arith)) in
    let listed : IsListOf (first_entry book k) c l =
    subst (λ (x : Cluster ClusterMeta). IsListOf (first_entry book k) x l) here lists.0 in
    let held : HoldsCluster file t l entries = copy_held t s entries c range one begin file (first_entry book k) l listed there.0 in
    entries-chain file t k l ls entries others ((cluster file t k l).reads entries held)
    (copies_read file t begin book n (k + 1) rest others left ds ls more lists.1 (omega (arith, all))
    (λ j less. let next : k + suc j ≡ k + 1 + j = omega arith in at (suc j) (omega (arith, less))
    ∙ ap (λ (i : ℕ). cluster_at book i) next) there.1)

module _ (file : List ℕ) (t : Table) (sources : List Source) (clusters : List (List TreesData)) (m : Measures)
    (is : IsDescribed t) (measures : AreMeasures m) (copied : IsCopied file t sources clusters m) where
  abbrev book : BookData
  book = copied.book

  begin : NoneDeferred t.columns
  begin = copied.is_of.none_deferred

  sound-at : (k j : ℕ) → k < length (book_clusters book) → j < length t.columns
      → IsSoundList (cluster_at book k).meta.entries (first_entry book k) (slice_index_or (known_columns t) j unknown_column)
      (slice_index_or (cluster_at book k).meta.pages j [])
  sound-at k j inside less =
      let some = copy-at t sources clusters (map (range_of copied.ranges) (book_clusters book)) (book_clusters book) copied.copies k
      inside in
      copy_sound t some.source some.entries (cluster_at book k) some.range some.is begin (first_entry book k) j less

  pub sound-copies : (from count : ℕ) → from + count ≤ length (book_clusters book) → HasSoundClusters (known_columns t) book from count
  sound-copies from count inside =
      let long : length t.columns ≡ length book.firsts =
      sym (length-map t.columns (λ (c : ColumnRow). c.first)) ∙ ap length copied.is_of.firsts in
      record {
        kept = copied.is_of.kept;
        firsts = known-firsts t 0 t.columns ∙ copied.is_of.firsts;
        inside = inside;
        each = λ k j low high listed.
            let lists = (copied.is_of.kept.clusters k (omega (arith, high, inside))).lists in
            sound-at k j (omega (arith, high, inside)) (omega (arith, listed, lists, long));
        others = λ k j low high past less.
            unlisted-whole (cluster_at book k).meta.entries (first_entry book k) j (slice_index_or (known_columns t) j unknown_column)
            (cluster_at book k).meta.pages past
            (sound-at k j (omega (arith, high, inside)) (omega (arith, less, length-known t 0 t.columns)));
      }

  pub ranged : IsRangedBook m.staged t m.group book copied.ranges
  ranged = record {
    kept = copied.is_of.kept;
    begin = copied.is_of.begin;
    firsts = copied.is_of.firsts;
    lens = copied.lens;
    behind = copied.behind;
  }

  pub copied-means : Means file t clusters
  copied-means =
      let made = finished m.staged t book m.group copied.ranges in
      let outline = ranged-outlined t m copied.ranges book is measures ranged copied.within sound-copies in
      subst (λ (f : List ℕ). Means f t clusters) (sym copied.is)
      (file-chain made t outline.0 clusters outline.1
      (copies_read made t begin book (length (book_clusters book)) 0 sources clusters
      (map (range_of copied.ranges) (book_clusters book)) (book_clusters book) outline.0 copied.copies outline.2 (omega arith)
      (λ j less. let same : j ≡ 0 + j = omega arith in ap (λ (k : ℕ). cluster_at book k) same)
      (ranges-stand t m copied.ranges book is measures ranged copied.within)))
