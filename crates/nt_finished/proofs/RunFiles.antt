-- The file that holds the ranges of a closed run is laid out for the chunks of its contexts.
use Rattle.std.proofs.Common.{◌≡◌, ◌∙◌, ap, sym, subst, ℕ, zero, suc, true, List, [], ◌∷◌, map, Some}
use Rattle.std.specs.Prelude.{slice_get, slice_index_or}
use Rattle.std.specs.List.{AllByRecursion, AllZip}
use Rattle.nt_types.specs.TreeData.{TreesData}
use Rattle.nt_grammar.specs.Table.{Table}
use Rattle.nt_machine.specs.Deal.{UsesFor, IsDeal}
use Rattle.nt_machine.specs.History.{Cluster}
use Rattle.nt_machine.specs.Machine.{Settled, ChunkRange, MachineState, ContextStep, AreTrue, IsRun, contexts_of, state_after}
use Rattle.nt_machine.proofs.Counts.{counted}
use Rattle.nt_machine.proofs.RunOrders.{run_uses, run_deals, run_grouped}
use Rattle.nt_machine.proofs.Runs.{run_true}
use Rattle.nt_book.specs.declared.meta.ClusterMeta.{ClusterMeta}
use Rattle.nt_book.specs.Books.{book_clusters}
use Rattle.nt_layout.specs.Headers.{clusters_place}
use Rattle.nt_layout.specs.Laid.{AreBlobsOf, none_left, and_blob, IsBlobOfEntries, Measures, IsLaid, range_of}
use Rattle.nt_finished.specs.RunFiles.{content_bytes, range_contents, IsChunkCluster, HoldsRun}

module _ (t : Table) (m : Measures) (chunks : List (List (List TreesData))) (blob : ℕ → ℕ → ℕ → List ℕ) where
  -- what stands in a range, where all are settled
  content-at : (ranges : List ChunkRange) (n : ℕ) (r : ChunkRange) → AllByRecursion (λ (x : ChunkRange). x.mark ≡ Settled) ranges
      → AreTrue blob ranges → slice_get ranges n ≡ Some r
      → slice_index_or (range_contents ranges) n [] ≡ blob r.context r.chunk r.start
  content-at [] n r settled are at = absurd (cc at)
  content-at (x ∷ xs) zero r settled are at =
      let same : x ≡ r = cc at in
      ap content_bytes (are.0 settled.0) ∙ ap (λ (y : ChunkRange). blob y.context y.chunk y.start) same
  content-at (x ∷ xs) (suc n) r settled are at = content-at xs n r settled.1 are.1 at

  -- each cluster's range is the blob of the chunk that was dealt there
  blobs-dealt : (ranges : List ChunkRange) (dealt : List (List TreesData)) (order : List (ℕ × ℕ)) (cs : List (Cluster ClusterMeta))
      → AllByRecursion (λ (x : ChunkRange). x.mark ≡ Settled) ranges → AreTrue blob ranges
      → AllZip (λ chunk (name : ℕ × ℕ). slice_get (slice_index_or chunks name.0 []) name.1 ≡ Some chunk) dealt order
      → AllZip (IsChunkCluster t m chunks blob ranges) order cs
      → AreBlobsOf t m.page dealt (map (range_of (range_contents ranges)) cs) cs
  blobs-dealt ranges [] [] [] settled are named of = none_left
  blobs-dealt ranges [] [] (c ∷ cs) settled are named of = absurd of
  blobs-dealt ranges [] (name ∷ order) cs settled are named of = absurd named
  blobs-dealt ranges (chunk ∷ dealt) [] cs settled are named of = absurd named
  blobs-dealt ranges (chunk ∷ dealt) (name ∷ order) [] settled are named of = absurd of
  blobs-dealt ranges (chunk ∷ dealt) (name ∷ order) (c ∷ cs) settled are named of =
      let own = of.0 in
      let whole : slice_index_or (range_contents ranges) c.number [] ≡ blob name.0 name.1 c.start =
      content-at ranges c.number own.range settled are own.at
      ∙ (ap (λ (n : ℕ × ℕ). blob n.0 n.1 own.range.start) own.named ∙ ap (λ (start : ℕ). blob name.0 name.1 start) own.start) in
      and_blob (subst (λ (bytes : List ℕ). IsBlobOfEntries t m.page chunk c.start bytes c.meta) (sym whole) (own.blob_is chunk named.0))
      (blobs-dealt ranges dealt order cs settled are named.1 of.1)

  abbrev After : List ContextStep → MachineState
  After steps = state_after m.staged blob (clusters_place t) steps

  pub run-laid : (steps : List ContextStep) (file : List ℕ) → IsRun m.staged chunks blob (clusters_place t) steps
      → (After steps).closed ≡ true → HoldsRun t m chunks blob file (After steps)
      → (dealt : List (List TreesData)) × UsesFor m.staged (contexts_of (After steps).order) chunks
      × IsDeal chunks (contexts_of (After steps).order) dealt × IsLaid file t dealt m
  run-laid steps file ok closed holds =
      let s = After steps in
      let deal = run_deals m.staged chunks blob (clusters_place t) steps ok closed in
      let done = (counted m.staged chunks blob (clusters_place t) steps ok).done closed in (
        deal.dealt,
        record {
          uses = run_uses m.staged chunks blob (clusters_place t) steps ok closed;
          grouped = run_grouped m.staged chunks blob (clusters_place t) steps ok;
        },
        deal.is_deal,
        record {
          book = holds.book;
          is_of = holds.is_of;
          within = holds.within;
          whole = holds.whole;
          ranges = range_contents s.ranges;
          lens = holds.lens;
          blobs_are = blobs-dealt s.ranges deal.dealt s.order (book_clusters holds.book) done.settled
              (run_true m.staged blob chunks (clusters_place t) steps ok) deal.named holds.clusters;
          behind = holds.behind;
          is = holds.is;
        },
      )
