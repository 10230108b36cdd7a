-- The bytes of all ranges of contexts that wrote their chunks, by the numbers of the ranges.
use Rattle.std.proofs.Common.{◌≡◌, ◌∙◌, ap, sym, refl, subst, ℕ, suc, ◌<◌, ◌≤◌, Bool, true, false, List, [], ◌∷◌, ◌++◌, length, map}
use Rattle.std.proofs.Common.{Option, Some, arith, inl, inr}
use Rattle.std.specs.Prelude.{slice_index_or}
use Rattle.std.specs.List.{AllByRecursion, AllZip, flat_map}
use Rattle.std.proofs.lemmas.Bool.{cases_lt}
use Rattle.std.proofs.lemmas.List.{length-map, map-append}
use Rattle.nt_types.specs.TreeData.{TreesData}
use Rattle.nt_grammar.specs.Table.{Table}
use Rattle.nt_outside.specs.Held.{Held}
use Rattle.nt_machine.specs.declared.entry.Entry.{Entry}
use Rattle.nt_machine.specs.History.{Fate, Settled, Cluster, WrittenChunk, mine_of, own_of, publishers_of, ranges_of, clusters_of, order_of}
use Rattle.nt_machine.specs.History.{written_cluster, IsIdle, IsSettledWith}
use Rattle.nt_machine.specs.Legal.{IsLegal}
use Rattle.nt_machine.specs.Untold.{untold}
use Rattle.nt_machine.proofs.Contexts.{IsBelow, below-fold, contexts_idle}
use Rattle.nt_machine.proofs.Histories.{own-fold, own-map, own-ranges_of}
use Rattle.nt_machine.proofs.Legality.{IsNumbered-fold}
use Rattle.nt_machine.proofs.Publishers.{published-whole}
use Rattle.nt_book.specs.declared.meta.ClusterMeta.{ClusterMeta}
use Rattle.nt_book.specs.Books.{no_cluster}
use Rattle.nt_logged.specs.Steps.{bytes_where_told}
use Rattle.nt_layout.specs.Laid.{IsBlobOfEntries, AreBlobsOf, range_of}
use Rattle.nt_layout.specs.Laid.AreBlobsOf.{none_left, and_blob}
use Rattle.nt_finished.proofs.Lengths.{range-len}
use Rattle.nt_dealing.specs.Written.{IsChunkBlob, WroteAllChunks}
use Rattle.nt_dealing.proofs.AllPublished.{PublishedOnce, own-all, all-published}
use Rattle.nt_dealing.proofs.Fronts.{idle_ranges}
use Rattle.nt_dealing.proofs.Owned.{AreOwned, Chosen, chosen}
use Rattle.nt_dealing.proofs.Takings.{past}

abbrev Range : Type 0
Range = Cluster ClusterMeta

-- clusters that are the same but for their bytes
module _ {M : Type 0} where
  own-same : (cs ds : List (Cluster M)) (i : ℕ) → map untold cs ≡ map untold ds → map untold (own_of cs i) ≡ map untold (own_of ds i)
  own-same cs ds i same =
      sym (own-map untold (λ c. refl) cs i)
      ∙ (ap (λ (l : List (Cluster M)). own_of l i) same ∙ own-map untold (λ c. refl) ds i)

  published-same : (cs ds : List (Cluster M)) (is : List ℕ) → map untold cs ≡ map untold ds
      → map untold (flat_map (own_of cs) is) ≡ map untold (flat_map (own_of ds) is)
  published-same cs ds [] same = refl
  published-same cs ds (i ∷ is) same =
      map-append untold (own_of cs i) (flat_map (own_of cs) is)
      ∙ (ap (λ (l : List (Cluster M)). l ++ map untold (flat_map (own_of cs) is)) (own-same cs ds i same)
      ∙ (ap (λ (l : List (Cluster M)). map untold (own_of ds i) ++ l) (published-same cs ds is same)
      ∙ sym (map-append untold (own_of ds i) (flat_map (own_of ds) is))))

  pub clusters-same : (staged : Bool) (one other : List (Entry M)) → map untold (ranges_of one) ≡ map untold (ranges_of other)
      → publishers_of one ≡ publishers_of other → map untold (clusters_of staged one) ≡ map untold (clusters_of staged other)
  clusters-same false one other same who = same
  clusters-same true one other same who =
      ap (λ (is : List ℕ). map untold (flat_map (own_of (ranges_of one)) is)) who
      ∙ published-same (ranges_of one) (ranges_of other) (publishers_of other) same

  pub order-same : (cs ds : List (Cluster M)) → map untold cs ≡ map untold ds → order_of cs ≡ order_of ds
  order-same [] [] is = refl
  order-same [] (d ∷ ds) is = cc
  order-same (c ∷ cs) [] is = cc
  order-same (c ∷ cs) (d ∷ ds) is =
      let one : untold c ≡ untold d = cc in
      let rest : map untold cs ≡ map untold ds = cc in
      ap (λ (e : Cluster M). e.context ∷ order_of cs) one ∙ ap (λ (l : List ℕ). d.context ∷ l) (order-same cs ds rest)

  pub count-same : (cs ds : List (Cluster M)) → map untold cs ≡ map untold ds → length cs ≡ length ds
  count-same cs ds same =
      sym (length-map cs untold) ∙ (ap (λ (l : List (Cluster M)). length l) same ∙ length-map ds untold)

module _ (begun : Option Held) (t : Table) (page : ℕ) where
  -- these bytes are the blob of a chunk in a range, which was settled with them where they are told
  pub record IsRangeBlob (blob : List ℕ) (x : List TreesData) (c : Range) : Type 0 where
    pub is_blob : IsBlobOfEntries t page x c.start blob c.meta
    pub told : (h : Held) → begun ≡ Some h → c.state ≡ Settled (Some blob)

  told_by : (h : Held) (bytes : Option (List ℕ)) (blob : List ℕ) (state : Fate) → begun ≡ Some h → state ≡ Settled bytes
      → bytes ≡ bytes_where_told begun (Some blob) → state ≡ Settled (Some blob)
  told_by h bytes blob state is filled told =
      filled ∙ ap (λ (b : Option (List ℕ)). Settled b) (told ∙ ap (λ (o : Option Held). bytes_where_told o (Some blob)) is)

  choose : (x : List TreesData) (c : Range) → IsSettledWith (IsChunkBlob begun t page) x c → (blob : List ℕ) × IsRangeBlob blob x c
  choose x c h = (
    h.blob.blob,
    record {
      is_blob = h.blob.is_blob;
      told = λ held e. told_by held h.bytes h.blob.blob c.state e h.filled h.blob.told;
    },
  )

  written-settled : (i : ℕ) (xs : List (List TreesData)) (ws : List (WrittenChunk ClusterMeta))
      → AllZip (λ chunk (w : WrittenChunk ClusterMeta). IsChunkBlob begun t page chunk w.start w.bytes w.meta) xs ws
      → AllZip (IsSettledWith (IsChunkBlob begun t page)) xs (map (written_cluster i) ws)
  written-settled i [] [] h = tt
  written-settled i [] (w ∷ ws) h = absurd h
  written-settled i (x ∷ xs) [] h = absurd h
  written-settled i (x ∷ xs) (w ∷ ws) h =
      (record { bytes = w.bytes; filled = refl; blob = h.0 }, written-settled i xs ws h.1)

  -- contexts wrote all their chunks, and no other wrote
  module _ (staged : Bool) (chunks : List (List (List TreesData))) (history : List (Entry ClusterMeta))
      (wrote : (i : ℕ) → i < length chunks → WroteAllChunks begun t page staged i (slice_index_or chunks i []) (mine_of history i))
      (idle : (i : ℕ) → length chunks ≤ i → IsIdle (mine_of history i)) where
    owned : AreOwned (IsSettledWith (IsChunkBlob begun t page)) chunks (ranges_of history)
    owned i = elim (cases_lt i (length chunks)) [
      | inl low ↦
          let w = wrote i low in
          subst (λ (l : List Range). AllZip (IsSettledWith (IsChunkBlob begun t page)) (slice_index_or chunks i []) l)
          (sym (own-ranges_of staged history i w.writes w.are)) (written-settled i (slice_index_or chunks i []) w.writes w.blobs)
      | inr high ↦
          let none : own_of (ranges_of history) i ≡ [] = own-fold [] history i ∙ idle_ranges [] (mine_of history i) (idle i high) in
          subst (λ (l : List Range). AllZip (IsSettledWith (IsChunkBlob begun t page)) (slice_index_or chunks i []) l) (sym none)
          (subst (λ (l : List (List TreesData)). AllZip (IsSettledWith (IsChunkBlob begun t page)) l []) (sym (past i chunks high)) tt)
    ]

    below : AllByRecursion (IsBelow (length chunks)) (ranges_of history)
    below = below-fold (length chunks) [] history (contexts_idle (length chunks) history idle) tt

    once : PublishedOnce staged (length chunks) history
    once is i less =
        let w = subst (λ (b : Bool). WroteAllChunks begun t page b i (slice_index_or chunks i []) (mine_of history i)) is (wrote i less) in
        published-whole history i w.writes w.are

    -- so each range is a cluster
    pub all-ranges : length (clusters_of staged history) ≡ length (ranges_of history)
    all-ranges = all-published staged (length chunks) history once below

    abbrev pub Blobs : Type 0
    Blobs = Chosen IsRangeBlob [] chunks (ranges_of history)

    pub blobs : (place : ℕ) → IsLegal place history → Blobs
    blobs place legal =
        chosen IsRangeBlob [] (IsSettledWith (IsChunkBlob begun t page)) choose (ranges_of history) chunks
        (IsNumbered-fold place [] history legal tt) owned

    -- and the chunks of each context are in its clusters
    pub clusters-owned : (b : Blobs) → AreOwned (λ x (c : Range). IsRangeBlob (range_of b.bs c) x c) chunks (clusters_of staged history)
    clusters-owned b i =
        subst (λ (l : List Range). AllZip (λ x (c : Range). IsRangeBlob (range_of b.bs c) x c) (slice_index_or chunks i []) l)
        (sym (own-all staged (length chunks) history once below i)) (b.own i)

  -- ranges that were settled with their bytes
  pub blobs-told : (bs : List (List ℕ)) (cs : List Range) → AllZip (λ blob c. (x : List TreesData) × IsRangeBlob blob x c) bs cs
      → (h : Held) → begun ≡ Some h → AllZip (λ (part : List ℕ) (c : Range). c.state ≡ Settled (Some part)) bs cs
  blobs-told [] [] all h is = tt
  blobs-told [] (c ∷ cs) all h is = absurd all
  blobs-told (b ∷ bs) [] all h is = absurd all
  blobs-told (b ∷ bs) (c ∷ cs) all h is = (all.0.1.told h is, blobs-told bs cs all.1 h is)

  -- are as long as a book has them
  pub blobs-long : (bs : List (List ℕ)) (cs ds : List Range) → AllZip (λ blob c. (x : List TreesData) × IsRangeBlob blob x c) bs cs
      → map untold cs ≡ map untold ds
      → ((k : ℕ) → k < length ds → (slice_index_or ds k no_cluster).len ≡ (slice_index_or ds k no_cluster).meta.len)
      → map length bs ≡ map (λ (c : Range). c.len) ds
  blobs-long [] [] [] all is lens = refl
  blobs-long [] [] (d ∷ ds) all is lens = cc
  blobs-long [] (c ∷ cs) ds all is lens = absurd all
  blobs-long (b ∷ bs) [] ds all is lens = absurd all
  blobs-long (b ∷ bs) (c ∷ cs) [] all is lens = cc
  blobs-long (b ∷ bs) (c ∷ cs) (d ∷ ds) all is lens =
      let one : untold c ≡ untold d = cc in
      let rest : map untold cs ≡ map untold ds = cc in
      let here : length b ≡ d.len =
      range-len t page all.0.0 c.start b c.meta all.0.1.is_blob
      ∙ (ap (λ (e : Range). e.meta.len) one ∙ sym (lens 0 (omega arith))) in
      ap (λ (n : ℕ). n ∷ map length bs) here
      ∙ ap (λ (ns : List ℕ). d.len ∷ ns) (blobs-long bs cs ds all.1 rest (λ k less. lens (suc k) (omega (arith, less))))

  -- and those of clusters are the blobs of what was dealt out
  pub blobs-dealt : (bs : List (List ℕ)) (dealt : List (List TreesData)) (cs ds : List Range)
      → AllZip (λ x (c : Range). IsRangeBlob (range_of bs c) x c) dealt cs → map untold cs ≡ map untold ds
      → AreBlobsOf t page dealt (map (range_of bs) ds) ds
  blobs-dealt bs [] [] [] all is = none_left
  blobs-dealt bs [] [] (d ∷ ds) all is = cc
  blobs-dealt bs [] (c ∷ cs) ds all is = absurd all
  blobs-dealt bs (x ∷ xs) [] ds all is = absurd all
  blobs-dealt bs (x ∷ xs) (c ∷ cs) [] all is = cc
  blobs-dealt bs (x ∷ xs) (c ∷ cs) (d ∷ ds) all is =
      let one : untold c ≡ untold d = cc in
      let rest : map untold cs ≡ map untold ds = cc in
      let blob : IsBlobOfEntries t page x d.start (range_of bs d) d.meta =
      subst (λ (e : Range). IsBlobOfEntries t page x e.start (range_of bs e) e.meta) one all.0.is_blob in
      and_blob blob (blobs-dealt bs xs cs ds all.1 rest)
