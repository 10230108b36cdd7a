-- What the contexts of a writer wrote, each for itself.
use Rattle.std.specs.Prelude.{◌≡◌, ℕ, ◌+◌, ◌≤◌, Bool, List, [], ◌∷◌, map, take, Option, Some, length}
use Rattle.std.specs.List.{AllByRecursion}
use Rattle.nt_types.specs.TreeData.{TreesData}
use Rattle.nt_grammar.specs.Table.{Table}
use Rattle.nt_outside.specs.Held.{Held}
use Rattle.nt_machine.specs.declared.entry.Entry.{Entry}
use Rattle.nt_machine.specs.History.{Cluster, Wrote, WroteAll, IsIdle, ranges_of}
use Rattle.nt_book.specs.declared.meta.ClusterMeta.{ClusterMeta}
use Rattle.nt_logged.specs.Steps.{bytes_where_told}
use Rattle.nt_layout.specs.Laid.{IsBlobOfEntries}
use Rattle.nt_dealing.specs.Limits.{AreKeptOf}

-- at a place stands the blob of a chunk, of which this is kept; its bytes are told where the disk told what it held at the beginning
pub record IsChunkBlob (begun : Option Held) (t : Table) (page : ℕ) (entries : List TreesData) (place : ℕ) (bytes : Option (List ℕ))
    (meta : ClusterMeta) : Type 0 where
  pub blob : List ℕ
  pub is_blob : IsBlobOfEntries t page entries place blob meta
  pub told : bytes ≡ bytes_where_told begun (Some blob)

-- the entries of a context in a history are those of its chunks, each reserved and settled, one after the other
abbrev pub WroteChunks : Option Held → Table → ℕ → Bool → ℕ → List (List TreesData) → List (Entry ClusterMeta) → Type 0
WroteChunks begun t page staged i chunks own = Wrote (IsChunkBlob begun t page) staged i chunks own

-- and it is done with them: staged ones it published
abbrev pub WroteAllChunks : Option Held → Table → ℕ → Bool → ℕ → List (List TreesData) → List (Entry ClusterMeta) → Type 0
WroteAllChunks begun t page staged i chunks own = WroteAll (IsChunkBlob begun t page) staged i chunks own

-- the contexts, from this number on, were joined in the order of their numbers, and each wrote its chunks, all of them
abbrev pub AllWroteFrom : Option Held → Table → ℕ → Bool → ℕ → List (List (List TreesData)) → List (ℕ × List (Entry ClusterMeta))
    → Type 0
AllWroteFrom begun t page staged i [] [] = Unit {0}
AllWroteFrom begun t page staged i [] (k ∷ kept) = ⊥
AllWroteFrom begun t page staged i (chunks ∷ others) [] = ⊥
AllWroteFrom begun t page staged i (chunks ∷ others) (k ∷ kept) =
    (k.0 ≡ i) × WroteAllChunks begun t page staged i chunks k.1 × AllWroteFrom begun t page staged (i + 1) others kept

-- a first pass keeps what each context wrote, and entered nothing itself, not even a fault; its number is behind theirs
pub record HaveWritten (begun : Option Held) (t : Table) (page : ℕ) (staged : Bool) (chunks : List (List (List TreesData))) (number : ℕ)
    (own : List (Entry ClusterMeta)) (kept : List (ℕ × List (Entry ClusterMeta))) : Type 0 where
  pub behind : length chunks ≤ number
  pub unused : own ≡ []
  pub each : AllWroteFrom begun t page staged 0 chunks kept

-- a context committed the first of these chunks, one after the other, and no other
pub record CommittedFirst (t : Table) (page : ℕ) (chunks : List (List TreesData)) (own : List (Entry ClusterMeta)) : Type 0 where
  pub kept : AreKeptOf t page (take (length (ranges_of own)) chunks) (map (λ (c : Cluster ClusterMeta). c.meta) (ranges_of own))
  pub lengths : AllByRecursion (λ (c : Cluster ClusterMeta). c.len ≡ c.meta.len) (ranges_of own)

-- the contexts, from this number on, were joined in the order of their numbers, and each committed the first of its chunks
abbrev pub AllCommittedFrom : Table → ℕ → ℕ → List (List (List TreesData)) → List (ℕ × List (Entry ClusterMeta)) → Type 0
AllCommittedFrom t page i [] [] = Unit {0}
AllCommittedFrom t page i [] (k ∷ kept) = ⊥
AllCommittedFrom t page i (chunks ∷ others) [] = ⊥
AllCommittedFrom t page i (chunks ∷ others) (k ∷ kept) =
    (k.0 ≡ i) × CommittedFirst t page chunks k.1 × AllCommittedFrom t page (i + 1) others kept

-- a first pass keeps what each context committed, and committed nothing itself; its number is behind theirs
pub record HaveCommitted (t : Table) (page : ℕ) (chunks : List (List (List TreesData))) (number : ℕ)
    (own : List (Entry ClusterMeta)) (kept : List (ℕ × List (Entry ClusterMeta))) : Type 0 where
  pub behind : length chunks ≤ number
  pub idle : IsIdle own
  pub each : AllCommittedFrom t page 0 chunks kept
