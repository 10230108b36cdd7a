-- Which chunks of texts are written where one of the texts fails, and why it does.
use Rattle.std.specs.Prelude.{◌≡◌, ◌⊎◌, ℕ, ◌+◌, ◌==◌, ◌<◌, ◌≤◌, List, [], ◌∷◌, ◌++◌, length, take, filter, Some, None, slice_get}
use Rattle.std.specs.List.{AllByRecursion, sum_by}
use Rattle.nt_types.specs.ShapeData.{MemberData}
use Rattle.nt_types.specs.TreeData.{TreesData}
use Rattle.nt_event.specs.declared.fault.TextKind.{TextKind}
use Rattle.nt_grammar.specs.Table.{Table}
use Rattle.nt_machine.specs.declared.entry.Entry.{Entry}
use Rattle.nt_machine.specs.History.{ranges_of}
use Rattle.nt_book.specs.declared.meta.ClusterMeta.{ClusterMeta}
use Rattle.nt_book.specs.declared.params.Params.{Params}
use Rattle.nt_book.specs.declared.limits.LimitError.{LimitError}
use Rattle.nt_book.specs.declared.limits.LimitError.TheVariants as limit
use Rattle.nt_layout.specs.Headers.{clusters_place}
use Rattle.nt_dealing.specs.Lengths.{page_list_len}
use Rattle.nt_dealing.specs.Texts.{events_of, text_chunks, chunks_of, all_chunks, joined_chunks, IsFirstBad}
use Rattle.nt_dealing.specs.Limits.{IsKeptOf, AreKeptOf, IsOver}

-- those of some chunks that have so many entries: each is written as soon as it is gathered
abbrev pub whole_chunks : ℕ → List (List TreesData) → List (List TreesData)
whole_chunks most chunks = filter (λ chunk. length chunk == most) chunks

-- the chunks of all texts before this one, and then these
abbrev pub chunks_before : List (List (List TreesData)) → ℕ → List (List TreesData) → List (List TreesData)
chunks_before chunks input own = joined_chunks (take input chunks) ++ own

-- the chunks that contexts committed, one context behind the other: the first of each context's, as many as it has ranges
abbrev pub committed_chunks : List (List (List TreesData)) → List (ℕ × List (Entry ClusterMeta)) → List (List TreesData)
committed_chunks [] kept = []
committed_chunks (own ∷ others) [] = []
committed_chunks (own ∷ others) (k ∷ kept) = take (length (ranges_of k.1)) own ++ committed_chunks others kept

-- these chunks pass no limit as they are committed behind the header, in whatever order: none is longer than a range may get, the last ends
-- where a file may, and they are no more than its clusters may be
pub record CommitsFit (t : Table) (p : Params) (chunks : List (List TreesData)) : Type 0 where
  pub metas : List ClusterMeta
  pub kept : AreKeptOf t p.page chunks metas
  pub short : AllByRecursion (λ (m : ClusterMeta). m.len ≤ p.limits.range) metas
  pub file : 0 < length chunks → clusters_place t + sum_by (λ (m : ClusterMeta). m.len) metas ≤ p.limits.file
  pub few : length chunks ≤ p.limits.clusters

-- a chunk passes this limit as it is committed, behind others or first
pub data ChunkPasses (t : Table) (p : Params) (chunk : List TreesData) (reached limit : ℕ) : Type 0 where
  chunk_too_long : (m : ClusterMeta) → IsKeptOf t p.page chunk m → reached ≡ m.len → limit ≡ p.limits.range
      → ChunkPasses t p chunk reached limit
  -- the page list that comes before it, of others that fill a group
  list_too_long : (others : List (List TreesData)) (metas : List ClusterMeta) → length others ≡ p.group
      → AreKeptOf t p.page others metas → reached ≡ page_list_len metas → limit ≡ p.limits.range → ChunkPasses t p chunk reached limit
  chunk_too_far : (m : ClusterMeta) → IsKeptOf t p.page chunk m → clusters_place t + m.len ≤ reached → limit ≡ p.limits.file
      → ChunkPasses t p chunk reached limit
  chunk_too_many : reached ≡ p.limits.clusters + 1 → limit ≡ p.limits.clusters → ChunkPasses t p chunk reached limit

-- the same of a limit that an error names
abbrev pub ChunkPassesBy : Table → Params → List TreesData → LimitError → Type 0
ChunkPassesBy t p chunk (limit.RangeTooLarge len most) = ChunkPasses t p chunk len most
ChunkPassesBy t p chunk (limit.FileTooLarge end most) = ChunkPasses t p chunk end most
ChunkPassesBy t p chunk limit.TooManyClusters = ChunkPasses t p chunk (p.limits.clusters + 1) p.limits.clusters

-- a text has this first bad line, and nothing fails before it: no text before this one has a bad line, and the chunks that are written
-- before the line is read pass no limit, those of the texts before it and its own whole ones
pub record FailsByLine (t : Table) (fields : List MemberData) (p : Params) (texts : List (List ℕ)) (input line : ℕ) (kind : TextKind)
    : Type 0 where
  pub first : IsFirstBad fields texts input line kind
  pub fit : CommitsFit t p (chunks_before (chunks_of p.cluster fields texts) input (whole_chunks p.cluster (text_chunks p.cluster fields
      first.text)))

-- a chunk of a text passes this limit as it is committed, and nothing fails before it: no text before this one has a bad line, and the
-- chunks of the texts before it, with its own that come first, pass no limit
pub record FailsByChunk (t : Table) (fields : List MemberData) (p : Params) (texts : List (List ℕ)) (reached limit : ℕ) : Type 0 where
  pub input : ℕ
  pub text : List ℕ
  pub at : slice_get texts input ≡ Some text
  pub lower : (j : ℕ) (other : List ℕ) → j < input → slice_get texts j ≡ Some other → (events_of fields other).bad ≡ None
  pub number : ℕ
  pub chunk : List TreesData
  pub is_next : slice_get (text_chunks p.cluster fields text) number ≡ Some chunk
  -- it is written: since it is whole, or since its text ends without a bad line
  pub is_written : (length chunk ≡ p.cluster) ⊎ ((events_of fields text).bad ≡ None)
  pub fit : CommitsFit t p (chunks_before (chunks_of p.cluster fields texts) input (take number (text_chunks p.cluster fields text)))
  pub passes : ChunkPasses t p chunk reached limit
  -- so the file of all chunks passes it
  pub over : IsOver t p (all_chunks p.cluster fields texts) reached limit
