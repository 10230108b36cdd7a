-- What a writer has done with the lines of a script.
use Rattle.std.specs.Prelude.{◌≡◌, ℕ, ◌+◌, ◌<◌, true, List, [], ◌∷◌, ◌++◌, map, length}
use Rattle.std.specs.Prelude.{Result, Ok, Err, is_some}
use Rattle.std.specs.List.{AllByRecursion, flat_map}
use Rattle.nt_lists.specs.Chunks.{chunks}
use Rattle.nt_types.specs.ShapeData.{MemberData, parts_of}
use Rattle.nt_types.specs.TreeData.{TreesData}
use Rattle.nt_types.specs.Names.{has_name}
use Rattle.nt_types.specs.Rules.{AreFields}
use Rattle.nt_types.specs.Fits.{fit_parts}
use Rattle.nt_types.specs.Schema.{parts_count}
use Rattle.nt_trees.specs.Fits.{fits_entry}
use Rattle.nt_grammar.specs.Added.{Added}
use Rattle.nt_grammar.specs.Table.{Table}
use Rattle.nt_schema.specs.ByName.{find_from}
use Rattle.nt_outside.specs.Disk.{DiskState}
use Rattle.nt_machine.specs.History.{Cluster}
use Rattle.nt_book.specs.declared.meta.ClusterMeta.{ClusterMeta}
use Rattle.nt_book.specs.Books.{BookData, book_clusters}
use Rattle.nt_dealing.specs.Limits.{AreKeptOf}
use Rattle.nt_book.specs.declared.params.Params.{Params}
use Rattle.nt_seq.specs.Writer.{SeqState, gathered_by}
use Rattle.nt_seq.specs.Written.{HasWritten}
use Rattle.nt_script.specs.declared.error.ScriptError.{ScriptError}
use Rattle.nt_script.specs.declared.error.ScriptError.TheVariants.{Line, Limit, Outside, Memory}
use Rattle.nt_script.specs.Clusters.{clusters_before}
use Rattle.nt_script.specs.Reading.{Segment, segment_fields, segment_metas}
use Rattle.nt_script.specs.Limits.{StandsWithin, PassesHere}

-- the clusters of segments that are over
abbrev pub clusters_of_segments : ℕ → List Segment → List (List TreesData)
clusters_of_segments most [] = []
clusters_of_segments most (s ∷ segments) =
    clusters_before most (s.field ∷ segment_fields segments) s.entries ++ clusters_of_segments most segments

-- a table grew by the fields of segments, whose clusters were written by the fields before theirs
abbrev pub GrowsBySegments : Params → Table → ℕ → List Segment → Table → Type 0
GrowsBySegments p t before [] new = new ≡ t
GrowsBySegments p t before (s ∷ segments) new =
    (u : Table) × Added t s.field p.plain (before + length s.entries) u × AreKeptOf t p.page (chunks p.cluster s.entries) s.metas
    × GrowsBySegments p u (before + length s.entries) segments new

-- what is kept of the clusters of a book
abbrev pub metas_of : BookData → List ClusterMeta
metas_of book = map (λ (c : Cluster ClusterMeta). c.meta) (book_clusters book)

-- a book keeps what was written of segments, and of these clusters behind them
pub record KeepsClusters {D : Type 0} (segments : List Segment) (clusters : List (List TreesData)) (w : SeqState D) : Type 0 where
  pub own : List ClusterMeta
  pub kept : AreKeptOf w.table w.params.page clusters own
  pub metas : metas_of w.book ≡ segment_metas segments ++ own

-- a table has just these fields, which keep the rules of a schema text: their names, their number and what fits them
pub record HasJustFields (fields : List MemberData) (t : Table) : Type 0 where
  pub rules : AreFields fields
  pub names : (name : List ℕ) → is_some (find_from 0 t.fields name) ≡ has_name (map (λ (p : MemberData). p.name) fields) name
  pub count : length t.fields ≡ parts_count (parts_of fields)
  pub fits : (entry : TreesData) → fits_entry t entry ≡ fit_parts (parts_of fields) entry

-- the schema of a writer grew by the fields of segments to that of these fields
pub record HasGrownBy {D : Type 0} (first : Table) (fields : List MemberData) (segments : List Segment) (w : SeqState D) : Type 0 where
  pub grows : GrowsBySegments w.params first 0 segments w.table
  pub just : HasJustFields fields w.table

module _ {D : Type 0} (state : D → DiskState) where
  -- these segments, and of the one that goes on these entries, were taken: whole clusters of them were written, and the rest is gathered
  pub record HasTakenLines (segments : List Segment) (es : List TreesData) (w : SeqState D) : Type 0 where
    pub full : List (List TreesData)
    pub written : HasWritten state w (clusters_of_segments w.params.cluster segments ++ full)
    pub sizes : AllByRecursion (λ (chunk : List TreesData). length chunk ≡ w.params.cluster) full
    pub whole : es ≡ flat_map (λ (chunk : List TreesData). chunk) full ++ gathered_by w
    pub keeps : KeepsClusters segments full w

  -- all of it was written
  pub record HasWrittenLines (segments : List Segment) (es : List TreesData) (w : SeqState D) : Type 0 where
    pub written : HasWritten state w (clusters_of_segments w.params.cluster segments ++ chunks w.params.cluster es)
    pub none : gathered_by w ≡ []
    pub keeps : KeepsClusters segments (chunks w.params.cluster es) w

module _ {D : Type 0} where
  -- table and parameters are as before, and the writer is alive
  pub record HasSameSchema (old new : SeqState D) : Type 0 where
    pub table : new.table ≡ old.table
    pub params : new.params ≡ old.params
    pub alive : new.alive ≡ true

  -- the writer is alive, and has gathered no whole cluster
  pub record IsOpenWriter (w : SeqState D) : Type 0 where
    pub alive : w.alive ≡ true
    pub room : length (gathered_by w) < w.params.cluster

-- what a writer has written stands within its limits
abbrev pub StaysInLimits : {D : Type 0} → SeqState D → Type 0
StaysInLimits w = StandsWithin w.table w.params (metas_of w.book)

-- nothing is gathered any more
pub record IsFlushed {D : Type 0} (old new : SeqState D) : Type 0 where
  pub none : gathered_by new ≡ []
  pub same : HasSameSchema old new

-- entries make a whole cluster
abbrev pub MakesWhole : Params → List TreesData → Type 0
MakesWhole p next = length next ≡ p.cluster

module _ {D : Type 0} (state : D → DiskState) where
  -- why what was taken isn't written: the next cluster, which is such, passes a limit, the disk has failed, or memory was wanting
  abbrev pub HaltsAt : (List TreesData → Type 0) → Table → Params → List Segment → List TreesData → SeqState D → ScriptError → Type 0
  HaltsAt IsNext t p segments es new (Line line kind) = ⊥
  HaltsAt IsNext t p segments es new (Limit error) = (next : List TreesData) × IsNext next × PassesHere t p segments es next error
  HaltsAt IsNext t p segments es new Outside = 0 < (state new.disk).faults
  HaltsAt IsNext t p segments es new Memory = Unit {0}

  -- what is gathered was written, or why not
  abbrev pub WritesGathered : List Segment → List TreesData → SeqState D → SeqState D → Result Unit ScriptError → Type 0
  WritesGathered segments es old new (Ok done) = HasWrittenLines state segments es new × HasSameSchema old new
  WritesGathered segments es old new (Err error) =
      HaltsAt (λ next. next ≡ gathered_by old) old.table old.params segments es new error

  -- the same of a whole cluster: then the writer goes on
  abbrev pub WritesWhole : List Segment → List TreesData → SeqState D → SeqState D → Result Unit ScriptError → Type 0
  WritesWhole segments es old new (Ok done) =
      HasTakenLines state segments es new × IsOpenWriter new × HasSameSchema old new
  WritesWhole segments es old new (Err error) = HaltsAt (MakesWhole old.params) old.table old.params segments es new error
