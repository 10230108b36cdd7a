-- Which limit a script passes where it is written line by line, and how far it was written in front of a bad line.
use Rattle.std.specs.Prelude.{◌≡◌, ◌⊎◌, ℕ, ◌==◌, List, [], ◌∷◌, ◌++◌, length, Option, Some, None, if◌then◌else◌}
use Rattle.nt_lists.specs.Chunks.{chunks}
use Rattle.nt_types.specs.ShapeData.{MemberData}
use Rattle.nt_types.specs.TreeData.{TreesData}
use Rattle.nt_grammar.specs.Rows.{Rows}
use Rattle.nt_grammar.specs.Table.{Table}
use Rattle.nt_book.specs.declared.limits.LimitError.{LimitError}
use Rattle.nt_book.specs.declared.meta.ClusterMeta.{ClusterMeta}
use Rattle.nt_book.specs.declared.params.Params.{Params}
use Rattle.nt_close.specs.Passing.{passed_by_begin}
use Rattle.nt_dealing.specs.Limits.{AreKeptOf}
use Rattle.nt_script.specs.declared.error.LineFault.{LineFault}
use Rattle.nt_script.specs.declared.error.LineFault.TheVariants.{Event, Field}
use Rattle.nt_script.specs.Script.{BadScriptLine, Script, last_entries, and_field}
use Rattle.nt_script.specs.Reading.{Segment, segment_metas, behind_segments}
use Rattle.nt_script.specs.Limits.{TellsLimit, StandsWithin, PassesHere, IsOverEnd}
use Rattle.nt_script.specs.Taking.{GrowsBySegments, MakesWhole}

-- what is gathered is written before a line of this kind that is bad
abbrev pub IsOfField : LineFault → Type 0
IsOfField (Event kind) = ⊥
IsOfField (Field kind) = Unit {0}

-- and at the end
abbrev pub IsEndOrField : Option BadScriptLine → Type 0
IsEndOrField None = Unit {0}
IsEndOrField (Some b) = IsOfField b.kind

-- a segment ends here, with a line that adds a field, or is to add one, or with the text
abbrev pub EndsSegment : Script → Type 0
EndsSegment (last_entries [] bad) = IsEndOrField bad
EndsSegment (last_entries (e ∷ es) bad) = ⊥
EndsSegment (and_field [] m rest) = Unit {0}
EndsSegment (and_field (e ∷ es) m rest) = ⊥

-- these entries are written before what is read behind them: they make a whole cluster, or the last one of their segment
abbrev pub IsWrittenNext : Params → List TreesData → Script → Type 0
IsWrittenNext p next behind = MakesWhole p next ⊎ EndsSegment behind

-- a cluster of a script passes the limit that an error names, where it is written: all clusters before it pass none
pub record PassesWriting (fields : List MemberData) (p : Params) (s : Script) (error : LimitError) : Type 0 where
  pub first : Table
  pub rows : Rows fields p.plain first
  pub segments : List Segment
  pub table : Table
  pub grows : GrowsBySegments p first 0 segments table
  pub entries : List TreesData
  pub next : List TreesData
  pub passes : PassesHere table p segments entries next error
  pub behind : Script
  pub script_is : s ≡ behind_segments segments entries behind
  pub written_next : IsWrittenNext p next behind

-- these segments of a script are written, and of the last one these clusters; they pass no limit
pub record IsScriptWritten (fields : List MemberData) (p : Params) (segments : List Segment) (clusters : List (List TreesData)) : Type 0
  where
    pub first : Table
    pub rows : Rows fields p.plain first
    pub table : Table
    pub grows : GrowsBySegments p first 0 segments table
    pub own : List ClusterMeta
    pub kept : AreKeptOf table p.page clusters own
    pub within : StandsWithin table p (segment_metas segments ++ own)

-- the clusters in front of the first one that isn't whole
abbrev pub whole_clusters : ℕ → List (List TreesData) → List (List TreesData)
whole_clusters most [] = []
whole_clusters most (c ∷ cs) = if length c == most then c ∷ whole_clusters most cs else []

-- the clusters that are written of entries in front of a bad line: all where it is one that was to add a field, and else the whole ones
abbrev pub clusters_until : ℕ → LineFault → List TreesData → List (List TreesData)
clusters_until most (Event kind) es = whole_clusters most (chunks most es)
clusters_until most (Field kind) es = chunks most es

-- all that is written in front of the first bad line of a script passes no limit
pub record PassesNoneBefore (fields : List MemberData) (p : Params) (s : Script) (bad : BadScriptLine) : Type 0 where
  pub segments : List Segment
  pub entries : List TreesData
  pub script_is : s ≡ behind_segments segments [] (last_entries entries (Some bad))
  pub written : IsScriptWritten fields p segments (clusters_until p.cluster bad.kind entries)

-- all of a script is written, and passes no limit, but what closes its file does
pub record PassesClosing (fields : List MemberData) (p : Params) (s : Script) (reached limit : ℕ) : Type 0 where
  pub segments : List Segment
  pub entries : List TreesData
  pub script_is : s ≡ behind_segments segments [] (last_entries entries None)
  pub written : IsScriptWritten fields p segments (chunks p.cluster entries)
  pub over : IsOverEnd written.table p (segment_metas segments ++ written.own) reached limit

-- a script passes this limit: where its file is begun, where a cluster is written, or where its file is closed
pub data PassesLimit (fields : List MemberData) (p : Params) (s : Script) (reached limit : ℕ) : Type 0 where
  passes_begun : (t : Table) (error : LimitError) → Rows fields p.plain t → passed_by_begin p.limits t ≡ Some error
      → TellsLimit p error reached limit → PassesLimit fields p s reached limit
  passes_writing : (error : LimitError) → PassesWriting fields p s error → TellsLimit p error reached limit
      → PassesLimit fields p s reached limit
  passes_closing : PassesClosing fields p s reached limit → PassesLimit fields p s reached limit
