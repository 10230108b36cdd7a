-- How far a script was read, where its text is told.
use Rattle.std.specs.Prelude.{◌≡◌, ℕ, ◌+◌, List, [], ◌∷◌, ◌++◌, map, Option, Some, None}
use Rattle.nt_types.specs.ShapeData.{MemberData}
use Rattle.nt_types.specs.TreeData.{TreesData}
use Rattle.nt_event.specs.Lines.{LinesState}
use Rattle.nt_book.specs.declared.meta.ClusterMeta.{ClusterMeta}
use Rattle.nt_dealing.specs.EventText.{text_lines}
use Rattle.nt_script.specs.Script.{Script, and_field, with_entries, script_of_lines, read_script}

-- a segment that is over: its entries, the field that was added behind them, and what is kept of its clusters
pub record Segment : Type 0 where
  pub entries : List TreesData
  pub field : MemberData
  pub metas : List ClusterMeta

-- the fields that were added behind segments
abbrev pub segment_fields : List Segment → List MemberData
segment_fields segments = map (λ (s : Segment). s.field) segments

-- what is kept of the clusters of segments
abbrev pub segment_metas : List Segment → List ClusterMeta
segment_metas [] = []
segment_metas (s ∷ segments) = s.metas ++ segment_metas segments

-- segments that are over, the entries of the one that goes on, and what is read behind these
abbrev pub behind_segments : List Segment → List TreesData → Script → Script
behind_segments [] es rest = with_entries es rest
behind_segments (s ∷ segments) es rest = and_field s.entries s.field (behind_segments segments es rest)

-- what is left of a text gives what comes behind these segments and entries
pub record GivesScriptRest (F : List MemberData) (text : List ℕ) (segments : List Segment) (es : List TreesData) (now : LinesState) :
    Type 0 where
  pub rest : List ℕ
  pub left : now.left ≡ Some rest
  pub whole : read_script F text
      ≡ behind_segments segments es (script_of_lines (F ++ segment_fields segments) (now.number + 1) (text_lines rest))

-- these segments and entries were read, if the text is told
abbrev pub HasReadScript : List MemberData → Option (List ℕ) → List Segment → List TreesData → LinesState → Type 0
HasReadScript F None segments es now = Unit {0}
HasReadScript F (Some text) segments es now = GivesScriptRest F text segments es now

-- the text gives just this, if it is told
abbrev pub GivesScript : List MemberData → Option (List ℕ) → Script → Type 0
GivesScript F None s = Unit {0}
GivesScript F (Some text) s = read_script F text ≡ s
