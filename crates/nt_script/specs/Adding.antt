-- What a writer does with the field of a line.
use Rattle.std.specs.Prelude.{◌≡◌, ◌≢◌, ◌<◌, ℕ, List, [], ◌∷◌, ◌++◌, Result, Ok, Err}
use Rattle.nt_types.specs.ShapeData.{MemberData}
use Rattle.nt_types.specs.TreeData.{TreesData}
use Rattle.nt_types.specs.Lines.{member_of}
use Rattle.nt_event.specs.declared.lines.Line as given
use Rattle.nt_outside.specs.Disk.{DiskState}
use Rattle.nt_grammar.specs.Table.{Table}
use Rattle.nt_book.specs.declared.meta.ClusterMeta.{ClusterMeta}
use Rattle.nt_seq.specs.Writer.{SeqState}
use Rattle.nt_script.specs.declared.error.LineFault.TheVariants.{Event, Field}
use Rattle.nt_script.specs.declared.error.ScriptError.{ScriptError}
use Rattle.nt_script.specs.declared.error.ScriptError.TheVariants.{Line, Limit, Outside, Memory}
use Rattle.nt_script.specs.Script.{behind_plus, beside}
use Rattle.nt_script.specs.Reading.{Segment}
use Rattle.nt_script.specs.Taking.{HasGrownBy, HasTakenLines, HasWrittenLines, IsOpenWriter}

-- what is wrong with what a line says of its field, or memory is wanting
abbrev pub IsMemberError : given.Line → ScriptError → Type 0
IsMemberError line (Line number (Event kind)) = ⊥
IsMemberError line (Line number (Field kind)) = (number ≡ line.number) × (member_of (behind_plus line.bytes) ≡ Err kind)
IsMemberError line (Limit error) = ⊥
IsMemberError line Outside = ⊥
IsMemberError line Memory = Unit {0}

-- what stands against a field beside these, or memory is wanting
abbrev pub IsBesideError : List MemberData → MemberData → ℕ → ScriptError → Type 0
IsBesideError F m line (Line number (Event kind)) = ⊥
IsBesideError F m line (Line number (Field kind)) = (number ≡ line) × (beside F m ≡ Err kind)
IsBesideError F m line (Limit error) = ⊥
IsBesideError F m line Outside = ⊥
IsBesideError F m line Memory = Unit {0}

module _ {D : Type 0} (state : D → DiskState) (first : Table) where
  -- all that was taken by these fields is written
  pub record IsWrittenOut (F : List MemberData) (segments : List Segment) (es : List TreesData) (w : SeqState D) : Type 0 where
    pub grown : HasGrownBy first F segments w
    pub written : HasWrittenLines state segments es w
    pub some : 0 < w.params.cluster

  -- a field was added behind it
  pub record GainsFieldBehind (F G : List MemberData) (m : MemberData) (segments : List Segment) (es : List TreesData)
      (old new : SeqState D) : Type 0 where
    pub beside_is : beside F m ≡ Ok m
    pub fields : G ≡ F ++ m ∷ []
    pub metas : List ClusterMeta
    pub grown : HasGrownBy first G (segments ++ record { entries = es; field = m; metas = metas } ∷ []) new
    pub taken : HasTakenLines state (segments ++ record { entries = es; field = m; metas = metas } ∷ []) [] new
    pub is_open : IsOpenWriter new
    pub params : new.params ≡ old.params

  -- the same, or why not; then nothing changed, unless memory was wanting
  abbrev pub ExtendsScript : List MemberData → List MemberData → MemberData → List Segment → List TreesData → ℕ → SeqState D → SeqState D
      → Result Unit ScriptError → Type 0
  ExtendsScript F G m segments es line old new (Ok done) = GainsFieldBehind F G m segments es old new
  ExtendsScript F G m segments es line old new (Err error) = IsBesideError F m line error × (error ≢ Memory → new ≡ old)
