-- What a writer does with one line of a script.
use Rattle.std.specs.Prelude.{◌≡◌, ◌≢◌, ◌⊎◌, true, false, List, [], ◌∷◌, ◌++◌, Result, Ok, Err}
use Rattle.nt_types.specs.ShapeData.{MemberData, parts_of}
use Rattle.nt_types.specs.TreeData.{TreesData}
use Rattle.nt_types.specs.Lines.{is_blank_line}
use Rattle.nt_event.specs.Entry.{entry_of}
use Rattle.nt_event.specs.declared.lines.Line as given
use Rattle.nt_outside.specs.Disk.{DiskState}
use Rattle.nt_grammar.specs.Table.{Table}
use Rattle.nt_book.specs.declared.meta.ClusterMeta.{ClusterMeta}
use Rattle.nt_seq.specs.Writer.{SeqState}
use Rattle.nt_script.specs.declared.error.LineFault.TheVariants.{Event, Field}
use Rattle.nt_script.specs.declared.error.ScriptError.{ScriptError}
use Rattle.nt_script.specs.declared.error.ScriptError.TheVariants.{Line, Limit, Outside, Memory}
use Rattle.nt_script.specs.Script.{field_added}
use Rattle.nt_script.specs.Reading.{Segment}
use Rattle.nt_script.specs.Taking.{HasGrownBy, HasTakenLines, HasWrittenLines, HasSameSchema, IsOpenWriter, MakesWhole, HaltsAt}
use Rattle.nt_script.specs.Taking.{StaysInLimits}

-- what is wrong with a line of events by these fields, or memory is wanting
abbrev pub IsEventError : List MemberData → given.Line → ScriptError → Type 0
IsEventError F line (Line number (Event kind)) = (number ≡ line.number) × (entry_of (parts_of F) line.bytes ≡ Err kind)
IsEventError F line (Line number (Field kind)) = ⊥
IsEventError F line (Limit error) = ⊥
IsEventError F line Outside = ⊥
IsEventError F line Memory = Unit {0}

-- what is wrong with a line that adds a field to these, or memory is wanting
abbrev pub IsFieldError : List MemberData → given.Line → ScriptError → Type 0
IsFieldError F line (Line number (Event kind)) = ⊥
IsFieldError F line (Line number (Field kind)) = (number ≡ line.number) × (field_added F line.bytes ≡ Err kind)
IsFieldError F line (Limit error) = ⊥
IsFieldError F line Outside = ⊥
IsFieldError F line Memory = Unit {0}

-- a line that isn't blank has this entry
pub record IsEntryLine (F : List MemberData) (line : given.Line) (entry : TreesData) : Type 0 where
  pub full : is_blank_line line.bytes ≡ false
  pub is : entry_of (parts_of F) line.bytes ≡ Ok entry

module _ {D : Type 0} (state : D → DiskState) where
  -- these entries of a segment are taken, and the writer goes on
  pub record TakesEntries (segments : List Segment) (es : List TreesData) (old new : SeqState D) : Type 0 where
    pub taken : HasTakenLines state segments es new
    pub is_open : IsOpenWriter new
    pub same : HasSameSchema old new

  -- of a writer that has taken these lines: a line of events was blank, or its entry is taken too; or why not
  abbrev pub TakesEvent : List MemberData → List Segment → List TreesData → given.Line → SeqState D → SeqState D → Result Unit ScriptError
      → Type 0
  TakesEvent F segments es line old new (Ok done) =
      ((is_blank_line line.bytes ≡ true) × (new ≡ old))
      ⊎ ((entry : TreesData) × IsEntryLine F line entry × TakesEntries segments (es ++ entry ∷ []) old new)
  TakesEvent F segments es line old new (Err error) =
      ((is_blank_line line.bytes ≡ false) × IsEventError F line error)
      ⊎ ((entry : TreesData) × IsEntryLine F line entry
      × HaltsAt state (MakesWhole old.params) old.table old.params segments (es ++ entry ∷ []) new error)

  -- a field was added behind these lines, all of which are written
  pub record GainsScriptField (first : Table) (F G : List MemberData) (segments : List Segment) (es : List TreesData) (line : given.Line)
      (old new : SeqState D) : Type 0 where
    pub field : MemberData
    pub read : field_added F line.bytes ≡ Ok field
    pub fields : G ≡ F ++ field ∷ []
    pub metas : List ClusterMeta
    pub grown : HasGrownBy first G (segments ++ record { entries = es; field = field; metas = metas } ∷ []) new
    pub taken : HasTakenLines state (segments ++ record { entries = es; field = field; metas = metas } ∷ []) [] new
    pub is_open : IsOpenWriter new
    pub params : new.params ≡ old.params

  -- all of these lines is written, by the schema as it was, and stands within the limits
  pub record WritesBeforeField (segments : List Segment) (es : List TreesData) (old new : SeqState D) : Type 0 where
    pub written : HasWrittenLines state segments es new
    pub same : HasSameSchema old new
    pub stands : StaysInLimits new

  -- a field wasn't added, and all lines before it are written nevertheless, unless memory was wanting
  pub record RefusesField (F : List MemberData) (segments : List Segment) (es : List TreesData) (line : given.Line)
      (old new : SeqState D) (error : ScriptError) : Type 0 where
    pub why : IsFieldError F line error
    pub before : error ≢ Memory → WritesBeforeField segments es old new

  -- of a writer that has taken these lines: they are written first, whatever the line says, and a field is added behind them; or why not
  abbrev pub TakesField : Table → List MemberData → List MemberData → List Segment → List TreesData → given.Line → SeqState D → SeqState D
      → Result Unit ScriptError → Type 0
  TakesField first F G segments es line old new (Ok done) = GainsScriptField first F G segments es line old new
  TakesField first F G segments es line old new (Err error) =
      RefusesField F segments es line old new error ⊎ HaltsAt state (λ next. Unit {0}) old.table old.params segments es new error
