-- What a context does with a line, and with what it has gathered.
use Rattle.std.specs.Prelude.{◌≡◌, ◌⊎◌, Bool, true, false, List, [], ◌∷◌, ◌++◌, length, Result, Ok, Err}
use Rattle.nt_types.specs.ShapeData.{MembersData}
use Rattle.nt_types.specs.TreeData.{TreesData}
use Rattle.nt_types.specs.Lines.{is_blank_line}
use Rattle.nt_outside.specs.Disk.{DiskState}
use Rattle.nt_lists.specs.Chunks.{chunks}
use Rattle.nt_event.specs.declared.lines.Line.{Line}
use Rattle.nt_event.specs.declared.lines.LineError.{LineError}
use Rattle.nt_event.specs.Entry.{entry_of}
use Rattle.nt_event.specs.Lines.{LinesState, IsNextLine, StaysAtEnd, GivesLine}
use Rattle.nt_fill.specs.Context.{gathered}
use Rattle.nt_fill.specs.Flushes.{DiskContext, WritesCluster}
use Rattle.nt_contexts.specs.declared.error.ContextError.{ContextError}
use Rattle.nt_contexts.specs.declared.error.ContextError.TheVariants.{Text, Limit, Outside, Memory}
use Rattle.nt_contexts.specs.Filling.{HasTaken, IsOpen, IsEmptied, IsSameContext, HasCommitted, HasWrittenChunks, HasWrittenAll, Halts}
use Rattle.nt_contexts.specs.Running.{error_of_line}

-- what is wrong with a line
abbrev pub IsEntryError : MembersData → Line → ContextError → Type 0
IsEntryError F line (Text number kind) = (number ≡ line.number) × (entry_of F line.bytes ≡ Err kind)
IsEntryError F line (Limit error) = ⊥
IsEntryError F line Outside = ⊥
IsEntryError F line Memory = Unit {0}

-- a line that isn't blank has this entry
pub record HasEntry (F : MembersData) (line : Line) (entry : TreesData) : Type 0 where
  pub full : is_blank_line line.bytes ≡ false
  pub is : entry_of F line.bytes ≡ Ok entry

module _ {D P : Type 0} where
  -- no entry was taken of a line that isn't blank, for this reason, and nothing changed
  pub record TakesNone (F : MembersData) (line : Line) (old new : DiskContext D P) (error : ContextError) : Type 0 where
    pub full : is_blank_line line.bytes ≡ false
    pub why : IsEntryError F line error
    pub now : new ≡ old

  module _ (state : D → DiskState) where
    -- the gathered entries were written as a cluster; or why not, whatever chunks were committed before them and come behind
    abbrev pub WritesChunk : DiskContext D P → DiskContext D P → Result Unit ContextError → Type 0
    WritesChunk old new (Ok done) = WritesCluster state old new
    WritesChunk old new (Err error) = (full others : List (List TreesData)) → HasCommitted old.table old.page full old.pass.own
        → Halts state (λ chunk. chunk ≡ gathered old) (full ++ gathered old ∷ others) old new error

    -- these entries are taken, and the context goes on
    pub record GoesOnWith (entries : List TreesData) (old new : DiskContext D P) : Type 0 where
      pub taken : HasTaken state entries new
      pub is_open : IsOpen new
      pub same : IsSameContext old new

    -- whatever entries come behind these, the context wrote no more of their chunks than the first; a next that passes a limit is whole
    abbrev pub HaltsWith : List TreesData → DiskContext D P → DiskContext D P → ContextError → Type 0
    HaltsWith entries old new error = (rest : List TreesData)
        → Halts state (λ chunk. length chunk ≡ old.cluster) (chunks old.cluster (entries ++ rest)) old new error

    -- of a context that has taken these entries: the gathered ones were written if they are a whole cluster, or why not
    abbrev pub WritesFull : List TreesData → DiskContext D P → DiskContext D P → Result Unit ContextError → Type 0
    WritesFull entries old new (Ok done) = GoesOnWith entries old new
    WritesFull entries old new (Err error) = HaltsWith entries old new error

    -- a line was blank, or its entry was taken behind these
    abbrev pub TakesEntry : MembersData → List TreesData → Line → DiskContext D P → DiskContext D P → Type 0
    TakesEntry F entries line old new =
        ((is_blank_line line.bytes ≡ true) × (new ≡ old)) ⊎ ((entry : TreesData) × HasEntry F line entry
        × GoesOnWith (entries ++ entry ∷ []) old new)

    -- of a context that has taken these entries: it took a line, or why not
    abbrev pub TakesTextLine : MembersData → List TreesData → Line → DiskContext D P → DiskContext D P → Result Unit ContextError → Type 0
    TakesTextLine F entries line old new (Ok done) = TakesEntry F entries line old new
    TakesTextLine F entries line old new (Err error) =
        TakesNone F line old new error ⊎ ((entry : TreesData) × HasEntry F line entry × HaltsWith (entries ++ entry ∷ []) old new error)

    -- of a context that has taken these entries, and no more come: what is gathered was written too, or why not
    abbrev pub WritesRest : List TreesData → DiskContext D P → DiskContext D P → Result Unit ContextError → Type 0
    WritesRest entries old new (Ok done) = HasWrittenChunks state entries new × IsEmptied new × IsSameContext old new
    WritesRest entries old new (Err error) = Halts state (λ chunk. Unit {0}) (chunks old.cluster entries) old new error

    -- of a context that wrote these entries: staged clusters were published, or why not
    abbrev pub PublishesAll : List TreesData → DiskContext D P → DiskContext D P → Result Unit ContextError → Type 0
    PublishesAll entries old new (Ok done) = HasWrittenAll state entries new × IsSameContext old new
    PublishesAll entries old new (Err error) = Halts state (λ chunk. Unit {0}) (chunks old.cluster entries) old new error

    -- the line that came next was taken, or why not; or none was
    abbrev pub TakesReady : MembersData → List TreesData → LinesState → LinesState → DiskContext D P → DiskContext D P
        → Result Bool ContextError → Type 0
    TakesReady F entries was is old new (Ok true) = (line : Line) × IsNextLine was is line × TakesEntry F entries line old new
    TakesReady F entries was is old new (Ok false) = Unit {0}
    TakesReady F entries was is old new (Err error) =
        (line : Line) × IsNextLine was is line × TakesTextLine F entries line old new (Err error)

    -- the next line was taken, or there is none; or why not: the line, or that it wasn't given
    abbrev pub TakesNextLine : MembersData → List TreesData → LinesState → LinesState → DiskContext D P → DiskContext D P
        → Result Bool ContextError → Type 0
    TakesNextLine F entries was is old new (Ok true) = (line : Line) × IsNextLine was is line × TakesEntry F entries line old new
    TakesNextLine F entries was is old new (Ok false) = StaysAtEnd was is × (new ≡ old)
    TakesNextLine F entries was is old new (Err error) =
        ((line : Line) × IsNextLine was is line × TakesTextLine F entries line old new (Err error))
        ⊎ ((why : LineError) × (error ≡ error_of_line why) × GivesLine was is (Err why) × (new ≡ old))
