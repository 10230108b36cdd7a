-- What the writing of a file on a disk leaves of it and of out, before the disk is back.
use Rattle.std.specs.Prelude.{◌≡◌, ◌⊎◌, ℕ, ◌-◌, ◌<◌, ◌≤◌, List, [], ◌∷◌, ◌++◌, length, Option, Some, Result, Ok, Err}
use Rattle.nt_types.specs.ShapeData.{MemberData}
use Rattle.nt_grammar.specs.Table.{Table}
use Rattle.nt_grammar.specs.Rows.{Rows}
use Rattle.nt_outside.specs.declared.stream.Stream.TheVariants.{ToOut}
use Rattle.nt_outside.specs.Faults.{Rose}
use Rattle.nt_outside.specs.Log.{FailedAppend}
use Rattle.nt_outside.specs.Order.{FirstByteLast, BeginsOpen}
use Rattle.nt_outside.specs.Held.{Held, BecomesSome, WhereHeld, nothing_held}
use Rattle.nt_outside.specs.Disk.{DiskState}
use Rattle.nt_outside.specs.World.{World, HostState, prints}
use Rattle.nt_book.specs.declared.params.Params.{Params}
use Rattle.nt_book.specs.Books.{BookData}
use Rattle.nt_container.specs.Spelling.{begun}
use Rattle.nt_layout.specs.Headers.{header_blob, header_object, clusters_place}
use Rattle.nt_pagelists.specs.Blobs.{blob_len}
use Rattle.nt_event.specs.declared.fault.TextKind.{TextKind}
use Rattle.nt_close.specs.Steps.{begun_on}
use Rattle.nt_close.specs.Laws.{IsShut, EndsOverFirst}
use Rattle.nt_book.specs.declared.limits.LimitError.{LimitError}
use Rattle.nt_book.specs.declared.limits.LimitError.TheVariants as limit
use Rattle.nt_dealing.specs.Dealt.{commit_order}
use Rattle.nt_store.specs.declared.error.StoreError.{StoreError}
use Rattle.nt_store.specs.declared.error.StoreError.TheVariants.{Outside, Memory, Schema, Line, Limit}
use Rattle.nt_store.specs.Orders.{order_line, IsOrderOf}
use Rattle.nt_dealing.specs.Texts.{AreSound, all_chunks}
use Rattle.nt_dealing.specs.Limits.{IsOver}
use Rattle.nt_dealing.specs.Failing.{CommitsFit, FailsByLine, FailsByChunk}
use Rattle.nt_store.specs.Whole.{IsStored}

-- a fact of what a disk holds now
abbrev pub HoldsNow : Option Held → (Held → Type 0) → Type 0
HoldsNow held P = (h : Held) × (held ≡ Some h) × P h

-- nothing is known of a file, since its first append failed
abbrev pub NeverBegan : Held → Type 0
NeverBegan h = (n : ℕ) × (h.log ≡ FailedAppend n ∷ [])

-- out gained this of the line of an order of all chunks of these texts
pub record PrintsOrderPart (fields : List MemberData) (p : Params) (texts : List (List ℕ)) (w : World) (new : Option World)
    (printed behind : List ℕ) : Type 0 where
  pub order : List ℕ
  pub of : IsOrderOf p fields texts order
  pub line : order_line order ≡ printed ++ behind
  pub is : new ≡ Some (prints ToOut printed w)

-- out gained the whole line of a book's order
abbrev pub PrintsOrder : BookData → World → Option World → Type 0
PrintsOrder book w new = new ≡ Some (prints ToOut (order_line (commit_order book)) w)

-- the limit that the closing of a file passes
abbrev pub IsPassedAs : Option LimitError → ℕ → ℕ → Type 0
IsPassedAs passed reached most = (passed ≡ Some (limit.RangeTooLarge reached most)) ⊎ (passed ≡ Some (limit.FileTooLarge reached most))

-- the file is whole, and out gained the line of its order
pub record EndsWhole (fields : List MemberData) (p : Params) (texts : List (List ℕ)) (w : World) (new : Option World) (held : Option
    Held) : Type 0 where
  pub order : List ℕ
  pub file : HoldsNow held (λ h. IsStored p fields texts order h.image)
  pub printed : new ≡ Some (prints ToOut (order_line order) w)

-- what passes the limit comes before all chunks are committed: the header, or a chunk as it is committed, before which nothing fails
pub data PassesEarly (reached most : ℕ) (t : Table) (fields : List MemberData) (p : Params) (texts : List (List ℕ)) : Type 0 where
  by_header : (reached ≡ blob_len (length (header_object t))) ⊎ (reached ≡ clusters_place t) → PassesEarly reached most t fields p texts
  by_chunk : FailsByChunk t fields p texts reached most → PassesEarly reached most t fields p texts

-- or it stands behind them, once all chunks of texts without a bad line are committed
pub record PassesBehind (t : Table) (fields : List MemberData) (p : Params) (texts : List (List ℕ)) : Type 0 where
  pub sound : AreSound fields texts
  pub fit : CommitsFit t p (all_chunks p.cluster fields texts)

-- what passes a limit first, by the rows of fields, how the file is written, and the texts
abbrev pub LimitBy : Type 1
LimitBy = Table → List MemberData → Params → List (List ℕ) → Type 0

-- the chunks of the texts pass this limit, which is the first that anything fails by
pub record PassesLimitOf (By : LimitBy) (fields : List MemberData) (p : Params) (texts : List (List ℕ)) (reached most : ℕ) : Type 0 where
  pub table : Table
  pub rows : Rows fields p.plain table
  pub over : IsOver table p (all_chunks p.cluster fields texts) reached most
  pub by : By table fields p texts

-- a text has this first bad line, before which nothing fails
pub record FailsAtLine (fields : List MemberData) (p : Params) (texts : List (List ℕ)) (input line : ℕ) (kind : TextKind) : Type 0 where
  pub table : Table
  pub rows : Rows fields p.plain table
  pub fails : FailsByLine table fields p texts input line kind

-- what the writing of a file from its fields and texts leaves, by the answer. Out gains the line of the order only once all chunks are
-- committed: whole where memory or a limit ends it then, and a part of it where the outside fails. Where that failed and the file is whole
-- nevertheless, the last step was over its first byte, or a sync behind that failed
abbrev pub FileTold : List MemberData → Params → List (List ℕ) → World → Option World → Option Held → Result Unit StoreError → Type 0
FileTold fields p texts w new held (Ok done) = EndsWhole fields p texts w new held
FileTold fields p texts w new held (Err Outside) =
    ((new ≡ Some w) × HoldsNow held (λ h. BeginsOpen h.image ⊎ NeverBegan h))
    ⊎ (((printed behind : List ℕ) × PrintsOrderPart fields p texts w new printed behind × HoldsNow held (λ h. BeginsOpen h.image))
    ⊎ ((ends : EndsWhole fields p texts w new held) × EndsOverFirst ends.file.0.log))
FileTold fields p texts w new held (Err Memory) =
    ((new ≡ Some w) × HoldsNow held (λ h. BeginsOpen h.image))
    ⊎ ((line : List ℕ) × PrintsOrderPart fields p texts w new line [] × HoldsNow held (λ h. BeginsOpen h.image))
FileTold fields p texts w new held (Err (Limit reached most)) =
    (PassesLimitOf (PassesEarly reached most) fields p texts reached most × (new ≡ Some w) × HoldsNow held (λ h. BeginsOpen h.image))
    ⊎ ((line : List ℕ) × PassesLimitOf PassesBehind fields p texts reached most × PrintsOrderPart fields p texts w new line []
    × HoldsNow held (λ h. BeginsOpen h.image))
FileTold fields p texts w new held (Err (Line input line kind)) =
    FailsAtLine fields p texts input line kind × (new ≡ Some w) × HoldsNow held (λ h. BeginsOpen h.image)
FileTold fields p texts w new held (Err (Schema line kind)) = ⊥

-- steps that were in order still are, where the first byte was 0
abbrev pub KeepsOrder : Option Held → Option Held → Type 0
KeepsOrder old new = BecomesSome old new (λ h h'. IsShut h.image → FirstByteLast h.log → FirstByteLast h'.log)

-- where the disk held this, its steps are in order now
abbrev pub IsInOrderFrom : Held → Option Held → Option Held → Type 0
IsInOrderFrom begun old new = old ≡ Some begun → HoldsNow new (λ h. FirstByteLast h.log)

-- the count of a host never falls; where the outside failed it rose, or the disk has failed
pub record FailsOnEither (disk : DiskState) (old new : HostState) (result : Result Unit StoreError) : Type 0 where
  pub later : old.faults ≤ new.faults
  pub failed : result ≡ Err Outside → (0 < disk.faults) ⊎ Rose old.faults new.faults

-- what is held of a file of this schema that is begun
abbrev pub as_begun : Table → Held
as_begun t = begun_on (begun 0 0 0) (header_blob t) nothing_held

-- a disk on which nothing was written
pub record IsEmptyDisk (disk : DiskState) : Type 0 where
  pub held : WhereHeld disk.held (λ h. h ≡ nothing_held)
  pub end : disk.end ≡ 0
  pub out : disk.out ≡ []

-- nothing was asked for, as many objects are out, and no print on err failed
pub record AsksNothing (old new : HostState) : Type 0 where
  pub asked : new.asked ≡ old.asked
  pub err_faults : new.err_faults ≡ old.err_faults
  pub opened : new.opened ≡ old.opened

-- nothing was asked for, and so many texts that were out came back
pub record TakesTextsBack (texts : ℕ) (old new : HostState) : Type 0 where
  pub asked : new.asked ≡ old.asked
  pub err_faults : new.err_faults ≡ old.err_faults
  pub opened : new.opened ≡ old.opened - texts
