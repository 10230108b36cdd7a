-- What the writing of a file from texts leaves of a host.
use Rattle.std.specs.Prelude.{◌≡◌, ◌⊎◌, ℕ, List, [], ◌∷◌, ◌++◌, map, Some, Result, Ok, Err}
use Rattle.nt_types.specs.ShapeData.{MemberData}
use Rattle.nt_types.specs.Schema.{schema_text, at_line}
use Rattle.nt_event.specs.declared.fault.TextKind.{TextKind}
use Rattle.nt_grammar.specs.Table.{Table}
use Rattle.nt_grammar.specs.Rows.{Rows}
use Rattle.nt_book.specs.declared.params.Params.{Params}
use Rattle.nt_close.specs.Laws.{EndsOverFirst}
use Rattle.nt_outside.specs.World.{World, Asked, Text, Out, HostState, file}
use Rattle.nt_store.specs.declared.error.StoreError.{StoreError}
use Rattle.nt_store.specs.declared.error.StoreError.TheVariants.{Outside, Memory, Schema, Line, Limit}
use Rattle.nt_store.specs.Orders.{order_line, GainsOrderPart}
use Rattle.nt_store.specs.Worlds.{IsThereWith, AsksFor, HasStoreCause, LeavesOut, KeepsFiles, OthersStay, MakesDisk, LeavesOpen}
use Rattle.nt_store.specs.Worlds.{IsLeftByFailure, IsLeftByMemory, WritesInOrder, IsLeftAfter}
use Rattle.nt_store.specs.Texts.{AreTexts}
use Rattle.nt_store.specs.Schemas.{AsksSchemaFirst}
use Rattle.nt_store.specs.Whole.{IsStored}
use Rattle.nt_store.specs.Crashes.{CrashTold}
use Rattle.nt_dealing.specs.Texts.{all_chunks}
use Rattle.nt_dealing.specs.Limits.{IsOver}
use Rattle.nt_dealing.specs.Failing.{FailsByLine}
use Rattle.nt_store.specs.Writing.{PassesEarly, PassesBehind, LimitBy}

-- the file is whole, and out gained the line of its order
pub record StoresWhole (out schema : List ℕ) (inputs : List (List ℕ)) (p : Params) (w w' : World) : Type 0 where
  pub fields : List MemberData
  pub texts : List (List ℕ)
  pub are : AreTexts w schema inputs fields texts
  pub made : MakesDisk out w w'
  pub bytes : List ℕ
  pub file_is : file w' out ≡ Some bytes
  pub order : List ℕ
  pub stored : IsStored p fields texts order bytes
  pub printed : w'.out ≡ w.out ++ order_line order

-- an input has this first bad line, before which nothing fails
pub record HasBadLine (schema : List ℕ) (inputs : List (List ℕ)) (p : Params) (w : World) (input line : ℕ) (kind : TextKind) : Type 0 where
  pub fields : List MemberData
  pub texts : List (List ℕ)
  pub are : AreTexts w schema inputs fields texts
  pub table : Table
  pub rows : Rows fields p.plain table
  pub fails : FailsByLine table fields p texts input line kind

-- the chunks of the entries before each input's first bad line pass this limit, which is the first that anything fails by
pub record IsTooLarge (By : LimitBy) (schema : List ℕ) (inputs : List (List ℕ)) (p : Params) (w : World) (reached limit : ℕ) : Type 0
  where
    pub fields : List MemberData
    pub texts : List (List ℕ)
    pub are : AreTexts w schema inputs fields texts
    pub table : Table
    pub rows : Rows fields p.plain table
    pub over : IsOver table p (all_chunks p.cluster fields texts) reached limit
    pub by : By table fields p texts

-- what is left, by the answer. Out gains the line of the order only once all chunks are committed: whole where memory or a limit ends it
-- then, and a part of it where the outside fails. Where that failed and the file is whole nevertheless, its last step was over its first
-- byte, or a sync behind that failed
abbrev pub StoreTold : List ℕ → List ℕ → List (List ℕ) → Params → World → World → Result Unit StoreError → Type 0
StoreTold out schema inputs p w w' (Ok done) = StoresWhole out schema inputs p w w'
StoreTold out schema inputs p w w' (Err Outside) =
    (IsLeftByFailure out w w' × (w'.out ≡ w.out))
    ⊎ (((printed behind : List ℕ) × GainsOrderPart schema inputs p w w' printed behind × LeavesOpen out w w')
    ⊎ (StoresWhole out schema inputs p w w' × IsLeftAfter EndsOverFirst out w'))
StoreTold out schema inputs p w w' (Err Memory) =
    (IsLeftByMemory out w w' × (w'.out ≡ w.out))
    ⊎ ((line : List ℕ) × GainsOrderPart schema inputs p w w' line [] × LeavesOpen out w w')
StoreTold out schema inputs p w w' (Err (Schema line kind)) =
    IsThereWith (λ text. schema_text text ≡ Err (at_line line kind)) (file w schema) × KeepsFiles w w' × (w'.out ≡ w.out)
StoreTold out schema inputs p w w' (Err (Line input line kind)) = HasBadLine schema inputs p w input line kind × LeavesOpen out w w' ×
    (w'.out ≡ w.out)
StoreTold out schema inputs p w w' (Err (Limit reached limit)) =
    (IsTooLarge (PassesEarly reached limit) schema inputs p w reached limit × LeavesOpen out w w' × (w'.out ≡ w.out))
    ⊎ ((line : List ℕ) × IsTooLarge PassesBehind schema inputs p w reached limit × LeavesOpen out w w'
    × GainsOrderPart schema inputs p w w' line [])

-- the objects that are asked for
abbrev pub asked_for : List ℕ → List ℕ → List (List ℕ) → List Asked
asked_for out schema inputs = Text schema ∷ (map Text inputs ++ Out out ∷ [])

-- a file is written from texts, or why not
pub record Stores (out schema : List ℕ) (inputs : List (List ℕ)) (p : Params) (old new : HostState) (result : Result Unit StoreError) :
    Type 0 where
  -- where the host tells what it holds
  pub told : (w : World) → old.world ≡ Some w
      → (w' : World) × (new.world ≡ Some w') × (w'.err ≡ w.err) × OthersStay out w w' × StoreTold out schema inputs p w w' result
  -- where the file was begun, its first byte came only when all the rest stayed
  pub order : WritesInOrder out old.world new.world
  -- and a crash leaves it unfinished or whole
  pub crash : CrashTold out schema inputs p old.world new.world result
  pub asked : AsksFor (asked_for out schema inputs) old.asked new.asked result
  pub schema_first : AsksSchemaFirst schema old new
  pub cause : HasStoreCause old.faults new.faults result
  -- each object that was opened came back
  pub back : LeavesOut 0 old new
