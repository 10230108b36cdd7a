-- What the filling of a file leaves of its disk, and the closing of a file that is filled.
use Rattle.std.specs.Prelude.{⊤, ◌≡◌, ◌⊎◌, ℕ, ◌<◌, List, length, Option, Some, Result, Ok, Err, IfOk, IfErr, IsErrOf}
use Rattle.nt_types.specs.ShapeData.{MemberData}
use Rattle.nt_outside.specs.Order.{FirstByteLast, BeginsOpen, EndsInSync}
use Rattle.nt_outside.specs.Held.{Held}
use Rattle.nt_outside.specs.Disk.{DiskState}
use Rattle.nt_outside.specs.Source.{SourceState}
use Rattle.nt_grammar.specs.Table.{Table}
use Rattle.nt_book.specs.declared.params.Params.{Params}
use Rattle.nt_book.specs.Books.{BookData}
use Rattle.nt_close.specs.Laws.{IsShut, EndsOverFirst}
use Rattle.nt_close.specs.Closing.{IsClosable}
use Rattle.nt_close.specs.Damage.{IsUndamaged}
use Rattle.nt_close.specs.Filled.{filled_file}
use Rattle.nt_cuts.specs.Cuts.{LeavesUnfinished}
use Rattle.nt_crash.specs.Fillings.{IsFilled}
use Rattle.nt_dealing.specs.Dealt.{commit_order}
use Rattle.nt_contexts.specs.Contexts.{TellTexts}
use Rattle.nt_store.specs.declared.error.StoreError.{StoreError}
use Rattle.nt_store.specs.declared.error.StoreError.TheVariants.{Outside, Memory, Schema, Line, Limit}
use Rattle.nt_store.specs.Whole.{IsStored}
use Rattle.nt_store.specs.Laws.{HoldsChunks}
use Rattle.nt_store.specs.Crashes.{CrashLeaves}
use Rattle.nt_store.specs.Worlds.{SomeFailed}
use Rattle.nt_store.specs.Writing.{HoldsNow, NeverBegan, PassesEarly, PassesBehind, PassesLimitOf, FailsAtLine, IsInOrderFrom, KeepsOrder}

-- a file is filled: it was begun for these fields, its clusters are the chunks of the texts, dealt out, and it can't pass for finished
pub record IsFilledFile (fields : List MemberData) (p : Params) (texts : List (List ℕ)) (t : Table) (book : BookData) (h : Held) : Type 0
  where
    pub ranges : List (List ℕ)
    pub holds : HoldsChunks fields p texts t book ranges
    pub image : h.image ≡ filled_file p.staged t book p.group ranges
    pub filled : IsFilled p.staged t p.group book ranges h.log
    pub shut : IsShut h.image
    pub unfinished : LeavesUnfinished h.log

-- why a file isn't filled
abbrev pub WhyUnfilled : {T : Type 0} → List MemberData → Params → List (List ℕ) → Result T StoreError → Type 0
WhyUnfilled fields p texts (Ok made) = ⊤
WhyUnfilled fields p texts (Err Outside) = ⊤
WhyUnfilled fields p texts (Err Memory) = ⊤
WhyUnfilled fields p texts (Err (Limit reached most)) = PassesLimitOf (PassesEarly reached most) fields p texts reached most
WhyUnfilled fields p texts (Err (Line input line kind)) = FailsAtLine fields p texts input line kind
WhyUnfilled fields p texts (Err (Schema line kind)) = ⊥

-- what is left of it: filled, by this book and schema; else it can't pass for finished, or its first append failed
abbrev pub FillLeaves : List MemberData → Params → List (List ℕ) → Option Held → Result (BookData × Table) StoreError → Type 0
FillLeaves fields p texts held (Ok made) = HoldsNow held (IsFilledFile fields p texts made.1 made.0)
FillLeaves fields p texts held (Err Outside) = HoldsNow held (λ h. BeginsOpen h.image ⊎ NeverBegan h)
FillLeaves fields p texts held (Err Memory) = HoldsNow held (λ h. BeginsOpen h.image)
FillLeaves fields p texts held (Err (Limit reached most)) = HoldsNow held (λ h. BeginsOpen h.image)
FillLeaves fields p texts held (Err (Line input line kind)) = HoldsNow held (λ h. BeginsOpen h.image)
FillLeaves fields p texts held (Err (Schema line kind)) = ⊥

-- a file can be closed, none of its ranges is spoiled, and none of its page lists failed
pub record MayClose (disk : DiskState) (book : BookData) (t : Table) (p : Params) : Type 0 where
  pub closable : IsClosable disk book t p
  pub undamaged : IsUndamaged book

-- a file was filled on a disk that held this, or why not
pub record FillsFile (fields : List MemberData) (p : Params) (begun : Held) (sources sources' : List SourceState) (old new : DiskState)
    (result : Result (BookData × Table) StoreError) : Type 0 where
  pub why : (texts : List (List ℕ)) → TellTexts sources texts → WhyUnfilled fields p texts result
  pub left : (texts : List (List ℕ)) → TellTexts sources texts → old.held ≡ Some begun → FillLeaves fields p texts new.held result
  pub may_close : IfOk result (λ made. MayClose new made.0 made.1 p)
  pub order : IsInOrderFrom begun old.held new.held
  pub shut : IfOk result (λ made. old.held ≡ Some begun → HoldsNow new.held (λ h. IsShut h.image × FirstByteLast h.log))
  -- a crash leaves what is unfinished
  pub crash : old.held ≡ Some begun → HoldsNow new.held (λ h. LeavesUnfinished h.log)
  -- the outside is blamed only where it failed
  pub failed : IsErrOf result Outside → (0 < new.faults) ⊎ SomeFailed sources'
  pub number : length sources' ≡ length sources

-- an error that names no text
abbrev pub IsOfNoText : StoreError → Type 0
IsOfNoText Outside = ⊤
IsOfNoText Memory = ⊤
IsOfNoText (Limit reached most) = ⊤
IsOfNoText (Line input line kind) = ⊥
IsOfNoText (Schema line kind) = ⊥

-- what is left of a filled file by its closing: it is stored, and its last step was a sync; or it can't pass for finished. After a failure
-- it is one of these: stored only where the last step was over its first byte, or a sync behind that failed
abbrev pub CloseLeaves : List MemberData → Params → List (List ℕ) → List ℕ → Option Held → Result Unit StoreError → Type 0
CloseLeaves fields p texts order held (Ok done) = HoldsNow held (λ h. IsStored p fields texts order h.image × EndsInSync h.log)
CloseLeaves fields p texts order held (Err Outside) =
    HoldsNow held (λ h. BeginsOpen h.image ⊎ (IsStored p fields texts order h.image × EndsOverFirst h.log))
CloseLeaves fields p texts order held (Err Memory) = HoldsNow held (λ h. BeginsOpen h.image)
CloseLeaves fields p texts order held (Err (Limit reached most)) =
    PassesLimitOf PassesBehind fields p texts reached most × HoldsNow held (λ h. BeginsOpen h.image)
CloseLeaves fields p texts order held (Err (Line input line kind)) = ⊥
CloseLeaves fields p texts order held (Err (Schema line kind)) = ⊥

-- a file of this schema and book was closed, or not
pub record ClosesFile (t : Table) (p : Params) (book : BookData) (old new : DiskState) (result : Result Unit StoreError) : Type 0 where
  pub left : (fields : List MemberData) (texts : List (List ℕ)) (h : Held) → old.held ≡ Some h → IsFilledFile fields p texts t book h
      → CloseLeaves fields p texts (commit_order book) new.held result
  pub order : KeepsOrder old.held new.held
  pub crash : (fields : List MemberData) (texts : List (List ℕ)) (h : Held) → old.held ≡ Some h → IsFilledFile fields p texts t book h
      → HoldsNow new.held (λ h'. CrashLeaves (IsStored p fields texts (commit_order book)) h'.log result)
  pub failed : IsErrOf result Outside → 0 < new.faults
  pub no_text : IfErr result IsOfNoText
