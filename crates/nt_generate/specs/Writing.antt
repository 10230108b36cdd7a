-- What the writing of events that are made leaves of a disk.
use Rattle.std.specs.Prelude.{◌≡◌, ◌⊎◌, ℕ, ◌<◌, List, Option, Some, Result, Ok, Err, IsErrOf}
use Rattle.nt_types.specs.ShapeData.{MemberData}
use Rattle.nt_outside.specs.Log.{Step}
use Rattle.nt_outside.specs.Order.{BeginsOpen, EndsInSync}
use Rattle.nt_outside.specs.Source.{SourceState}
use Rattle.nt_outside.specs.Held.{Held, nothing_held}
use Rattle.nt_outside.specs.Disk.{DiskState}
use Rattle.nt_grammar.specs.Table.{Table}
use Rattle.nt_book.specs.declared.params.Params.{Params}
use Rattle.nt_book.specs.Books.{BookData}
use Rattle.nt_contexts.specs.Contexts.{TellTexts}
use Rattle.nt_close.specs.Laws.{EndsOverFirst}
use Rattle.nt_cuts.specs.Cuts.{LeavesUnfinished, LeavesUnfinishedOr, LeavesOnly}
use Rattle.nt_dealing.specs.Dealt.{commit_order}
use Rattle.nt_draws.specs.declared.making.Making.{Making}
use Rattle.nt_draws.specs.Events.{event_fields}
use Rattle.nt_store.specs.Writing.{HoldsNow, NeverBegan, IsInOrderFrom, KeepsOrder, IsEmptyDisk}
use Rattle.nt_store.specs.Filling.{IsFilledFile}
use Rattle.nt_generate.specs.declared.error.GenerateError.{GenerateError}
use Rattle.nt_generate.specs.declared.error.GenerateError.TheVariants.{Outside, Memory, Limit, Defect}
use Rattle.nt_generate.specs.Made.{made_texts, IsMade, PassesMade}

-- what is made may be written: these fields, and the text of each context, on an empty disk
pub record MayWriteMade (fields : List MemberData) (m : Making) (sources : List SourceState) (disk : DiskState) : Type 0 where
  pub fields_are : fields ≡ event_fields
  pub texts : TellTexts sources (made_texts m)
  pub empty : IsEmptyDisk disk

-- what is left of what was committed in this order, by the answer, which names it: whole behind a sync; after a failure only where the last
-- step was over the first byte, or a sync behind that failed
abbrev pub WriteLeaves : {V : Type 0} → (V → List ℕ) → Params → Making → List ℕ → Option Held → Result V GenerateError → Type 0
WriteLeaves order p m commits held (Ok made) =
    (order made ≡ commits) × HoldsNow held (λ h. IsMade p m commits h.image × EndsInSync h.log)
WriteLeaves order p m commits held (Err Outside) =
    HoldsNow held (λ h. BeginsOpen h.image ⊎ NeverBegan h ⊎ (IsMade p m commits h.image × EndsOverFirst h.log))
WriteLeaves order p m commits held (Err Memory) = HoldsNow held (λ h. BeginsOpen h.image)
WriteLeaves order p m commits held (Err (Limit reached most)) = PassesMade p m reached most × HoldsNow held (λ h. BeginsOpen h.image)
WriteLeaves order p m commits held (Err (Defect e)) = ⊥

-- behind the first sync what is unfinished is left; the whole only once the first byte is written over; behind all steps of Ok just that
abbrev pub MadeCrash : {V : Type 0} → (List ℕ → Type 0) → List Step → Result V GenerateError → Type 0
MadeCrash Whole log (Ok made) = LeavesUnfinishedOr Whole log × LeavesOnly Whole log
MadeCrash Whole log (Err Outside) = LeavesUnfinishedOr Whole log
MadeCrash Whole log (Err Memory) = LeavesUnfinishedOr Whole log
MadeCrash Whole log (Err (Limit reached most)) = LeavesUnfinished log
MadeCrash Whole log (Err (Defect e)) = LeavesUnfinishedOr Whole log

-- what is made was written on a disk, or why not
pub record WritesMade {V : Type 0} (order : V → List ℕ) (p : Params) (m : Making) (old new : DiskState) (result : Result V GenerateError) :
    Type 0 where
  -- the order of the commits, one for what is left and for a crash
  pub commits : List ℕ
  pub left : old.held ≡ Some nothing_held → WriteLeaves order p m commits new.held result
  pub order_kept : IsInOrderFrom nothing_held old.held new.held
  pub crash : old.held ≡ Some nothing_held → HoldsNow new.held (λ h. MadeCrash (IsMade p m commits) h.log result)
  pub failed : IsErrOf result Outside → 0 < new.faults

-- a file that was filled with what is made was closed, or why not
pub record ClosesMade {V : Type 0} (order : V → List ℕ) (t : Table) (p : Params) (m : Making) (book : BookData) (old new : DiskState)
    (result : Result V GenerateError) : Type 0 where
  pub left : (h : Held) → old.held ≡ Some h → IsFilledFile event_fields p (made_texts m) t book h
      → WriteLeaves order p m (commit_order book) new.held result
      × HoldsNow new.held (λ h'. MadeCrash (IsMade p m (commit_order book)) h'.log result)
  pub order_kept : KeepsOrder old.held new.held
  pub failed : IsErrOf result Outside → 0 < new.faults
