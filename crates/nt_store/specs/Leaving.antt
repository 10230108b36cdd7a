-- What the writing of a file leaves of its disk and of out, and what a crash may leave, where host and disk tell what they hold.
use Rattle.std.specs.Prelude.{◌≡◌, ℕ, List, Some, Result}
use Rattle.nt_types.specs.ShapeData.{MemberData}
use Rattle.nt_types.specs.Rules.{AreFields}
use Rattle.nt_grammar.specs.Table.{Table}
use Rattle.nt_outside.specs.Held.{Held}
use Rattle.nt_outside.specs.Disk.{DiskState}
use Rattle.nt_outside.specs.Source.{SourceState}
use Rattle.nt_outside.specs.World.{World, HostState}
use Rattle.nt_book.specs.Ranges.{IsFromTo}
use Rattle.nt_book.specs.declared.params.Params.{Params}
use Rattle.nt_book.specs.Books.{BookData}
use Rattle.nt_contexts.specs.Contexts.{TellTexts}
use Rattle.nt_store.specs.declared.error.StoreError.{StoreError}
use Rattle.nt_store.specs.Writing.{FileTold, KeepsOrder, IsInOrderFrom, IsEmptyDisk}
use Rattle.nt_store.specs.Crashes.{CrashesTo}
use Rattle.nt_store.specs.Filling.{IsFilledFile}

-- a file may be written: of fields that keep the rules of a schema text and of 1 to 64 texts, on an empty disk
pub record MayWriteFile (fields : List MemberData) (texts : ℕ) (disk : DiskState) : Type 0 where
  pub rules : AreFields fields
  pub number : IsFromTo 1 64 texts
  pub empty : IsEmptyDisk disk

-- a file was written of these texts, or not, on a disk that held this
pub record WritesFile (fields : List MemberData) (p : Params) (texts : List SourceState) (begun : Held) (old new : HostState)
    (disk disk' : DiskState) (result : Result Unit StoreError) : Type 0 where
  pub told : (w : World) (ts : List (List ℕ)) → old.world ≡ Some w → TellTexts texts ts → disk.held ≡ Some begun
      → FileTold fields p ts w new.world disk'.held result
  pub order : IsInOrderFrom begun disk.held disk'.held
  pub crash : (w : World) (ts : List (List ℕ)) → old.world ≡ Some w → TellTexts texts ts → disk.held ≡ Some begun
      → CrashesTo fields p ts w new.world disk'.held result

-- the order of a book's clusters was told and their file closed, or not
pub record FinishesFile (t : Table) (p : Params) (book : BookData) (old new : HostState) (disk disk' : DiskState)
    (result : Result Unit StoreError) : Type 0 where
  pub told : (fields : List MemberData) (texts : List (List ℕ)) (w : World) (h : Held) → old.world ≡ Some w → disk.held ≡ Some h
      → IsFilledFile fields p texts t book h → FileTold fields p texts w new.world disk'.held result
  pub order : KeepsOrder disk.held disk'.held
  pub crash : (fields : List MemberData) (texts : List (List ℕ)) (w : World) (h : Held) → old.world ≡ Some w → disk.held ≡ Some h
      → IsFilledFile fields p texts t book h → CrashesTo fields p texts w new.world disk'.held result
