-- What a crash leaves of a file on its disk, by what the parts of its writing say.
use Rattle.std.proofs.Common.{◌≡◌, ◌⊎◌, ◌∙◌, inl, inr, subst, Bool, ℕ, zero, suc, List, [], ◌∷◌, ◌++◌, take, Some, Result, Ok, Err}
use Rattle.nt_types.specs.ShapeData.{MemberData}
use Rattle.nt_num.specs.Codes.{unfinished}
use Rattle.nt_num.specs.Faults.{fault}
use Rattle.nt_outside.specs.Log.{Step, Sync}
use Rattle.nt_outside.specs.Held.{Held, nothing_held}
use Rattle.nt_outside.specs.Disk.{DiskState}
use Rattle.nt_grammar.specs.Table.{Table}
use Rattle.nt_machine.specs.Legal.{IsLegal}
use Rattle.nt_logged.specs.Logs.{IsLogOf}
use Rattle.nt_book.specs.declared.params.Params.{Params}
use Rattle.nt_book.specs.Books.{BookData}
use Rattle.nt_container.specs.Spelling.{begun}
use Rattle.nt_file_meaning.specs.Files.{HasDefect}
use Rattle.nt_layout.specs.Headers.{header_blob, clusters_place}
use Rattle.nt_layout.specs.Finished.{finished}
use Rattle.nt_finished.specs.Filled.{IsArrangedBook}
use Rattle.nt_close.specs.declared.error.BeginError.{BeginError}
use Rattle.nt_close.specs.declared.error.BeginError.TheVariants as begin
use Rattle.nt_close.specs.Beginning.{IsNotBegun}
use Rattle.nt_close.specs.Filled.{closing_tail, closing_front}
use Rattle.nt_close.specs.Steps.{closed_on, IsBegunSoFar, begun_partly, IsClosedSoFar}
use Rattle.nt_dealing.specs.Dealt.{FillsBehind, commit_order}
use Rattle.nt_cuts.specs.Cuts.{WritesFirst, HasSync, LeavesUnfinished, LeavesUnfinishedOr, LeavesOnly}
use Rattle.nt_crash.specs.Fillings.{IsFilling, IsFilled}
use Rattle.nt_store.specs.declared.error.StoreError.{StoreError}
use Rattle.nt_store.specs.declared.error.StoreError.TheVariants.{Outside, Memory, Schema, Line, Limit}
use Rattle.nt_store.specs.Whole.{IsStored}
use Rattle.nt_store.specs.Writing.{as_begun, HoldsNow}
use Rattle.nt_store.specs.Crashes.{CrashLeaves}
use Rattle.nt_store.specs.Laws.{RangesAreAsLong, FinishedAreStored, CrashesLeave}
use Rattle.nt_store.proofs.Whole.{ranged}

-- what is whole in one sense is so in another
pub or_as : (P Q : List ℕ → Type 0) (log : List Step) → ((bytes : List ℕ) → P bytes → Q bytes) → LeavesUnfinishedOr P log
    → LeavesUnfinishedOr Q log
or_as P Q log turn leaves k bytes has may = at (leaves k bytes has may)
  where
    at : HasDefect bytes (fault unfinished 0) ⊎ (WritesFirst (take k log) × P bytes)
        → HasDefect bytes (fault unfinished 0) ⊎ (WritesFirst (take k log) × Q bytes)
    at (inl none) = inl none
    at (inr (first, whole)) = inr (first, turn bytes whole)

pub leaves_as : (P Q : List ℕ → Type 0) (log : List Step) (result : Result Unit StoreError) → ((bytes : List ℕ) → P bytes → Q bytes)
    → CrashLeaves P log result → CrashLeaves Q log result
leaves_as P Q log (Ok value) turn leaves = (or_as P Q log turn leaves.0, λ bytes may. turn bytes (leaves.1 bytes may))
leaves_as P Q log (Err Outside) turn leaves = or_as P Q log turn leaves
leaves_as P Q log (Err Memory) turn leaves = leaves
leaves_as P Q log (Err (Schema line kind)) turn leaves = leaves
leaves_as P Q log (Err (Line input line kind)) turn leaves = leaves
leaves_as P Q log (Err (Limit reached limit)) turn leaves = leaves

-- what is left unfinished is so whatever the error
pub leaves_open : (P : List ℕ → Type 0) (log : List Step) (e : StoreError) → LeavesUnfinished log → CrashLeaves P log (Err e)
leaves_open P log Outside leaves = λ k bytes has may. inl (leaves k bytes has may)
leaves_open P log Memory leaves = leaves
leaves_open P log (Schema line kind) leaves = leaves
leaves_open P log (Line input line kind) leaves = leaves
leaves_open P log (Limit reached limit) leaves = leaves

-- no step is a sync
no_sync : (k : ℕ) → HasSync (take k []) → ⊥
no_sync zero has = at has.before has.is
  where
    at : (before : List Step) → [] ≡ before ++ Sync ∷ has.after → ⊥
    at [] is = cc
    at (step ∷ before) is = cc
no_sync (suc k) has = at has.before has.is
  where
    at : (before : List Step) → [] ≡ before ++ Sync ∷ has.after → ⊥
    at [] is = cc
    at (step ∷ before) is = cc

nothing_leaves : LeavesUnfinished []
nothing_leaves k bytes has may = absurd (no_sync k has)

-- the laws of crashes that are cited here
abbrev pub ClosingLeaves : Type 0
ClosingLeaves =
    (staged : Bool) (t : Table) (book : BookData) (most : ℕ) (ranges : List (List ℕ)) (h left : Held)
    → IsArrangedBook staged t most book ranges → IsFilled staged t most book ranges h.log
    → IsClosedSoFar (closing_tail staged t book most) (closing_front staged t book most) h left
    → LeavesUnfinishedOr (λ (bytes : List ℕ). bytes ≡ finished staged t book most ranges) left.log

abbrev pub ClosedLeaves : Type 0
ClosedLeaves =
    (staged : Bool) (t : Table) (book : BookData) (most : ℕ) (ranges : List (List ℕ)) (h : Held)
    → IsArrangedBook staged t most book ranges → IsFilled staged t most book ranges h.log
    → LeavesOnly (λ (bytes : List ℕ). bytes ≡ finished staged t book most ranges)
    (closed_on (closing_tail staged t book most) (closing_front staged t book most) h).log

-- a file whose clusters are the chunks of texts
pub chunks_leave : RangesAreAsLong → FinishedAreStored
    → ((t : Table) (left : Held) → IsBegunSoFar (begun 0 0 0) (header_blob t) nothing_held left → LeavesUnfinished left.log)
    → ((t : Table) (log : List Step) → IsFilling t log → LeavesUnfinished log) → ClosingLeaves → ClosedLeaves → CrashesLeave
chunks_leave long stored beginning filling closing closed = record {
  beginning = beginning;
  filling = filling;
  closing = λ fields p texts t book ranges h left holds stays filled so_far.
      or_as (λ (bytes : List ℕ). bytes ≡ finished p.staged t book p.group ranges) (IsStored p fields texts (commit_order book)) left.log
      (λ bytes is. stored fields p texts t book ranges bytes holds stays is)
      (closing p.staged t book p.group ranges h left (ranged long fields p texts t book ranges holds) filled so_far);
  closed = λ fields p texts t book ranges h holds stays filled bytes may.
      stored fields p texts t book ranges bytes holds stays
      (closed p.staged t book p.group ranges h (ranged long fields p texts t book ranges holds) filled bytes may);
}

-- what a crash leaves of a file that has ranges of its contexts
pub run_crash : CrashesLeave → (t : Table) (begin : ℕ) (left : Held) → begin ≡ clusters_place t → FillsBehind begin (as_begun t) left
    → LeavesUnfinished left.log
run_crash leave t begin left place fills =
    leave.filling t left.log (record {
      history = fills.history;
      legal = subst (λ (n : ℕ). IsLegal n fills.history) place fills.legal;
      end = fills.end;
      lists = fills.lists;
      torn = fills.torn;
      steps = fills.gains.steps;
      is = fills.gains.log;
      is_log = subst (λ (n : ℕ). IsLogOf n fills.end fills.history fills.lists fills.torn fills.gains.steps) place fills.gains.is_log;
    })

-- and of one that isn't begun
pub begin_crash : CrashesLeave → (fields : List MemberData) (p : Params) (e : BeginError) (old new : DiskState)
    → IsNotBegun fields p old new e → old.held ≡ Some nothing_held → HoldsNow new.held (λ h. LeavesUnfinished h.log)
begin_crash leave fields p begin.Memory old new left is = (nothing_held, left.place.held ∙ is, nothing_leaves)
begin_crash leave fields p (begin.RangeTooLarge len most) old new left is =
    (nothing_held, left.untouched.place.held ∙ is, nothing_leaves)
begin_crash leave fields p (begin.FileTooLarge end most) old new left is =
    (nothing_held, left.untouched.place.held ∙ is, nothing_leaves)
begin_crash leave fields p begin.Fault old new left is =
    let some = left.held nothing_held is in (some.0, some.1, leave.beginning left.table some.0 (begun_partly some.2))
