-- What is left of the disk of a script whose file isn't begun, and how its writing joins the parts.
use Rattle.std.proofs.Common.{◌≡◌, ◌∙◌, inl, inr, ap, sym, subst, refl, ℕ, zero, suc, ◌<◌, List, [], ◌∷◌, ◌++◌, take}
use Rattle.std.proofs.Common.{Bool, Some, Result, Err, arith}
use Rattle.nt_types.specs.ShapeData.{MemberData}
use Rattle.nt_types.specs.Rules.{AreFields}
use Rattle.nt_outside.specs.Disk.{DiskState}
use Rattle.nt_outside.specs.Held.{nothing_held}
use Rattle.nt_outside.specs.Log.{Step, Sync}
use Rattle.nt_outside.specs.Source.{SourceState}
use Rattle.nt_grammar.specs.Rows.{Rows}
use Rattle.nt_grammar.specs.Table.{Table}
use Rattle.nt_event.specs.Lines.{LinesState, before_first_line}
use Rattle.nt_book.specs.declared.limits.LimitError.TheVariants as limit
use Rattle.nt_book.specs.declared.params.Params.{Params}
use Rattle.nt_layout.specs.Headers.{header_blob}
use Rattle.nt_close.specs.declared.error.BeginError.{BeginError}
use Rattle.nt_close.specs.declared.error.BeginError.TheVariants as begin
use Rattle.nt_close.specs.Beginning.{IsNotBegun}
use Rattle.nt_close.specs.Steps.{begun_partly}
use Rattle.nt_close.proofs.FirstByte.{begins_shut}
use Rattle.nt_cuts.specs.Cuts.{HasSync, LeavesUnfinished}
use Rattle.nt_seq.specs.Changing.{BeginsFile}
use Rattle.nt_seq.specs.Writer.{SeqState}
use Rattle.nt_store.proofs.Begun.{shut_open}
use Rattle.nt_store.proofs.Filled.{begin_order}
use Rattle.nt_script.specs.declared.storing.Counts.{Counts}
use Rattle.nt_script.specs.declared.store_error.ScriptStoreError.{ScriptStoreError}
use Rattle.nt_script.specs.declared.store_error.ScriptStoreError.TheVariants.{Outside, Memory}
use Rattle.nt_script.specs.StoreErrors.{script_error_of_begin}
use Rattle.nt_script.specs.Passing.{passes_begun}
use Rattle.nt_script.specs.Running.{IsFirstWriter}
use Rattle.nt_seq.specs.Crashes.{AppendsLeave}
use Rattle.nt_script.specs.Filing.{LeavesScriptFile, FilesScript, WritesLines}
use Rattle.nt_script.specs.Filing.{WritesScript}
use Rattle.nt_script.specs.Taking.{HasJustFields}

-- ---- a file that isn't begun

-- no step is a sync
no_sync : (k : ℕ) → HasSync (take k []) → ⊥
no_sync k has = at k has.before has.is
  where
    at : (k : ℕ) (before : List Step) → take k [] ≡ before ++ Sync ∷ has.after → ⊥
    at zero [] is = cc
    at zero (s ∷ before) is = cc
    at (suc k) [] is = cc
    at (suc k) (s ∷ before) is = cc

nothing_leaves : LeavesUnfinished []
nothing_leaves k bytes has may = absurd (no_sync k has)

nothing_told : (F : List MemberData) (p : Params) (text : List ℕ) (disk : DiskState) → disk.held ≡ Some nothing_held
    → LeavesScriptFile F p text disk (Err Memory)
nothing_told F p text disk held = record { told = (nothing_held, held, tt); crash = (nothing_held, held, nothing_leaves) }

begin_left : AppendsLeave → (e : BeginError) (F : List MemberData) (p : Params) (text : List ℕ) (old new : DiskState)
    → IsNotBegun F p old new e → old.held ≡ Some nothing_held → LeavesScriptFile F p text new (Err (script_error_of_begin e))
begin_left leave begin.Memory F p text old new left is = nothing_told F p text new (left.place.held ∙ is)
begin_left leave (begin.RangeTooLarge len most) F p text old new left is = record {
  told = (
    passes_begun left.table (limit.RangeTooLarge len most) left.rows left.passed_is (refl, refl),
    (nothing_held, left.untouched.place.held ∙ is, tt),
  );
  crash = (nothing_held, left.untouched.place.held ∙ is, nothing_leaves);
}
begin_left leave (begin.FileTooLarge end most) F p text old new left is = record {
  told = (
    passes_begun left.table (limit.FileTooLarge end most) left.rows left.passed_is (refl, refl),
    (nothing_held, left.untouched.place.held ∙ is, tt),
  );
  crash = (nothing_held, left.untouched.place.held ∙ is, nothing_leaves);
}
begin_left leave begin.Fault F p text old new left is =
    let some = left.held nothing_held is in
    record {
      told = inl (
        some.0,
        some.1,
        elim (begins_shut (header_blob left.table) some.0 (begun_partly some.2)) [
          | inl shut ↦ inl (shut_open some.0.image shut)
          | inr torn ↦ inr torn
        ],
      );
      crash = (some.0, some.1, λ k bytes has may. inl (leave.beginning left.table some.0 (begun_partly some.2) k bytes has may));
    }

begin_failed : (e : BeginError) (F : List MemberData) (p : Params) (old new : DiskState) → IsNotBegun F p old new e
    → script_error_of_begin e ≡ Outside → 0 < new.faults
begin_failed begin.Memory F p old new left is = absurd (cc is)
begin_failed (begin.RangeTooLarge len most) F p old new left is = absurd (cc is)
begin_failed (begin.FileTooLarge end most) F p old new left is = absurd (cc is)
begin_failed begin.Fault F p old new left is = omega (arith, left.rose)

-- memory is wanting for the lines of a text
pub writes_unread : (F : List MemberData) (p : Params) (text : SourceState) (disk : DiskState)
    → WritesScript F p text text disk disk (Err Memory)
writes_unread F p text disk = record {
  left = λ bytes is held. nothing_told F p bytes disk held;
  order = λ held. (nothing_held, held, tt);
  failed = λ bad. absurd (cc bad);
}

-- its lines are written, or not
pub writes_text : (F : List MemberData) (p : Params) (text text' : SourceState) (old new : LinesState) (disk disk' : DiskState)
    (result : Result Counts ScriptStoreError) → old ≡ before_first_line text → text'.faults ≡ new.faults
    → WritesLines F p old new disk disk' result → WritesScript F p text text' disk disk' result
writes_text F p text text' old new disk disk' result lines faults writes = record {
  left = λ bytes is held. writes.left bytes (ap (λ (l : LinesState). l.left) lines ∙ is) held;
  order = writes.order;
  failed = λ bad.
      elim (writes.failed bad) [
        | inl some ↦ inl some
        | inr rose ↦ inr (omega (arith, rose, faults))
      ];
}

-- the file isn't begun
pub lines_unbegun : AppendsLeave → (F : List MemberData) (p : Params) (lines : LinesState) (old new : DiskState) (e : BeginError)
    → IsNotBegun F p old new e → WritesLines F p lines lines old new (Err (script_error_of_begin e))
lines_unbegun leave F p lines old new e left = record {
  left = λ bytes is held. begin_left leave e F p bytes old new left held;
  order = begin_order e F p old new left;
  failed = λ bad. inl (begin_failed e F p old new left (cc bad));
}

-- it is, and the script was written, or not
pub lines_filed : {D : Type 0} (state : D → DiskState) (F : List MemberData) (p : Params) (old new : LinesState) (disk disk' : D)
    (w : SeqState D) (result : Result Counts ScriptStoreError) → BeginsFile state F p disk w → FilesScript state w F old new disk' result
    → WritesLines F p old new (state disk) (state disk') result
lines_filed {D} state F p old new disk disk' w result begins files = record {
  left = λ bytes is held.
      subst (λ (q : Params). LeavesScriptFile F q bytes (state disk') result) begins.params (files.left bytes is (empty held));
  order = λ held. files.order (empty held);
  failed = files.failed;
}
  where
    empty : (state disk).held ≡ Some nothing_held → (state w.given).held ≡ Some nothing_held
    empty held = ap (λ (d : D). (state d).held) begins.given ∙ held

-- its writer is at the beginning of a script
pub first_writer : {D : Type 0} (state : D → DiskState) (F : List MemberData) (p : Params) (lines : LinesState) (disk : D) (w : SeqState D)
    → ((fields : List MemberData) (plain : Bool) (t : Table) → AreFields fields → Rows fields plain t → HasJustFields fields t)
    → AreFields F → lines.number ≡ 0 → BeginsFile state F p disk w → IsFirstWriter state F lines w
first_writer state F p lines disk w just rules none begins = record {
  rows = subst (λ (q : Params). Rows F q.plain w.table) (sym begins.params) begins.begun.rows;
  just = just F p.plain w.table rules begins.begun.rows;
  written = begins.written;
  none = begins.none;
  alive = begins.alive;
  number = none;
}
