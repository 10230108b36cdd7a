-- The command `seq`, and the message after it.
use Rattle.std.proofs.Common.{◌≡◌, ◌∙◌, inl, inr, sym, subst, refl, ℕ, List, [], ◌∷◌}
use Rattle.std.proofs.Common.{Result, Ok, Err, arith}
use Rattle.std.specs.Prelude.{IsErrOf}
use Rattle.std.proofs.lemmas.List.{append-nil}
use Rattle.nt_types.specs.ShapeData.{MemberData}
use Rattle.nt_outside.specs.Order.{EndsInSync}
use Rattle.nt_outside.specs.World.{World, Asked, Text, HostState}
use Rattle.nt_book.specs.declared.params.Params.{Params}
use Rattle.nt_close.specs.Laws.{EndsOverFirst}
use Rattle.nt_store.specs.Worlds.{AsksFirst, AsksFor}
use Rattle.nt_store.specs.Stored.{asked_for}
use Rattle.nt_store.proofs.Refused.{none_made, nothing_made}
use Rattle.nt_script.specs.declared.store_error.ScriptStoreError.{ScriptStoreError}
use Rattle.nt_script.specs.declared.store_error.ScriptStoreError.TheVariants as script
use Rattle.nt_script.specs.Crashes.{LeavesScript}
use Rattle.nt_script.specs.Storing.{MakesScriptFile, StoresWholeScript, IsWholeScript, ScriptTold}
use Rattle.nt_app.specs.declared.status.Status.{Status}
use Rattle.nt_app.specs.declared.status.Status.TheVariants as status
use Rattle.nt_app.specs.Statuses.{message_of}
use Rattle.nt_app.specs.Reports.{Reports}
use Rattle.nt_app.specs.Seqs.{status_of_script, SeqNamed, AnswersScript, RunsSeq}
use Rattle.nt_app.proofs.Reported.{LeavesFile, made_reported, left_reported, rose_reported}
use Rattle.nt_app.proofs.Writing.{left_after, steps_after}
use Rattle.nt_app.proofs.ScriptEnds.{answers_script, told_passed}

-- want of memory for the words leaves all as it was
pub memory_scripts : (o s i : List ℕ) (p : Params) (state : HostState) → SeqNamed o s i p state state status.Memory
memory_scripts o s i p state = record {
  stored = Err script.Memory;
  answer_is = refl;
  stores = record {
    told = λ w at. (w, at, refl, λ other differs. refl, (inl (refl, refl), refl));
    order = nothing_made o state.world state.world refl;
    crash = λ w w' is is' made. absurd (none_made o state.world state.world refl w w' is is' made);
    asked = (0, sym (append-nil state.asked));
    schema_first = λ w at bad. (0, sym (append-nil state.asked));
    cause = record { later = omega arith; failed = λ outside. absurd (cc) };
    back = record { err_faults = refl; opened = omega arith };
  };
}

-- a message on err changes nothing of what a command left
made_after : (o : List ℕ) (p : Params) (fields : List MemberData) (text : List ℕ) (w v : World) (err : List ℕ)
    → MakesScriptFile o p fields text w v → MakesScriptFile o p fields text w (record v { err = err })
made_after o p fields text w v err told =
    record { made = told.made; bytes = told.bytes; file_is = told.file_is; whole = told.whole }

whole_after : (o s i : List ℕ) (p : Params) (w v : World) (err printed behind : List ℕ) → StoresWholeScript o s i p w v printed behind
    → StoresWholeScript o s i p w (record v { err = err }) printed behind
whole_after o s i p w v err printed behind told = record {
  fields = told.fields;
  text = told.text;
  are = told.are;
  file = made_after o p told.fields told.text w v err told.file;
  line = told.line;
  gained = told.gained;
}

told_after : (o s i : List ℕ) (p : Params) (w v : World) (err : List ℕ) (stored : Result Unit ScriptStoreError)
    → ScriptTold o s i p w v stored → ScriptTold o s i p w (record v { err = err }) stored
told_after o s i p w v err (Ok done) told = (told.0, whole_after o s i p w v err told.0 [] told.1)
told_after o s i p w v err (Err script.Outside) (inl told) = inl (left_after o w v err told.0, told.1)
told_after o s i p w v err (Err script.Outside) (inr (inl told)) =
    inr (inl (told.0, whole_after o s i p w v err [] told.0 told.1, steps_after o EndsOverFirst v err told.2))
told_after o s i p w v err (Err script.Outside) (inr (inr told)) =
    inr (inr (told.0, told.1, whole_after o s i p w v err told.0 told.1 told.2, steps_after o EndsInSync v err told.3))
told_after o s i p w v err (Err script.Memory) told = told
told_after o s i p w v err (Err (script.Schema line kind)) told = told
told_after o s i p w v err (Err (script.Line line kind)) told = told
told_after o s i p w v err (Err (script.Limit reached limit)) told = told

-- the outside failed only where the file isn't written for that
outside_of : (stored : Result Unit ScriptStoreError) (answer : Status) → answer ≡ status_of_script stored → answer ≡ status.Outside
    → IsErrOf stored script.Outside
outside_of (Ok done) answer is outside = let bad = sym is ∙ outside in absurd (cc)
outside_of (Err script.Outside) answer is outside = refl
outside_of (Err script.Memory) answer is outside = let bad = sym is ∙ outside in absurd (cc)
outside_of (Err (script.Schema line kind)) answer is outside = let bad = sym is ∙ outside in absurd (cc)
outside_of (Err (script.Line line kind)) answer is outside = let bad = sym is ∙ outside in absurd (cc)
outside_of (Err (script.Limit reached limit)) answer is outside = let bad = sym is ∙ outside in absurd (cc)

-- so does a crash
crash_after : (o s i : List ℕ) (p : Params) (stored : Result Unit ScriptStoreError) (w v : World) (err : List ℕ)
    → LeavesScript (IsWholeScript s i p w) o v stored → LeavesScript (IsWholeScript s i p w) o (record v { err = err }) stored
crash_after o s i p stored w v err told =
    record { at = told.at; log = told.log; there = told.there; steps = told.steps; leaves = told.leaves }

-- `seq`, and then its message
pub run_seq : (o s i : List ℕ) (p : Params) (old mid new : HostState) (answer : Status) → SeqNamed o s i p old mid answer
    → Reports (message_of answer) mid new → RunsSeq o s i p old new answer
run_seq o s i p old mid new answer writes reports =
    let stores = writes.stores in
    let left : LeavesFile o (λ w v. ScriptTold o s i p w v writes.stored) old mid =
    record { told = stores.told; order = stores.order; back = stores.back } in
    let after = left_reported o (message_of answer) _ old mid new left reports
    (λ w v err told. told_after o s i p w v err writes.stored told) in
    record {
      stored = writes.stored;
      answer_is = writes.answer_is;
      told = after.told;
      order = after.order;
      crash = made_reported o (message_of answer) _ old mid new left reports (λ w v. LeavesScript (IsWholeScript s i p w) o v writes.stored)
          (crash_after o s i p writes.stored) stores.crash;
      asked = subst (λ (l : List Asked). AsksFor (asked_for o s (i ∷ [])) old.asked l writes.stored) (sym reports.asked) stores.asked;
      schema_first = λ w at bad.
          subst (λ (l : List Asked). AsksFirst (Text s ∷ []) old.asked l) (sym reports.asked) (stores.schema_first w at bad);
      failed = λ outside.
          rose_reported _ old mid new reports (stores.cause.failed (outside_of writes.stored answer writes.answer_is outside));
      opened = after.opened;
      passed = λ w at reached limit is.
          let done = stores.told w at in
          told_passed o s i p w done.0 writes.stored reached limit done.4 (sym writes.answer_is ∙ is);
      served = λ w at serves.
          let done = stores.told w at in
          subst (AnswersScript s i p w) (sym writes.answer_is) (answers_script o s i p w done.0 writes.stored done.4
          (λ outside. serves (rose_reported _ old mid new reports (stores.cause.failed outside))));
    }
