-- The command `write`, and the message after it.
use Rattle.std.proofs.Common.{◌≡◌, ◌∙◌, inl, inr, sym, subst, refl, ℕ, List, [], ◌∷◌}
use Rattle.std.proofs.Common.{Result, Ok, Err, arith}
use Rattle.std.specs.Prelude.{IsErrOf}
use Rattle.std.proofs.lemmas.List.{append-nil}
use Rattle.nt_outside.specs.Log.{Step}
use Rattle.nt_outside.specs.World.{World, Asked, Text, HostState}
use Rattle.nt_book.specs.declared.params.Params.{Params}
use Rattle.nt_close.specs.Laws.{EndsOverFirst}
use Rattle.nt_store.specs.declared.error.StoreError.{StoreError}
use Rattle.nt_store.specs.declared.error.StoreError.TheVariants as store
use Rattle.nt_store.specs.Orders.{GainsOrderPart}
use Rattle.nt_store.specs.Worlds.{AsksFirst, AsksFor, IsLeftByFailure, IsLeftAfter}
use Rattle.nt_store.specs.Crashes.{IsWholeOf, LeavesAllOrNone}
use Rattle.nt_store.specs.Stored.{StoresWhole, StoreTold, asked_for}
use Rattle.nt_app.specs.declared.status.Status.{Status}
use Rattle.nt_app.specs.declared.status.Status.TheVariants as status
use Rattle.nt_app.specs.Statuses.{message_of}
use Rattle.nt_app.specs.Reports.{Reports}
use Rattle.nt_app.specs.Writes.{status_of_store, WritesNamed, AnswersTexts, RunsWrite}
use Rattle.nt_store.proofs.Refused.{nothing_made}
use Rattle.nt_store.proofs.Crashed.{none_left}
use Rattle.nt_store.proofs.Crashing.{leaves_as}
use Rattle.nt_app.proofs.Reported.{LeavesFile, made_reported, left_reported, rose_reported}
use Rattle.nt_app.proofs.WriteEnds.{answers_texts}

-- want of memory for the words leaves all as it was
pub memory_writes : (o s : List ℕ) (is : List (List ℕ)) (p : Params) (state : HostState) → WritesNamed o s is p state state status.Memory
memory_writes o s is p state = record {
  stored = Err store.Memory;
  answer_is = refl;
  stores = record {
    told = λ w at. (w, at, refl, λ other differs. refl, inl (inl (refl, refl), refl));
    order = nothing_made o state.world state.world refl;
    crash = none_left o s is p state.world state.world (Err store.Memory) refl;
    asked = (0, sym (append-nil state.asked));
    schema_first = λ w at bad. (0, sym (append-nil state.asked));
    cause = record { later = omega arith; failed = λ outside. absurd (cc) };
    back = record { err_faults = refl; opened = omega arith };
  };
}

-- a message on err changes nothing of what a command left
gained_after : (s : List ℕ) (is : List (List ℕ)) (p : Params) (w v : World) (err printed behind : List ℕ)
    → GainsOrderPart s is p w v printed behind → GainsOrderPart s is p w (record v { err = err }) printed behind
gained_after s is p w v err printed behind part = record {
  fields = part.fields;
  texts = part.texts;
  are = part.are;
  order = part.order;
  of = part.of;
  line = part.line;
  gained = part.gained;
}

whole_after : (o s : List ℕ) (is : List (List ℕ)) (p : Params) (w v : World) (err : List ℕ) → StoresWhole o s is p w v
    → StoresWhole o s is p w (record v { err = err })
whole_after o s is p w v err told = record {
  fields = told.fields;
  texts = told.texts;
  are = told.are;
  made = told.made;
  bytes = told.bytes;
  file_is = told.file_is;
  order = told.order;
  stored = told.stored;
  printed = told.printed;
}

pub left_after : (o : List ℕ) (w v : World) (err : List ℕ) → IsLeftByFailure o w v → IsLeftByFailure o w (record v { err = err })
left_after o w v err (inl kept) = inl kept
left_after o w v err (inr (made, inl unfinished)) = inr (made, inl unfinished)
left_after o w v err (inr (made, inr never)) = inr (
  made,
  inr (record {
    at = never.at;
    len = never.len;
    there = never.there;
    log = never.log;
  }),
)

pub steps_after : (o : List ℕ) (Ends : List Step → Type 0) (v : World) (err : List ℕ) → IsLeftAfter Ends o v
    → IsLeftAfter Ends o (record v { err = err })
steps_after o Ends v err left = record { at = left.at; log = left.log; there = left.there; steps = left.steps; ends = left.ends }

told_after : (o s : List ℕ) (is : List (List ℕ)) (p : Params) (w v : World) (err : List ℕ) (stored : Result Unit StoreError)
    → StoreTold o s is p w v stored → StoreTold o s is p w (record v { err = err }) stored
told_after o s is p w v err (Ok done) told = whole_after o s is p w v err told
told_after o s is p w v err (Err store.Outside) (inl told) = inl (left_after o w v err told.0, told.1)
told_after o s is p w v err (Err store.Outside) (inr (inl (printed, behind, part, left))) =
    inr (inl (printed, behind, gained_after s is p w v err printed behind part, left))
told_after o s is p w v err (Err store.Outside) (inr (inr told)) =
    inr (inr (whole_after o s is p w v err told.0, steps_after o EndsOverFirst v err told.1))
told_after o s is p w v err (Err store.Memory) (inl told) = inl told
told_after o s is p w v err (Err store.Memory) (inr (line, part, left)) = inr (line, gained_after s is p w v err line [] part, left)
told_after o s is p w v err (Err (store.Schema line kind)) told = told
told_after o s is p w v err (Err (store.Line input line kind)) told = told
told_after o s is p w v err (Err (store.Limit reached limit)) (inl told) = inl told
told_after o s is p w v err (Err (store.Limit reached limit)) (inr (line, over, left, part)) =
    inr (line, over, left, gained_after s is p w v err line [] part)

-- the outside failed only where the file isn't written for that
outside_of : (stored : Result Unit StoreError) (answer : Status) → answer ≡ status_of_store stored → answer ≡ status.Outside
    → IsErrOf stored store.Outside
outside_of (Ok done) answer is outside = let bad = sym is ∙ outside in absurd (cc)
outside_of (Err store.Outside) answer is outside = refl
outside_of (Err store.Memory) answer is outside = let bad = sym is ∙ outside in absurd (cc)
outside_of (Err (store.Schema line kind)) answer is outside = let bad = sym is ∙ outside in absurd (cc)
outside_of (Err (store.Line input line kind)) answer is outside = let bad = sym is ∙ outside in absurd (cc)
outside_of (Err (store.Limit reached limit)) answer is outside = let bad = sym is ∙ outside in absurd (cc)

-- so does a crash
crash_after : (o s : List ℕ) (is : List (List ℕ)) (p : Params) (stored : Result Unit StoreError) (w v : World) (err : List ℕ)
    → LeavesAllOrNone o s is p w v stored → LeavesAllOrNone o s is p w (record v { err = err }) stored
crash_after o s is p stored w v err told = record {
  at = told.at;
  log = told.log;
  there = told.there;
  steps = told.steps;
  leaves = leaves_as (IsWholeOf s is p w v) (IsWholeOf s is p w (record v { err = err })) told.log stored
      (λ bytes whole. record {
        fields = whole.fields;
        texts = whole.texts;
        are = whole.are;
        order = whole.order;
        stored = whole.stored;
        printed = whole.printed;
      }) told.leaves;
}

-- `write`, and then its message
pub run_write : (o s : List ℕ) (is : List (List ℕ)) (p : Params) (old mid new : HostState) (answer : Status)
    → WritesNamed o s is p old mid answer
    → Reports (message_of answer) mid new → RunsWrite o s is p old new answer
run_write o s is p old mid new answer writes reports =
    let stores = writes.stores in
    let left : LeavesFile o (λ w v. StoreTold o s is p w v writes.stored) old mid =
    record { told = stores.told; order = stores.order; back = stores.back } in
    let after = left_reported o (message_of answer) _ old mid new left reports
    (λ w v err told. told_after o s is p w v err writes.stored told) in
    record {
      stored = writes.stored;
      answer_is = writes.answer_is;
      told = after.told;
      order = after.order;
      crash = made_reported o (message_of answer) _ old mid new left reports (λ w v. LeavesAllOrNone o s is p w v writes.stored)
          (crash_after o s is p writes.stored) stores.crash;
      asked = subst (λ (l : List Asked). AsksFor (asked_for o s is) old.asked l writes.stored) (sym reports.asked) stores.asked;
      schema_first = λ w at bad.
          subst (λ (l : List Asked). AsksFirst (Text s ∷ []) old.asked l) (sym reports.asked) (stores.schema_first w at bad);
      failed = λ outside.
          rose_reported _ old mid new reports (stores.cause.failed (outside_of writes.stored answer writes.answer_is outside));
      opened = after.opened;
      served = λ w at serves.
          let done = stores.told w at in
          subst (AnswersTexts s is p w) (sym writes.answer_is) (answers_texts o s is p w done.0 writes.stored done.4
          (λ outside. serves (rose_reported _ old mid new reports (stores.cause.failed outside))));
    }
