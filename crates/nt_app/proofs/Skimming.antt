-- The command `skim`, and the message after it.
use Rattle.std.proofs.Common.{◌≡◌, ◌∙◌, inl, inr, ap, sym, subst, refl, ℕ, List, [], Option, Some, None}
use Rattle.std.proofs.Common.{Result, Ok, Err, arith}
use Rattle.std.specs.Prelude.{IsErrOf, option_map, option_copied}
use Rattle.std.specs.Borrow.{Bor}
use Rattle.std.proofs.lemmas.List.{append-nil}
use Rattle.nt_num.specs.declared.fault.ReadError.{ReadError}
use Rattle.nt_outside.specs.Order.{EndsInSync}
use Rattle.nt_outside.specs.World.{World, Asked, HostState, file}
use Rattle.nt_book.specs.declared.params.Params.{Params}
use Rattle.nt_close.specs.Laws.{EndsOverFirst}
use Rattle.nt_store.specs.Worlds.{IsThereWith, AsksFor}
use Rattle.nt_store.proofs.Refused.{nothing_made}
use Rattle.nt_skim.specs.declared.error.PlanError.TheVariants as plan
use Rattle.nt_skim.specs.declared.selection.Test.{Test}
use Rattle.nt_skim.specs.Planning.{NameTest}
use Rattle.nt_skim.specs.Tests.{test_view}
use Rattle.nt_skim_file.specs.declared.error.SkimStoreError.{SkimStoreError}
use Rattle.nt_skim_file.specs.declared.error.SkimStoreError.TheVariants as store
use Rattle.nt_skim_file.specs.Choosing.{SkimChoiceData}
use Rattle.nt_skim_file.specs.Crashes.{LeavesSkim}
use Rattle.nt_skim_file.specs.Storing.{MakesSkim, DefectTold, StoresSkim, IsWholeSkimOf, SkimTold, StoresSelected}
use Rattle.nt_skim_file.specs.Storing.{skim_asked}
use Rattle.nt_skim_file.proofs.Hosted.{none_left}
use Rattle.nt_command_line.specs.SkimWords.{SaidTest}
use Rattle.nt_app.specs.declared.status.Status.{Status}
use Rattle.nt_app.specs.declared.status.Status.TheVariants as status
use Rattle.nt_app.specs.Statuses.{message_of}
use Rattle.nt_app.specs.Reports.{Reports}
use Rattle.nt_app.specs.Skims.{choice_said, IsChoiceOf, status_of_skim, SkimNamed, AnswersSkim, RunsSkim}
use Rattle.nt_app.proofs.Reported.{LeavesFile, made_reported, left_reported, rose_reported}
use Rattle.nt_app.proofs.SkimEnds.{answers_skim, told_passed}
use Rattle.nt_app.proofs.Writing.{left_after, steps_after}

-- want of memory for the words leaves all as it was
pub memory_skims : (out name : List ℕ) (c : SkimChoiceData) (p : Params) (state : HostState)
    → SkimNamed out name c p state state status.Memory
memory_skims out name c p state = record {
  stored = Err store.Memory;
  answer_is = refl;
  stores = record {
    told = λ w at. (w, at, refl, λ other differs. refl, (inl (refl, refl), refl));
    order = nothing_made out state.world state.world refl;
    crash = none_left (IsWholeSkimOf name c p) out state.world state.world (Err store.Memory) refl;
    asked = (0, sym (append-nil state.asked));
    plan_first = λ w is lacks. (0, sym (append-nil state.asked));
    later = omega arith;
    failed = λ outside. absurd (cc);
    back = record { err_faults = refl; opened = omega arith };
  };
}

-- a test that is lent is the test
pub copied_test : (o : Option (Bor Test)) (t : Option Test) → option_copied o ≡ t
    → option_map (λ (x : Bor Test). test_view x.now) o ≡ option_map test_view t
copied_test None t is = ap (option_map test_view) is
copied_test (Some x) t is = ap (option_map test_view) is

-- what is written of copies of the words is written of the words
pub skims_words : (out name : List ℕ) (names : List (List ℕ)) (said : Option SaidTest) (copies : List (List ℕ)) (test : Option NameTest)
    (p : Params) (old new : HostState) (stored : Result Unit SkimStoreError) → IsChoiceOf names said copies test
    → StoresSelected out name (record { names = copies; test = test }) p old new stored
    → StoresSelected out name (choice_said names said) p old new stored
skims_words out name names said copies test p old new stored is stores =
    subst (λ (l : List (List ℕ)). StoresSelected out name (record { names = l; test = (choice_said names said).test }) p old new stored)
    is.names_are
    (subst (λ (t : Option NameTest). StoresSelected out name (record { names = copies; test = t }) p old new stored) is.test_is stores)

-- a message on err changes nothing of what a command left
makes_after : (out : List ℕ) (c : SkimChoiceData) (p : Params) (bytes : List ℕ) (w v : World) (err : List ℕ)
    → MakesSkim out c p bytes w v → MakesSkim out c p bytes w (record v { err = err })
makes_after out c p bytes w v err told = record {
  selection = told.selection;
  entries = told.entries;
  all = told.all;
  made = record { made = told.made.made; bytes = told.made.bytes; file_is = told.made.file_is; whole = told.made.whole };
}

whole_after : (out name : List ℕ) (c : SkimChoiceData) (p : Params) (w v : World) (err printed behind : List ℕ)
    → StoresSkim out name c p w v printed behind → StoresSkim out name c p w (record v { err = err }) printed behind
unfolding makes_after
whole_after out name c p w v err printed behind told = record {
  bytes = told.bytes;
  there = told.there;
  makes = makes_after out c p told.bytes w v err told.makes;
  line = told.line;
  gained = told.gained;
}

defect_after : (out : List ℕ) (c : SkimChoiceData) (e : ReadError) (w v : World) (err : List ℕ) (found : Option (List ℕ))
    → IsThereWith (λ bytes. DefectTold out c bytes e w v) found
    → IsThereWith (λ bytes. DefectTold out c bytes e w (record v { err = err })) found
defect_after out c e w v err None told = told
defect_after out c e w v err (Some bytes) told = record { fault = told.fault; left = told.left }

told_after : (out name : List ℕ) (c : SkimChoiceData) (p : Params) (w v : World) (err : List ℕ) (stored : Result Unit SkimStoreError)
    → SkimTold out name c p w v stored → SkimTold out name c p w (record v { err = err }) stored
told_after out name c p w v err (Ok done) told = (told.0, whole_after out name c p w v err told.0 [] told.1)
told_after out name c p w v err (Err store.Outside) (inl told) = inl (left_after out w v err told.0, told.1)
told_after out name c p w v err (Err store.Outside) (inr (inl told)) =
    inr (inl (told.0, whole_after out name c p w v err [] told.0 told.1, steps_after out EndsOverFirst v err told.2))
told_after out name c p w v err (Err store.Outside) (inr (inr told)) =
    inr (inr (told.0, told.1, whole_after out name c p w v err told.0 told.1 told.2, steps_after out EndsInSync v err told.3))
told_after out name c p w v err (Err store.Memory) told = told
told_after out name c p w v err (Err (store.Defect e)) told = (defect_after out c e w v err (file w name) told.0, told.1)
told_after out name c p w v err (Err (store.Unplanned e)) told = told
told_after out name c p w v err (Err (store.Limit reached limit)) told = told

-- the outside failed only where the file isn't written for that
outside_of : (stored : Result Unit SkimStoreError) (answer : Status) → answer ≡ status_of_skim stored → answer ≡ status.Outside
    → IsErrOf stored store.Outside
outside_of (Ok done) answer is outside = let bad = sym is ∙ outside in absurd (cc)
outside_of (Err store.Outside) answer is outside = refl
outside_of (Err store.Memory) answer is outside = let bad = sym is ∙ outside in absurd (cc)
outside_of (Err (store.Defect e)) answer is outside = let bad = sym is ∙ outside in absurd (cc)
outside_of (Err (store.Unplanned (plan.UnknownField name))) answer is outside = let bad = sym is ∙ outside in absurd (cc)
outside_of (Err (store.Unplanned (plan.Twice name))) answer is outside = let bad = sym is ∙ outside in absurd (cc)
outside_of (Err (store.Unplanned (plan.NotWritable name))) answer is outside = let bad = sym is ∙ outside in absurd (cc)
outside_of (Err (store.Unplanned (plan.NotANumber name))) answer is outside = let bad = sym is ∙ outside in absurd (cc)
outside_of (Err (store.Unplanned plan.Memory)) answer is outside = let bad = sym is ∙ outside in absurd (cc)
outside_of (Err (store.Limit reached limit)) answer is outside = let bad = sym is ∙ outside in absurd (cc)

-- so does a crash
crash_after : (out name : List ℕ) (c : SkimChoiceData) (p : Params) (stored : Result Unit SkimStoreError) (w v : World) (err : List ℕ)
    → LeavesSkim (IsWholeSkimOf name c p w) out v stored → LeavesSkim (IsWholeSkimOf name c p w) out (record v { err = err }) stored
crash_after out name c p stored w v err told =
    record { at = told.at; log = told.log; there = told.there; steps = told.steps; leaves = told.leaves }

-- `skim`, and then its message
pub run_skim : (out name : List ℕ) (c : SkimChoiceData) (p : Params) (old mid new : HostState) (answer : Status)
    → SkimNamed out name c p old mid answer → Reports (message_of answer) mid new → RunsSkim out name c p old new answer
run_skim out name c p old mid new answer skims reports =
    let stores = skims.stores in
    let left : LeavesFile out (λ w v. SkimTold out name c p w v skims.stored) old mid =
    record { told = stores.told; order = stores.order; back = stores.back } in
    let after = left_reported out (message_of answer) _ old mid new left reports
    (λ w v err told. told_after out name c p w v err skims.stored told) in
    record {
      stored = skims.stored;
      answer_is = skims.answer_is;
      told = after.told;
      order = after.order;
      crash = made_reported out (message_of answer) _ old mid new left reports
          (λ w v. LeavesSkim (IsWholeSkimOf name c p w) out v skims.stored) (crash_after out name c p skims.stored) stores.crash;
      asked = subst (λ (l : List Asked). AsksFor (skim_asked out name) old.asked l skims.stored) (sym reports.asked) stores.asked;
      plan_first = λ w is lacks. let first = stores.plan_first w is lacks in (first.0, reports.asked ∙ first.1);
      failed = λ outside. rose_reported _ old mid new reports (stores.failed (outside_of skims.stored answer skims.answer_is outside));
      opened = after.opened;
      passed = λ w at reached limit is.
          let done = stores.told w at in
          told_passed out name c p w done.0 skims.stored reached limit done.4 (sym skims.answer_is ∙ is);
      served = λ w at serves.
          let done = stores.told w at in
          subst (AnswersSkim name c p w) (sym skims.answer_is) (answers_skim out name c p w done.0 skims.stored done.4
          (λ outside. serves (rose_reported _ old mid new reports (stores.failed outside))));
    }
