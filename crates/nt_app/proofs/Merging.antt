-- The command `merge`, and the message after it.
use Rattle.std.proofs.Common.{◌≡◌, ◌∙◌, inl, inr, sym, subst, refl, ℕ, List, [], map, Result, Ok, Err, arith}
use Rattle.std.specs.Prelude.{IsErrOf}
use Rattle.std.proofs.lemmas.List.{append-nil}
use Rattle.nt_outside.specs.Order.{EndsInSync}
use Rattle.nt_outside.specs.World.{World, Asked, File, HostState}
use Rattle.nt_num.specs.declared.fault.ReadError.{ReadError}
use Rattle.nt_book.specs.declared.params.Params.{Params}
use Rattle.nt_close.specs.Laws.{EndsOverFirst}
use Rattle.nt_store.specs.Worlds.{AsksFirst, AsksFor}
use Rattle.nt_store.proofs.Refused.{none_made, nothing_made}
use Rattle.nt_merge_files.specs.declared.error.MergeStoreError.{MergeStoreError}
use Rattle.nt_merge_files.specs.declared.error.MergeStoreError.TheVariants as store
use Rattle.nt_merge_files.specs.Crashes.{LeavesMerge}
use Rattle.nt_merge_files.specs.Storing.{MakesMerged, FirstFaultTold, StoresMerge, IsWholeMergeOf, MergeTold, merge_asked}
use Rattle.nt_app.specs.declared.status.Status.{Status}
use Rattle.nt_app.specs.declared.status.Status.TheVariants as status
use Rattle.nt_app.specs.Statuses.{message_of}
use Rattle.nt_app.specs.Reports.{Reports}
use Rattle.nt_app.specs.Merges.{status_of_merge, MergeNamed, AnswersMerge, RunsMerge}
use Rattle.nt_app.proofs.MergeEnds.{answers_merge}
use Rattle.nt_app.proofs.Reported.{LeavesFile, made_reported, left_reported, rose_reported}
use Rattle.nt_app.proofs.Writing.{left_after, steps_after}

-- want of memory for the words leaves all as it was
pub memory_merges : (out : List ℕ) (names : List (List ℕ)) (p : Params) (state : HostState)
    → MergeNamed out names p state state status.Memory
memory_merges out names p state = record {
  stored = Err store.Memory;
  answer_is = refl;
  stores = record {
    told = λ w at. (w, at, refl, λ other differs. refl, (inl (refl, refl), refl));
    order = nothing_made out state.world state.world refl;
    crash = λ w w' is is' made. absurd (none_made out state.world state.world refl w w' is is' made);
    asked = (0, sym (append-nil state.asked));
    plan_first = λ w at none. (0, sym (append-nil state.asked));
    later = omega arith;
    failed = λ outside. absurd (cc);
    back = record { err_faults = refl; opened = omega arith };
  };
}

-- a message on err changes nothing of what a command left
makes_after : (Whole : List ℕ → Type 0) (out : List ℕ) (w v : World) (err : List ℕ) → MakesMerged Whole out w v
    → MakesMerged Whole out w (record v { err = err })
makes_after Whole out w v err told = record { made = told.made; image = told.image; file_is = told.file_is; whole = told.whole }

whole_after : (out : List ℕ) (names : List (List ℕ)) (p : Params) (w v : World) (err printed behind : List ℕ)
    → StoresMerge out names p w v printed behind → StoresMerge out names p w (record v { err = err }) printed behind
whole_after out names p w v err printed behind told = record {
  bytes = told.bytes;
  there = told.there;
  clusters = told.clusters;
  makes = makes_after _ out w v err told.makes;
  line = told.line;
  gained = told.gained;
}

defect_after : (out : List ℕ) (p : Params) (bytes : List (List ℕ)) (file : ℕ) (e : ReadError) (w v : World) (err : List ℕ)
    → FirstFaultTold out p bytes file e w v → FirstFaultTold out p bytes file e w (record v { err = err })
defect_after out p bytes file e w v err (inl told) = inl told
defect_after out p bytes file e w v err (inr told) = inr told

told_after : (out : List ℕ) (names : List (List ℕ)) (p : Params) (stored : Result Unit MergeStoreError) (w v : World) (err : List ℕ)
    → MergeTold out names p w v stored → MergeTold out names p w (record v { err = err }) stored
told_after out names p (Ok done) w v err told = (told.0, whole_after out names p w v err told.0 [] told.1)
told_after out names p (Err store.Outside) w v err (inl told) = inl (left_after out w v err told.0, told.1)
told_after out names p (Err store.Outside) w v err (inr (inl told)) =
    inr (inl (told.0, whole_after out names p w v err [] told.0 told.1, steps_after out EndsOverFirst v err told.2))
told_after out names p (Err store.Outside) w v err (inr (inr told)) =
    inr (inr (told.0, told.1, whole_after out names p w v err told.0 told.1 told.2, steps_after out EndsInSync v err told.3))
told_after out names p (Err store.Memory) w v err told = told
told_after out names p (Err (store.Defect file e)) w v err told =
    (record { bytes = told.0.bytes; there = told.0.there; has = defect_after out p told.0.bytes file e w v err told.0.has }, told.1)
told_after out names p (Err (store.Schema place)) w v err told = told
told_after out names p (Err (store.Limit reached limit)) w v err told = told

-- so does a crash
crash_after : (out : List ℕ) (names : List (List ℕ)) (p : Params) (stored : Result Unit MergeStoreError) (w v : World) (err : List ℕ)
    → LeavesMerge (IsWholeMergeOf names p w) out v stored → LeavesMerge (IsWholeMergeOf names p w) out (record v { err = err }) stored
crash_after out names p stored w v err told =
    record { at = told.at; log = told.log; there = told.there; steps = told.steps; leaves = told.leaves }

-- the outside failed only where the file isn't written for that
outside_of : (stored : Result Unit MergeStoreError) (answer : Status) → answer ≡ status_of_merge stored → answer ≡ status.Outside
    → IsErrOf stored store.Outside
outside_of (Ok done) answer is outside = let bad = sym is ∙ outside in absurd (cc)
outside_of (Err store.Outside) answer is outside = refl
outside_of (Err store.Memory) answer is outside = let bad = sym is ∙ outside in absurd (cc)
outside_of (Err (store.Defect file e)) answer is outside = let bad = sym is ∙ outside in absurd (cc)
outside_of (Err (store.Schema place)) answer is outside = let bad = sym is ∙ outside in absurd (cc)
outside_of (Err (store.Limit reached limit)) answer is outside = let bad = sym is ∙ outside in absurd (cc)

-- `merge`, and then its message
pub run_merge : (out : List ℕ) (names : List (List ℕ)) (p : Params) (old mid new : HostState) (answer : Status)
    → MergeNamed out names p old mid answer → Reports (message_of answer) mid new → RunsMerge out names p old new answer
run_merge out names p old mid new answer merges reports =
    let stores = merges.stores in
    let left : LeavesFile out (λ w v. MergeTold out names p w v merges.stored) old mid =
    record { told = stores.told; order = stores.order; back = stores.back } in
    let after = left_reported out (message_of answer) _ old mid new left reports (told_after out names p merges.stored) in
    record {
      stored = merges.stored;
      answer_is = merges.answer_is;
      told = after.told;
      order = after.order;
      crash = made_reported out (message_of answer) _ old mid new left reports
          (λ w v. LeavesMerge (IsWholeMergeOf names p w) out v merges.stored) (crash_after out names p merges.stored) stores.crash;
      asked = subst (λ (l : List Asked). AsksFor (merge_asked out names) old.asked l merges.stored) (sym reports.asked) stores.asked;
      plan_first = λ w at none.
          subst (λ (l : List Asked). AsksFirst (map File names) old.asked l) (sym reports.asked) (stores.plan_first w at none);
      failed = λ outside. rose_reported _ old mid new reports (stores.failed (outside_of merges.stored answer merges.answer_is outside));
      opened = after.opened;
      served = λ w at serves.
          let done = stores.told w at in
          subst (AnswersMerge names p w) (sym merges.answer_is) (answers_merge out names p w done.0 merges.stored done.4
          (λ outside. serves (rose_reported _ old mid new reports (stores.failed outside))));
    }
