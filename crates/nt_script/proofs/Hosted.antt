-- What is left of a host once the disk of a script's file is back.
use Rattle.std.proofs.Common.{◌≡◌, ◌⊎◌, ◌∙◌, inl, inr, sym, subst, refl, ℕ, ◌<◌, ◌≤◌, List, [], ◌∷◌, ◌++◌, Option, Some, Result}
use Rattle.std.proofs.Common.{Ok, Err, arith}
use Rattle.std.specs.Prelude.{IsErrOf}
use Rattle.std.proofs.lemmas.List.{append-nil}
use Rattle.nt_types.specs.ShapeData.{MemberData}
use Rattle.nt_outside.specs.declared.fault.Refused.{Refused}
use Rattle.nt_outside.specs.declared.fault.Refused.TheVariants as refused
use Rattle.nt_outside.specs.Disk.{DiskState}
use Rattle.nt_outside.specs.Faults.{TakesIn}
use Rattle.nt_outside.specs.Held.{Held}
use Rattle.nt_outside.specs.Log.{Step}
use Rattle.nt_outside.specs.Order.{FirstByteLast, BeginsOpen, EndsInSync}
use Rattle.nt_outside.specs.Source.{SourceState}
use Rattle.nt_outside.specs.World.{World, Asked, Out, HostState, Creates, IsNewDisk, KeepsDisk, TakesBack, creates, keeps_disk}
use Rattle.nt_book.specs.declared.params.Params.{Params}
use Rattle.nt_close.specs.Laws.{EndsOverFirst}
use Rattle.nt_store.specs.Worlds.{AsksFirst, OthersStay, LeavesOpen, IsWrittenInOrder, WritesInOrder, IsLeftAfter}
use Rattle.nt_store.specs.Writing.{HoldsNow}
use Rattle.nt_store.proofs.Asking.{asks_all}
use Rattle.nt_store.proofs.Ends.{stored_kept, file_kept, kept_open, kept_never_begun, others_kept}
use Rattle.nt_store.proofs.Refused.{world_is, none_made, nothing_made}
use Rattle.nt_script.specs.declared.storing.Counts.{Counts}
use Rattle.nt_script.specs.declared.store_error.ScriptStoreError.{ScriptStoreError}
use Rattle.nt_script.specs.declared.store_error.ScriptStoreError.TheVariants.{Outside, Memory, Schema, Line, Limit}
use Rattle.nt_script.specs.StoreErrors.{script_error_of_refusal}
use Rattle.nt_script.specs.Whole.{IsScriptFile}
use Rattle.nt_script.specs.Crashes.{ScriptCrash, LeavesScript, ScriptCrashTold}
use Rattle.nt_script.specs.Filing.{ScriptFileTold, WritesScript}
use Rattle.nt_script.specs.Storing.{MakesScriptFile, FilesTold, HasScriptCause, FilesText}

-- a disk comes back under the name that it was made for
abbrev ComesBack : List ℕ → World → Option World → Option Held → Type 0
ComesBack out w world held = (h : Held) → held ≡ Some h → world ≡ Some (keeps_disk out h (creates out w))

module _ (out : List ℕ) (w : World) (world : Option World) (held : Option Held) (keeps : ComesBack out w world held) where
  -- the world once the disk is back
  abbrev after : Held → World
  after h = keeps_disk out h (creates out w)

  -- its steps are in order
  back_in_order : (old : Option World) → HoldsNow held (λ h. FirstByteLast h.log) → WritesInOrder out old world
  back_in_order old kept v v' is is' made =
      subst (IsWrittenInOrder out) (world_is (after kept.0) v' (sym (keeps kept.0 kept.1) ∙ is')) (record {
        at = record { bytes = kept.0.image; log = Some kept.0.log };
        log = kept.0.log;
        there = stored_kept (creates out w).files out (record { bytes = kept.0.image; log = Some kept.0.log });
        steps = refl;
        order = kept.2;
      })

  module _ (p : Params) (fields : List MemberData) (text : List ℕ) where
    -- what a crash leaves
    back_crash : (result : Result Counts ScriptStoreError) → HoldsNow held (λ h. ScriptCrash (IsScriptFile p fields text) h.log result)
        → (v : World) → world ≡ Some v → LeavesScript (IsScriptFile p fields text) out v result
    back_crash result crash v is =
        subst (λ (u : World). LeavesScript (IsScriptFile p fields text) out u result)
        (world_is (after crash.0) v (sym (keeps crash.0 crash.1) ∙ is)) (record {
          at = record { bytes = crash.0.image; log = Some crash.0.log };
          log = crash.0.log;
          there = stored_kept (creates out w).files out (record { bytes = crash.0.image; log = Some crash.0.log });
          steps = refl;
          leaves = crash.2;
        })

    -- what is left of the files then
    abbrev IsBack : Result Counts ScriptStoreError → Type 0
    IsBack result =
        (w' : World) × (world ≡ Some w') × (w'.err ≡ w.err) × (w'.out ≡ w.out) × OthersStay out w w'
        × FilesTold out p fields text w w' result

    with_told : (result : Result Counts ScriptStoreError) (h : Held) → held ≡ Some h → FilesTold out p fields text w (after h) result
        → IsBack result
    with_told result h is told = (after h, keeps h is, refl, refl, others_kept out h (creates out w), told)

    makes : (h : Held) → IsScriptFile p fields text h.image → MakesScriptFile out p fields text w (after h)
    makes h whole = record { made = refl; bytes = h.image; file_is = file_kept out h (creates out w); whole = whole }

    opens : (h : Held) → BeginsOpen h.image → LeavesOpen out w (after h)
    opens h begins = (refl, kept_open out h (creates out w) begins)

    -- how its steps end
    ends_so : (Ends : List Step → Type 0) (h : Held) → Ends h.log → IsLeftAfter Ends out (after h)
    ends_so Ends h ends = record {
      at = record { bytes = h.image; log = Some h.log };
      log = h.log;
      there = stored_kept (creates out w).files out (record { bytes = h.image; log = Some h.log });
      steps = refl;
      ends = ends;
    }

    back_told : (disk : DiskState) → held ≡ disk.held → (result : Result Counts ScriptStoreError)
        → ScriptFileTold fields p text disk result → IsBack result
    back_told disk same (Ok counts) ((h, is, (whole, ends)), numbers) =
        with_told (Ok counts) h (same ∙ is) (makes h whole, ends_so EndsInSync h ends, numbers)
    back_told disk same (Err Outside) (inl (h, is, inl begins)) =
        with_told (Err Outside) h (same ∙ is) (inl (inr (refl, inl (opens h begins).1)))
    back_told disk same (Err Outside) (inl (h, is, inr never)) =
        with_told (Err Outside) h (same ∙ is) (inl (inr (refl, inr (kept_never_begun out h (creates out w) never))))
    back_told disk same (Err Outside) (inr (h, is, (whole, ends))) =
        with_told (Err Outside) h (same ∙ is) (inr (makes h whole, ends_so EndsOverFirst h ends))
    back_told disk same (Err Memory) (h, is, begins) = with_told (Err Memory) h (same ∙ is) (inr (opens h begins))
    back_told disk same (Err (Line line kind)) (bad, (h, is, begins)) =
        with_told (Err (Line line kind)) h (same ∙ is) (bad, opens h begins)
    back_told disk same (Err (Limit reached most)) (over, (h, is, begins)) =
        with_told (Err (Limit reached most)) h (same ∙ is) (over, opens h begins)
    back_told disk same (Err (Schema line kind)) told = absurd told

-- the counts once text and disk are back
cause_filed : (old made texts new text disk : ℕ) (result : Result Counts ScriptStoreError) → old ≤ made → TakesIn made texts text
    → TakesIn texts new disk → (result ≡ Err Outside → (0 < disk) ⊎ (0 < text)) → HasScriptCause old new result
cause_filed old made texts new text disk result first second third failed = record {
  later = omega (arith, first, second.later, third.later);
  failed = λ is.
      elim (failed (is_outside result is)) [
        | inl some ↦ omega (arith, first, second.later, third.later, third.sum, some)
        | inr some ↦ omega (arith, first, second.later, second.sum, third.later, some)
      ];
}
  where
    is_outside : (result : Result Counts ScriptStoreError) → IsErrOf result Outside → result ≡ Err Outside
    is_outside (Ok value) is = absurd (cc is)
    is_outside (Err e) is = cc

-- a disk was made and written, and text and disk came back
pub files_back : {T : Type 0} (out : List ℕ) (p : Params) (fields : List MemberData) (old made mid new : HostState) (value : T)
    (text text' : SourceState) (disk disk' : DiskState) (result : Result Counts ScriptStoreError) → Creates out old made (Ok value)
    → IsNewDisk old.world disk → WritesScript fields p text text' disk disk' result → TakesBack text'.faults made mid
    → mid.world ≡ made.world → KeepsDisk disk' mid new → FilesText out p fields text old new result
files_back out p fields old made mid new value text text' disk disk' result begun fresh wrote back world kept =
    let keeps : (w : World) → old.world ≡ Some w → ComesBack out w new.world disk'.held =
    λ w is h held. kept.world out h (creates out w) (world ∙ begun.ok w is) refl held in
    record {
      told = λ w bytes is tell.
          back_told out w new.world disk'.held (keeps w is) p fields bytes disk' refl result
          (wrote.left bytes tell (fresh.held w is)).told;
      order = λ w w' is is' made-disk.
          back_in_order out w new.world disk'.held (keeps w is) old.world (wrote.order (fresh.held w is)) w w' is is' made-disk;
      crash = λ bytes tell w w' is is' made-disk.
          back_crash out w new.world disk'.held (keeps w is) p fields bytes result (wrote.left bytes tell (fresh.held w is)).crash w' is';
      asked = asks_all result old.asked new.asked (Out out ∷ []) (kept.back.asked ∙ (back.asked ∙ begun.asks.ok));
      cause = cause_filed old.faults made.faults mid.faults new.faults text'.faults disk'.faults result begun.asks.cause.later
          back.faults_taken kept.back.faults_taken wrote.failed;
      err_faults = kept.back.err_faults ∙ (back.err_faults ∙ begun.asks.err_faults);
      opened = omega (arith, begun.asks.opened, back.opened, kept.back.opened);
    }

-- the disk was refused
pub asks_refused : {T : Type 0} (r : Refused) (old new : List Asked) (a : Asked)
    → (IsErrOf {T = T} (Err r) refused.Failed → new ≡ old ++ a ∷ [])
    → (IsErrOf {T = T} (Err r) refused.Memory → (new ≡ old) ⊎ (new ≡ old ++ a ∷ [])) → AsksFirst (a ∷ []) old new
asks_refused refused.Failed old new a failed memory = (1, failed refl)
asks_refused refused.Memory old new a failed memory = elim (memory refl) [
  | inl stays ↦ (0, stays ∙ sym (append-nil old))
  | inr asked ↦ (1, asked)
]

refused_files : (out : List ℕ) (p : Params) (fields : List MemberData) (text : List ℕ) (w : World) (r : Refused)
    → FilesTold out p fields text w w (Err (script_error_of_refusal r))
refused_files out p fields text w refused.Failed = inl (inl (refl, refl))
refused_files out p fields text w refused.Memory = inl (refl, refl)

-- a refusal is a failure only where the outside failed
pub refusal_fails : {T S : Type 0} (r : Refused) → IsErrOf {T = S} (Err (script_error_of_refusal r)) Outside
    → IsErrOf {T = T} (Err r) refused.Failed
refusal_fails refused.Failed is = refl
refusal_fails refused.Memory is = absurd (cc is)

-- where no disk was made there is nothing to leave
pub none_left : {T : Type 0} (Whole : World → List ℕ → Type 0) (name : List ℕ) (old new : Option World)
    (result : Result T ScriptStoreError) → new ≡ old → ScriptCrashTold Whole name old new result
none_left Whole name old new result stays w w' is is' made = absurd (none_made name old new stays w w' is is' made)

-- the disk was refused, and the text came back
pub files_none : {T : Type 0} (out : List ℕ) (p : Params) (fields : List MemberData) (old mid new : HostState) (text : SourceState)
    (r : Refused) → Creates {T = T} out old mid (Err r) → TakesBack text.faults mid new → new.world ≡ mid.world
    → FilesText out p fields text old new (Err (script_error_of_refusal r))
files_none {T} out p fields old mid new text r begun back world =
    let stays = world ∙ begun.err in
    record {
      told = λ w bytes is tell. (w, stays ∙ is, refl, refl, λ other differs. refl, refused_files out p fields bytes w r);
      order = nothing_made out old.world new.world stays;
      crash = λ bytes tell. none_left (λ w. IsScriptFile p fields bytes) out old.world new.world (Err (script_error_of_refusal r)) stays;
      asked =
          subst (AsksFirst (Out out ∷ []) old.asked) (sym back.asked)
          (asks_refused r old.asked mid.asked (Out out) begun.asks.failed begun.asks.memory);
      cause = record {
        later = omega (arith, begun.asks.cause.later, back.faults_taken.later);
        failed = λ is.
            let rose = begun.asks.cause.failed (refusal_fails {T = T} r is) in
            omega (arith, rose, back.faults_taken.later);
      };
      err_faults = back.err_faults ∙ begun.asks.err_faults;
      opened = omega (arith, begun.asks.refused, back.opened);
    }
