-- What is left of a host once the disk of a selection is back.
use Rattle.std.proofs.Common.{◌≡◌, ◌⊎◌, ◌∙◌, inl, inr, sym, subst, refl, ℕ, ◌<◌, ◌≤◌, List, [], ◌∷◌, Option, Some, Result}
use Rattle.std.proofs.Common.{Ok, Err, arith}
use Rattle.std.specs.Prelude.{IsErrOf}
use Rattle.nt_num.specs.declared.fault.ReadError.{ReadError}
use Rattle.nt_types.specs.TreeData.{TreesData}
use Rattle.nt_outside.specs.declared.fault.Refused.{Refused}
use Rattle.nt_outside.specs.declared.fault.Refused.TheVariants as refused
use Rattle.nt_outside.specs.Disk.{DiskState}
use Rattle.nt_outside.specs.Faults.{Rose, TakesIn}
use Rattle.nt_outside.specs.File.{FileState}
use Rattle.nt_outside.specs.Held.{Held}
use Rattle.nt_outside.specs.Order.{FirstByteLast, BeginsOpen, EndsInSync}
use Rattle.nt_outside.specs.World.{World, Out, HostState, Creates, IsNewDisk, KeepsDisk, creates, keeps_disk}
use Rattle.nt_book.specs.declared.params.Params.{Params}
use Rattle.nt_close.specs.Laws.{EndsOverFirst}
use Rattle.nt_file_meaning.specs.Outlines.{Outline}
use Rattle.nt_store.specs.Worlds.{OthersStay, LeavesOpen, IsWrittenInOrder, WritesInOrder}
use Rattle.nt_store.specs.Writing.{HoldsNow}
use Rattle.nt_store.proofs.Asking.{asks_all}
use Rattle.nt_store.proofs.Ends.{stored_kept, file_kept, kept_open, kept_never_begun, kept_steps, others_kept}
use Rattle.nt_store.proofs.Refused.{world_is, none_made, nothing_made}
use Rattle.nt_script.specs.declared.storing.Counts.{Counts}
use Rattle.nt_script.proofs.Hosted.{asks_refused}
use Rattle.nt_skim.specs.Select.{Selection, selected, cluster_readings}
use Rattle.nt_skim_file.specs.declared.error.SkimStoreError.{SkimStoreError}
use Rattle.nt_skim_file.specs.declared.error.SkimStoreError.TheVariants.{Outside, Memory, Defect, Unplanned, Limit}
use Rattle.nt_skim_file.specs.Errors.{skim_refusal}
use Rattle.nt_skim_file.specs.Whole.{IsSelectedFile, IsWholeSelection}
use Rattle.nt_skim_file.specs.Crashes.{SkimCrash, LeavesSkim, SkimCrashTold}
use Rattle.nt_skim_file.specs.Filing.{SelectionTold, WritesSelection}
use Rattle.nt_skim_file.specs.Storing.{MakesSelectedFile, SkimFilesTold, FilesSelection}

-- a disk comes back under the name that it was made for
abbrev ComesBack : List ℕ → World → Option World → Option Held → Type 0
ComesBack out w world held = (h : Held) → held ≡ Some h → world ≡ Some (keeps_disk out h (creates out w))

module _ (out : List ℕ) (w : World) (world : Option World) (held : Option Held) (keeps : ComesBack out w world held) where
  -- the world once the disk is back
  abbrev after : Held → World
  after h = keeps_disk out h (creates out w)

  -- its steps are in order
  back_in_order : (old : Option World) → HoldsNow held (λ h. FirstByteLast h.log) → WritesInOrder out old world
  back_in_order old kept v v' is is' made =
      subst (IsWrittenInOrder out) (world_is (after kept.0) v' (sym (keeps kept.0 kept.1) ∙ is')) (record {
        at = record { bytes = kept.0.image; log = Some kept.0.log };
        log = kept.0.log;
        there = stored_kept (creates out w).files out (record { bytes = kept.0.image; log = Some kept.0.log });
        steps = refl;
        order = kept.2;
      })

  module _ (p : Params) (s : Selection) (rs : List (Result (List TreesData) ReadError)) where
    -- what a crash leaves
    back_crash : (result : Result Counts SkimStoreError) → HoldsNow held (λ h. SkimCrash (IsWholeSelection p s rs) h.log result)
        → (v : World) → world ≡ Some v → LeavesSkim (IsWholeSelection p s rs) out v result
    back_crash result crash v is =
        subst (λ (u : World). LeavesSkim (IsWholeSelection p s rs) out u result)
        (world_is (after crash.0) v (sym (keeps crash.0 crash.1) ∙ is)) (record {
          at = record { bytes = crash.0.image; log = Some crash.0.log };
          log = crash.0.log;
          there = stored_kept (creates out w).files out (record { bytes = crash.0.image; log = Some crash.0.log });
          steps = refl;
          leaves = crash.2;
        })

    -- what is left of the files then
    abbrev IsBack : Result Counts SkimStoreError → Type 0
    IsBack result =
        (w' : World) × (world ≡ Some w') × (w'.err ≡ w.err) × (w'.out ≡ w.out) × OthersStay out w w'
        × SkimFilesTold out p s rs w w' result

    with_told : (result : Result Counts SkimStoreError) (h : Held) → held ≡ Some h → SkimFilesTold out p s rs w (after h) result
        → IsBack result
    with_told result h is told = (after h, keeps h is, refl, refl, others_kept out h (creates out w), told)

    makes : (h : Held) (entries : List TreesData) → IsSelectedFile p s.fields (selected s entries) h.image
        → MakesSelectedFile out p s.fields (selected s entries) w (after h)
    makes h entries whole = record { made = refl; bytes = h.image; file_is = file_kept out h (creates out w); whole = whole }

    opens : (h : Held) → BeginsOpen h.image → LeavesOpen out w (after h)
    opens h begins = (refl, kept_open out h (creates out w) begins)

    back_told : (disk : DiskState) → held ≡ disk.held → (result : Result Counts SkimStoreError)
        → SelectionTold p s rs disk result → IsBack result
    back_told disk same (Ok counts) (entries, read, (h, is, (whole, ends)), numbers) =
        with_told (Ok counts) h (same ∙ is)
        (entries, read, makes h entries whole, kept_steps EndsInSync out h (creates out w) ends, numbers)
    back_told disk same (Err Outside) (inl (h, is, inl begins)) =
        with_told (Err Outside) h (same ∙ is) (inl (inr (refl, inl (opens h begins).1)))
    back_told disk same (Err Outside) (inl (h, is, inr never)) =
        with_told (Err Outside) h (same ∙ is) (inl (inr (refl, inr (kept_never_begun out h (creates out w) never))))
    back_told disk same (Err Outside) (inr (h, is, ((entries, read, whole), ends))) =
        with_told (Err Outside) h (same ∙ is)
        (inr (entries, read, makes h entries whole, kept_steps EndsOverFirst out h (creates out w) ends))
    back_told disk same (Err Memory) (h, is, begins) = with_told (Err Memory) h (same ∙ is) (inr (opens h begins))
    back_told disk same (Err (Defect e)) (read, (h, is, begins)) = with_told (Err (Defect e)) h (same ∙ is) (read, opens h begins)
    back_told disk same (Err (Unplanned e)) told = absurd told
    back_told disk same (Err (Limit reached most)) (over, (h, is, begins)) =
        with_told (Err (Limit reached most)) h (same ∙ is) (over, opens h begins)

is_outside : (result : Result Counts SkimStoreError) → IsErrOf result Outside → result ≡ Err Outside
is_outside (Ok value) is = absurd (cc is)
is_outside (Err e) is = cc

-- the counts once the disk is back
cause_filed : (old made new disk : ℕ) (file file' : FileState) (result : Result Counts SkimStoreError) → old ≤ made
    → TakesIn made new disk → (result ≡ Err Outside → (0 < disk) ⊎ Rose file.faults file'.faults)
    → IsErrOf result Outside → Rose old new ⊎ Rose file.faults file'.faults
cause_filed old made new disk file file' result first second failed is =
    elim (failed (is_outside result is)) [
      | inl some ↦ inl (omega (arith, first, second.later, second.sum, some))
      | inr rose ↦ inr rose
    ]

-- a disk was made and written, and came back
pub files_back : {T : Type 0} (out : List ℕ) (p : Params) (s : Selection) (o : Outline) (old made new : HostState) (value : T)
    (file file' : FileState) (disk disk' : DiskState) (result : Result Counts SkimStoreError) → Creates out old made (Ok value)
    → IsNewDisk old.world disk → WritesSelection p s o file file' disk disk' result → KeepsDisk disk' made new
    → FilesSelection out p s o file file' old new result
files_back out p s o old made new value file file' disk disk' result begun fresh wrote kept =
    let keeps : (w : World) → old.world ≡ Some w → ComesBack out w new.world disk'.held =
    λ w is h held. kept.world out h (creates out w) (begun.ok w is) refl held in
    record {
      told = λ w bytes is tell.
          back_told out w new.world disk'.held (keeps w is) p s (cluster_readings bytes o) disk' refl result
          (wrote.left bytes tell (fresh.held w is)).told;
      order = λ w w' is is' made-disk.
          back_in_order out w new.world disk'.held (keeps w is) old.world (wrote.order (fresh.held w is)) w w' is is' made-disk;
      crash = λ bytes tell w w' is is' made-disk.
          back_crash out w new.world disk'.held (keeps w is) p s (cluster_readings bytes o) result
          (wrote.left bytes tell (fresh.held w is)).crash w' is';
      asked = asks_all result old.asked new.asked (Out out ∷ []) (kept.back.asked ∙ begun.asks.ok);
      cause = record {
        kept = wrote.kept;
        later = omega (arith, begun.asks.cause.later, kept.back.faults_taken.later);
        failed = cause_filed old.faults made.faults new.faults disk'.faults file file' result begun.asks.cause.later
            kept.back.faults_taken wrote.failed;
      };
      back = record {
        err_faults = kept.back.err_faults ∙ begun.asks.err_faults;
        opened = omega (arith, begun.asks.opened, kept.back.opened);
      };
    }

refused_files : (out : List ℕ) (p : Params) (s : Selection) (rs : List (Result (List TreesData) ReadError)) (w : World) (r : Refused)
    → SkimFilesTold out p s rs w w (Err (skim_refusal r))
refused_files out p s rs w refused.Failed = inl (inl (refl, refl))
refused_files out p s rs w refused.Memory = inl (refl, refl)

-- a refusal is a failure only where the outside failed
pub refusal_fails : {T S : Type 0} (r : Refused) → IsErrOf {T = S} (Err (skim_refusal r)) Outside
    → IsErrOf {T = T} (Err r) refused.Failed
refusal_fails refused.Failed is = refl
refusal_fails refused.Memory is = absurd (cc is)

-- where no disk was made there is nothing to leave
pub none_left : {T : Type 0} (Whole : World → List ℕ → Type 0) (name : List ℕ) (old new : Option World)
    (result : Result T SkimStoreError) → new ≡ old → SkimCrashTold Whole name old new result
none_left Whole name old new result stays w w' is is' made = absurd (none_made name old new stays w w' is is' made)

-- the disk was refused
pub files_none : {T : Type 0} (out : List ℕ) (p : Params) (s : Selection) (o : Outline) (file : FileState) (old new : HostState)
    (r : Refused) → Creates {T = T} out old new (Err r) → FilesSelection out p s o file file old new (Err (skim_refusal r))
files_none {T} out p s o file old new r begun = record {
  told = λ w bytes is tell.
      (w, begun.err ∙ is, refl, refl, λ other differs. refl, refused_files out p s (cluster_readings bytes o) w r);
  order = nothing_made out old.world new.world begun.err;
  crash = λ bytes tell. none_left (λ w. IsWholeSelection p s (cluster_readings bytes o)) out old.world new.world
      (Err (skim_refusal r)) begun.err;
  asked = asks_refused r old.asked new.asked (Out out) begun.asks.failed begun.asks.memory;
  cause = record {
    kept = record { same = refl; later = omega arith };
    later = begun.asks.cause.later;
    failed = λ is. inl (begun.asks.cause.failed (refusal_fails {T = T} r is));
  };
  back = record { err_faults = begun.asks.err_faults; opened = omega (arith, begun.asks.refused) };
}
