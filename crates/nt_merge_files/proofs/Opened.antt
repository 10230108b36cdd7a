-- What is left of a host once open files were merged.
use Rattle.std.proofs.Common.{inl, inr, ap, sym, refl, ℕ, ◌<◌, List, length, Result, Ok, Err}
use Rattle.std.proofs.Common.{append-nil, arith}
use Rattle.std.specs.Prelude.{IsErrOf, Option, option_map}
use Rattle.nt_outside.specs.File.{FileState}
use Rattle.nt_outside.specs.World.{World, HostState}
use Rattle.nt_book.specs.declared.params.Params.{Params}
use Rattle.nt_file_meaning.specs.Outlines.{Outline}
use Rattle.nt_store.proofs.Refused.{nothing_made}
use Rattle.nt_script.specs.declared.storing.Counts.{Counts}
use Rattle.nt_merge.specs.declared.error.MergeError.{MergeError}
use Rattle.nt_merge.specs.declared.error.MergeError.TheVariants as merge
use Rattle.nt_merge.specs.Files.{TellBytes, KeepFiles, OneRose}
use Rattle.nt_merge.specs.Planning.{ArePlanned, IsPlanError}
use Rattle.nt_merge.specs.Merging.{all_numbered, merged_table, IsMergedFile}
use Rattle.nt_merge.proofs.Kept.{keep-more, rose-more, tell-kept}
use Rattle.nt_merge.proofs.Target.{Mergeable}
use Rattle.nt_merge_files.specs.declared.error.MergeStoreError.{MergeStoreError}
use Rattle.nt_merge_files.specs.declared.error.MergeStoreError.TheVariants.{Outside, Memory, Defect, Schema, Limit}
use Rattle.nt_merge_files.specs.Errors.{error_of_merge}
use Rattle.nt_merge_files.specs.Whole.{IsWholeMerge}
use Rattle.nt_merge_files.specs.Storing.{CopiesTold, MergeOpenTold, MergesPlanned, MergesOpen}
use Rattle.nt_merge_files.proofs.Crashes.{leaves-into, none-left}
use Rattle.nt_merge_files.proofs.Whole.{MeansSources, HasThePages, ReadIsDescribed, BareIsDescribed, AreBytes, merge-of}

-- ---- files that have a plan

module _ (means : MeansSources) (pages : HasThePages) (read : ReadIsDescribed) (bare-is : BareIsDescribed) (law : Mergeable) (p : Params)
    (bytes : List (List ℕ)) (os : List Outline) (are : AreBytes bytes) (planned : ArePlanned bytes os) (some : 0 < length os) where
  abbrev IsCopy : List ℕ → Type 0
  IsCopy = IsMergedFile (merged_table os) p (all_numbered 0 bytes os)

  whole-of : (image : List ℕ) → IsCopy image → IsWholeMerge p bytes image
  whole-of image is = (is.0, merge-of means pages read bare-is law p bytes os are planned some is.0 image is.1)

  open-told : (out : List ℕ) (w w' : World) (result : Result Counts MergeStoreError)
      → CopiesTold out (merged_table os) p (all_numbered 0 bytes os) w w' result → MergeOpenTold out p bytes w w' result
  open-told out w w' (Ok counts) (clusters, makes, ends, numbers) = (
    clusters,
    record {
      made = makes.made;
      image = makes.image;
      file_is = makes.file_is;
      whole = merge-of means pages read bare-is law p bytes os are planned some clusters makes.image makes.whole;
    },
    ends,
    numbers,
  )
  open-told out w w' (Err Outside) (inl left) = inl left
  open-told out w w' (Err Outside) (inr (makes, ends)) =
      inr (
        record { made = makes.made; image = makes.image; file_is = makes.file_is; whole = whole-of makes.image makes.whole },
        ends,
      )
  open-told out w w' (Err Memory) left = left
  open-told out w w' (Err (Defect file e)) (fault, left) = inr (
    record {
      outlines = os;
      planned = planned;
      fault = fault.fault;
      first = ap (λ (o : Option MergeError). option_map (error_of_merge p.limits.clusters) o) fault.first;
    },
    left,
  )
  open-told out w w' (Err (Schema place)) told = absurd told
  open-told out w w' (Err (Limit reached limit)) (passed, left) =
      (record { outlines = os; planned = planned; over = passed.over; first = passed.first }, left)

module _ {F : Type 0} (state : F → FileState) where
  pub opened-planned : MeansSources → HasThePages → ReadIsDescribed → BareIsDescribed → Mergeable → (out : List ℕ) (p : Params)
      (plan : List Outline) (files mid files' : List F) (old new : HostState) (result : Result Counts MergeStoreError)
      → ((bytes : List (List ℕ)) → TellBytes state files bytes → AreBytes bytes)
      → ((bytes : List (List ℕ)) → TellBytes state files bytes → ArePlanned bytes plan) → 0 < length plan → KeepFiles state files mid
      → MergesPlanned state out p plan mid files' old new result → MergesOpen state out p files files' old new result
  opened-planned means pages read bare-is law out p plan files mid files' old new result are planned some kept merges =
      let told = λ (bytes : List (List ℕ)) (tell : TellBytes state files bytes). tell-kept state files mid bytes kept tell in
      record {
        told = λ w bytes is tell.
            let plans = planned bytes tell in
            let back = merges.told w bytes is (told bytes tell) plans.outlines in (
              back.0,
              back.1,
              back.2,
              back.3,
              back.4,
              open-told means pages read bare-is law p bytes plan (are bytes tell) plans some out w back.0 result back.5,
            );
        order = λ bytes tell. merges.order bytes (told bytes tell) (planned bytes tell).outlines;
        crash = λ bytes tell w w' is is' made.
            let plans = planned bytes tell in
            leaves-into (IsMergedFile (merged_table plan) p (all_numbered 0 bytes plan)) (IsWholeMerge p bytes)
            (whole-of means pages read bare-is law p bytes plan (are bytes tell) plans some) out w' result
            (merges.crash bytes (told bytes tell) plans.outlines w w' is is' made);
        asked = merges.asked;
        plan_first = λ bytes tell none. absurd (none (plan, planned bytes tell));
        cause = record {
          kept = keep-more state files mid files' kept merges.cause.kept;
          later = merges.cause.later;
          failed = λ is. elim (merges.cause.failed is) [
            | inl rose ↦ inl rose
            | inr one ↦ inr (rose-more state files mid files' kept one)
          ];
        };
        back = merges.back;
      }

  -- ---- files that have none

  unplanned-told : (out : List ℕ) (p : Params) (bytes : List (List ℕ)) (w : World) (most : ℕ) (e : MergeError) → IsPlanError bytes e
      → MergeOpenTold out p bytes w w (Err (error_of_merge most e))
  unplanned-told out p bytes w most (merge.Defect file e) is = inl (is, (refl, refl))
  unplanned-told out p bytes w most (merge.Schema place) is =
      (record { outlines = is.0; outlines_are = is.1; against = is.2 }, (refl, refl))
  unplanned-told out p bytes w most (merge.RangeTooLarge len limit) is = absurd is
  unplanned-told out p bytes w most (merge.FileTooLarge end limit) is = absurd is
  unplanned-told out p bytes w most merge.TooManyClusters is = absurd is
  unplanned-told out p bytes w most merge.ReadFault is = inl (inl (refl, refl))
  unplanned-told out p bytes w most merge.DiskFault is = absurd is
  unplanned-told out p bytes w most merge.Memory is = inl (refl, refl)

  -- where no disk was written, a failure is one of a file
  outside-read : {T S : Type 0} (most : ℕ) (e : MergeError) → (IsErrOf {T = T} (Err e) merge.DiskFault → ⊥)
      → IsErrOf {T = S} (Err (error_of_merge most e)) Outside → IsErrOf {T = T} (Err e) merge.ReadFault
  outside-read most (merge.Defect file e) none is = absurd (cc is)
  outside-read most (merge.Schema place) none is = absurd (cc is)
  outside-read most (merge.RangeTooLarge len limit) none is = absurd (cc is)
  outside-read most (merge.FileTooLarge end limit) none is = absurd (cc is)
  outside-read most merge.TooManyClusters none is = absurd (cc is)
  outside-read most merge.ReadFault none is = refl
  outside-read most merge.DiskFault none is = absurd (none refl)
  outside-read most merge.Memory none is = absurd (cc is)

  pub opened-unplanned : {T : Type 0} (out : List ℕ) (p : Params) (files files' : List F) (host : HostState) (most : ℕ) (e : MergeError)
      → ((bytes : List (List ℕ)) → TellBytes state files bytes → IsPlanError bytes e) → KeepFiles state files files'
      → (IsErrOf {T = T} (Err e) merge.ReadFault → OneRose state files files') → (IsErrOf {T = T} (Err e) merge.DiskFault → ⊥)
      → MergesOpen state out p files files' host host (Err (error_of_merge most e))
  opened-unplanned {T} out p files files' host most e is kept rose none = record {
    told = λ w bytes same tell.
        (w, same, refl, refl, λ other differs. refl, unplanned-told out p bytes w most e (is bytes tell));
    order = λ bytes tell. nothing_made out host.world host.world refl;
    crash = λ bytes tell. none-left (λ w. IsWholeMerge p bytes) out host.world host.world (Err (error_of_merge most e)) refl;
    asked = (0, sym (append-nil host.asked));
    plan_first = λ bytes tell none. refl;
    cause = record {
      kept = kept;
      later = omega arith;
      failed = λ bad. inr (rose (outside-read {T = T} most e none bad));
    };
    back = record { err_faults = refl; opened = omega arith };
  }
