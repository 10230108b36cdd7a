-- What is left of a host once the disk of a merge is back.
use Rattle.std.proofs.Common.{◌≡◌, ◌⊎◌, ◌∙◌, inl, inr, ap, sym, subst, refl, ℕ, ◌≤◌, List, [], ◌∷◌, Option, Some, Result}
use Rattle.std.proofs.Common.{Ok, Err, arith}
use Rattle.std.specs.Prelude.{IsErrOf, option_map}
use Rattle.nt_outside.specs.declared.fault.Refused.{Refused}
use Rattle.nt_outside.specs.declared.fault.Refused.TheVariants as refused
use Rattle.nt_outside.specs.Disk.{DiskState}
use Rattle.nt_outside.specs.Faults.{Rose, TakesIn}
use Rattle.nt_outside.specs.File.{FileState}
use Rattle.nt_outside.specs.Held.{Held, nothing_held}
use Rattle.nt_outside.specs.Log.{Step}
use Rattle.nt_outside.specs.Order.{FirstByteLast, EndsInSync}
use Rattle.nt_outside.specs.World.{World, Out, HostState, Creates, IsNewDisk, KeepsDisk, creates, keeps_disk}
use Rattle.nt_grammar.specs.Table.{Table}
use Rattle.nt_book.specs.declared.params.Params.{Params}
use Rattle.nt_close.specs.Laws.{EndsOverFirst}
use Rattle.nt_file_meaning.specs.Outlines.{Outline}
use Rattle.nt_store.specs.Worlds.{OthersStay, LeavesOpen, WritesInOrder, IsLeftAfter}
use Rattle.nt_store.specs.Writing.{HoldsNow}
use Rattle.nt_store.proofs.Asking.{asks_all}
use Rattle.nt_store.proofs.Ends.{file_kept, kept_open, kept_never_begun, kept_steps, others_kept}
use Rattle.nt_store.proofs.Refused.{world_is, nothing_made}
use Rattle.nt_script.specs.declared.storing.Counts.{Counts}
use Rattle.nt_script.proofs.Hosted.{asks_refused}
use Rattle.nt_merge.specs.declared.error.MergeError.{MergeError}
use Rattle.nt_merge.specs.declared.error.MergeError.TheVariants as merge
use Rattle.nt_merge.specs.Files.{TellBytes, OneRose}
use Rattle.nt_merge.specs.Joining.{ServesMerge}
use Rattle.nt_merge.specs.Planning.{outlines_from}
use Rattle.nt_merge.specs.Merging.{Numbered, all_numbered, merged_table, first_refusal, IsMerged, IsMergedFile, IsUnclosed, MergesTold}
use Rattle.nt_merge.specs.Merging.{IsCutAt, cut_unclosed, torn_at_once, cut_whole}
use Rattle.nt_merge.proofs.Kept.{keep-none}
use Rattle.nt_merge_files.specs.declared.error.MergeStoreError.{MergeStoreError}
use Rattle.nt_merge_files.specs.declared.error.MergeStoreError.TheVariants.{Outside, Memory}
use Rattle.nt_merge_files.specs.Errors.{merge_refusal, counts_of_merge, error_of_merge}
use Rattle.nt_merge_files.specs.Crashes.{MergeCrash, LeavesMerge}
use Rattle.nt_merge_files.specs.Whole.{refused_first}
use Rattle.nt_merge_files.specs.Storing.{MakesMerged, CopiesTold, MergesPlanned}
use Rattle.nt_merge_files.proofs.Crashes.{written-in-order, leaves-behind, none-left}
use Rattle.nt_merge_files.proofs.Disks.{begins-open, ordered, crashes}

-- ---- once it is back

-- a disk comes back under the name that it was made for
abbrev ComesBack : List ℕ → World → Option World → Option Held → Type 0
ComesBack out w world held = (h : Held) → held ≡ Some h → world ≡ Some (keeps_disk out h (creates out w))

module _ (out : List ℕ) (w : World) (world : Option World) (held : Option Held) (keeps : ComesBack out w world held) where
  -- the world then
  abbrev after : Held → World
  after h = keeps_disk out h (creates out w)

  -- the steps of its file
  back-after : (Ends : List Step → Type 0) → HoldsNow held (λ h. Ends h.log) → (v : World) → world ≡ Some v → IsLeftAfter Ends out v
  back-after Ends now v is =
      subst (IsLeftAfter Ends out) (world_is (after now.0) v (sym (keeps now.0 now.1) ∙ is))
      (kept_steps Ends out now.0 (creates out w) now.2)

  back-ordered : (old : Option World) → HoldsNow held (λ h. FirstByteLast h.log) → WritesInOrder out old world
  back-ordered old now v v' is is' made = written-in-order out v' (back-after FirstByteLast now v' is')

  back-crash : (Whole : List ℕ → Type 0) (result : Result Counts MergeStoreError)
      → HoldsNow held (λ h. MergeCrash Whole h.log result) → (v : World) → world ≡ Some v → LeavesMerge Whole out v result
  back-crash Whole result now v is =
      leaves-behind out v Whole result (back-after (λ (log : List Step). MergeCrash Whole log result) now v is)

  module _ (t : Table) (p : Params) (ns : List Numbered) where
    -- what is left of the files then
    abbrev IsBack : Result Counts MergeStoreError → Type 0
    IsBack result =
        (w' : World) × (world ≡ Some w') × (w'.err ≡ w.err) × (w'.out ≡ w.out) × OthersStay out w w' × CopiesTold out t p ns w w' result

    with-told : (result : Result Counts MergeStoreError) (h : Held) → held ≡ Some h → CopiesTold out t p ns w (after h) result
        → IsBack result
    with-told result h is told = (after h, keeps h is, refl, refl, others_kept out h (creates out w), told)

    makes : (Whole : List ℕ → Type 0) (h : Held) → Whole h.image → MakesMerged Whole out w (after h)
    makes Whole h whole = record { made = refl; image = h.image; file_is = file_kept out h (creates out w); whole = whole }

    opens : (h : Held) → IsUnclosed nothing_held h → LeavesOpen out w (after h)
    opens h unclosed = (refl, kept_open out h (creates out w) (begins-open h unclosed))

    in-store : (e : MergeError) → first_refusal t p ns ≡ Some e → refused_first t p ns ≡ Some (error_of_merge p.limits.clusters e)
    in-store e is = ap (λ (o : Option MergeError). option_map (error_of_merge p.limits.clusters) o) is

    cut-told : (h : Held) → IsCutAt t p ns nothing_held h → CopiesTold out t p ns w (after h) (Err Outside)
    cut-told h (cut_unclosed unclosed) = inl (inr (refl, inl (opens h unclosed).1))
    cut-told h (torn_at_once n is) = inl (inr (refl, inr (kept_never_begun out h (creates out w) (n, is))))
    cut-told h (cut_whole whole ends) =
        inr (makes (IsMergedFile t p ns) h whole, kept_steps EndsOverFirst out h (creates out w) ends)

    back-told : (old new : DiskState) → old.held ≡ Some nothing_held → held ≡ new.held → (merged : Result (ℕ × ℕ) MergeError)
        → MergesTold t p ns old new merged → IsBack (counts_of_merge p.limits.clusters merged)
    back-told old new empty same (Ok (clusters, entries)) told =
        let now = told.file nothing_held empty in
        with-told (counts_of_merge p.limits.clusters (Ok (clusters, entries))) now.0 (same ∙ now.1) (
          told.lists,
          makes (λ image. IsMerged t p ns told.lists image) now.0 now.2.0,
          kept_steps EndsInSync out now.0 (creates out w) now.2.1,
          record { clusters_are = told.clusters_are; entries_are = told.entries_are },
        )
    back-told old new empty same (Err (merge.Defect file e)) told =
        let now = told.1 nothing_held empty in
        with-told (counts_of_merge p.limits.clusters (Err (merge.Defect file e))) now.0 (same ∙ now.1) (told.0, opens now.0 now.2.unclosed)
    back-told old new empty same (Err (merge.Schema place)) told = absurd told
    back-told old new empty same (Err (merge.RangeTooLarge len most)) told =
        let now = told.left nothing_held empty in
        with-told (counts_of_merge p.limits.clusters (Err (merge.RangeTooLarge len most))) now.0 (same ∙ now.1)
        (record { over = told.first.over; first = in-store _ told.first.first }, opens now.0 now.2.unclosed)
    back-told old new empty same (Err (merge.FileTooLarge end most)) told =
        let now = told.left nothing_held empty in
        with-told (counts_of_merge p.limits.clusters (Err (merge.FileTooLarge end most))) now.0 (same ∙ now.1)
        (record { over = told.first.over; first = in-store _ told.first.first }, opens now.0 now.2.unclosed)
    back-told old new empty same (Err merge.TooManyClusters) told =
        let now = told.left nothing_held empty in
        with-told (counts_of_merge p.limits.clusters (Err merge.TooManyClusters)) now.0 (same ∙ now.1)
        (record { over = told.first.over; first = in-store _ told.first.first }, opens now.0 now.2.unclosed)
    back-told old new empty same (Err merge.ReadFault) told =
        let now = told nothing_held empty in
        with-told (Err Outside) now.0 (same ∙ now.1) (inl (inr (refl, inl (opens now.0 now.2.unclosed).1)))
    back-told old new empty same (Err merge.DiskFault) told =
        let now = told nothing_held empty in
        with-told (Err Outside) now.0 (same ∙ now.1) (cut-told now.0 now.2.how)
    back-told old new empty same (Err merge.Memory) told =
        let now = told nothing_held empty in
        with-told (Err Memory) now.0 (same ∙ now.1) (inr (opens now.0 now.2.unclosed))

-- ---- who is blamed

module _ {F : Type 0} (state : F → FileState) where
  blamed : (files files' : List F) (before made now : ℕ) (disk disk' : DiskState) (most : ℕ) (merged : Result (ℕ × ℕ) MergeError)
      → before ≤ made → TakesIn made now disk'.faults → ServesMerge state files files' disk disk' merged
      → IsErrOf (counts_of_merge most merged) Outside → Rose before now ⊎ OneRose state files files'
  blamed files files' before made now disk disk' most (Ok (clusters, entries)) le taken served is = absurd (cc is)
  blamed files files' before made now disk disk' most (Err (merge.Defect file e)) le taken served is = absurd (cc is)
  blamed files files' before made now disk disk' most (Err (merge.Schema place)) le taken served is = absurd (cc is)
  blamed files files' before made now disk disk' most (Err (merge.RangeTooLarge len limit)) le taken served is = absurd (cc is)
  blamed files files' before made now disk disk' most (Err (merge.FileTooLarge end limit)) le taken served is = absurd (cc is)
  blamed files files' before made now disk disk' most (Err merge.TooManyClusters) le taken served is = absurd (cc is)
  blamed files files' before made now disk disk' most (Err merge.ReadFault) le taken served is = inr (served.rose refl)
  blamed files files' before made now disk disk' most (Err merge.DiskFault) le taken served is =
      let rose = served.disk refl in
      inl (omega (arith, le, taken.later, taken.sum, rose))
  blamed files files' before made now disk disk' most (Err merge.Memory) le taken served is = absurd (cc is)

  -- a disk was made and written, and came back
  pub planned-back : {T : Type 0} (out : List ℕ) (p : Params) (plan : List Outline) (files files' : List F) (old made new : HostState)
      (value : T) (disk disk' : DiskState) (merged : Result (ℕ × ℕ) MergeError) → Creates out old made (Ok value)
      → IsNewDisk old.world disk → ServesMerge state files files' disk disk' merged
      → ((bytes : List (List ℕ)) → TellBytes state files bytes → outlines_from 0 bytes ≡ Ok plan
      → MergesTold (merged_table plan) p (all_numbered 0 bytes plan) disk disk' merged) → KeepsDisk disk' made new
      → MergesPlanned state out p plan files files' old new (counts_of_merge p.limits.clusters merged)
  planned-back out p plan files files' old made new value disk disk' merged begun fresh served merges kept =
      let t = merged_table plan in
      let result = counts_of_merge p.limits.clusters merged in
      let keeps : (w : World) → old.world ≡ Some w → ComesBack out w new.world disk'.held =
      λ w is h held. kept.world out h (creates out w) (begun.ok w is) refl held in
      record {
        told = λ w bytes is tell outlines.
            back-told out w new.world disk'.held (keeps w is) t p (all_numbered 0 bytes plan) disk disk' (fresh.held w is) refl merged
            (merges bytes tell outlines);
        order = λ bytes tell outlines w w' is is' made-disk.
            back-ordered out w new.world disk'.held (keeps w is) old.world
            (ordered t p (all_numbered 0 bytes plan) disk disk' (fresh.held w is) merged (merges bytes tell outlines)) w w' is is'
            made-disk;
        crash = λ bytes tell outlines w w' is is' made-disk.
            back-crash out w new.world disk'.held (keeps w is) (IsMergedFile t p (all_numbered 0 bytes plan)) result
            (crashes t p (all_numbered 0 bytes plan) disk disk' (fresh.held w is) merged (merges bytes tell outlines)) w' is';
        asked = asks_all result old.asked new.asked (Out out ∷ []) (kept.back.asked ∙ begun.asks.ok);
        cause = record {
          kept = served.kept;
          later = omega (arith, begun.asks.cause.later, kept.back.faults_taken.later);
          failed = blamed files files' old.faults made.faults new.faults disk disk' p.limits.clusters merged begun.asks.cause.later
              kept.back.faults_taken served;
        };
        back = record {
          err_faults = kept.back.err_faults ∙ begun.asks.err_faults;
          opened = omega (arith, begun.asks.opened, kept.back.opened);
        };
      }

  refused-told : (out : List ℕ) (t : Table) (p : Params) (ns : List Numbered) (w : World) (r : Refused)
      → CopiesTold out t p ns w w (Err (merge_refusal r))
  refused-told out t p ns w refused.Failed = inl (inl (refl, refl))
  refused-told out t p ns w refused.Memory = inl (refl, refl)

  -- a refusal is a failure only where the outside failed
  refusal-fails : {T S : Type 0} (r : Refused) → IsErrOf {T = S} (Err (merge_refusal r)) Outside
      → IsErrOf {T = T} (Err r) refused.Failed
  refusal-fails refused.Failed is = refl
  refusal-fails refused.Memory is = absurd (cc is)

  -- the disk was refused
  pub planned-none : {T : Type 0} (out : List ℕ) (p : Params) (plan : List Outline) (files : List F) (old new : HostState) (r : Refused)
      → Creates {T = T} out old new (Err r) → MergesPlanned state out p plan files files old new (Err (merge_refusal r))
  planned-none {T} out p plan files old new r begun = record {
    told = λ w bytes is tell outlines. (
      w,
      begun.err ∙ is,
      refl,
      refl,
      λ other differs. refl,
      refused-told out (merged_table plan) p (all_numbered 0 bytes plan) w r,
    );
    order = λ bytes tell outlines. nothing_made out old.world new.world begun.err;
    crash = λ bytes tell outlines. none-left (λ w. IsMergedFile (merged_table plan) p (all_numbered 0 bytes plan)) out old.world new.world
        (Err (merge_refusal r)) begun.err;
    asked = asks_refused r old.asked new.asked (Out out) begun.asks.failed begun.asks.memory;
    cause = record {
      kept = keep-none state files;
      later = begun.asks.cause.later;
      failed = λ is. inl (begun.asks.cause.failed (refusal-fails {T = T} r is));
    };
    back = record { err_faults = begun.asks.err_faults; opened = omega (arith, begun.asks.refused) };
  }
