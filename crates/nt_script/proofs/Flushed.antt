-- What a writer has written after a flush, or why not.
use Rattle.std.proofs.Common.{◌≡◌, ◌≢◌, ◌⊎◌, inl, inr, ◌<◌, ◌≤◌, true, List, [], ◌∷◌, ◌++◌, length}
use Rattle.std.proofs.Common.{Ok, Err, refl, sym, ap, ◌∙◌, subst, append_assoc, append-nil, arith}
use Rattle.nt_lists.specs.Chunks.{chunks}
use Rattle.nt_types.specs.TreeData.{TreesData}
use Rattle.nt_outside.specs.Disk.{DiskState}
use Rattle.nt_book.specs.declared.params.Params.{Params}
use Rattle.nt_book.specs.Kept.{IsBookKept}
use Rattle.nt_seq.specs.Standing.{IsWriting}
use Rattle.nt_commit.specs.declared.error.CommitError.{CommitError}
use Rattle.nt_commit.specs.declared.error.CommitError.TheVariants as commit
use Rattle.nt_seq.specs.Writer.{SeqState, gathered_by}
use Rattle.nt_seq.specs.Written.{HasWritten}
use Rattle.nt_seq.specs.Changing.{WritesNext, FailsToAppend, RefusesNext, NamesPassed}
use Rattle.nt_contexts.proofs.Chunking.{chunks-full, chunks-none, chunks-last}
use Rattle.nt_script.specs.Reading.{Segment}
use Rattle.nt_script.specs.Taking.{clusters_of_segments, KeepsClusters, HasTakenLines, HasWrittenLines, HasSameSchema, HaltsAt}
use Rattle.nt_script.specs.Taking.{IsFlushed}
use Rattle.nt_script.specs.Running.{error_of_commit}
use Rattle.nt_script.proofs.NextCluster.{refusal, same_params, keeps_next, halted}

-- a refusal is no answer
refused_not_done : (e : CommitError) → refusal e ≢ Ok tt
refused_not_done e is = cc

module _ {D : Type 0} (state : D → DiskState) where
  -- what is gathered is the last chunk
  pub last_chunk : (segments : List Segment) (es : List TreesData) (w : SeqState D) → 0 < length (gathered_by w)
      → length (gathered_by w) ≤ w.params.cluster → (taken : HasTakenLines state segments es w)
      → chunks w.params.cluster es ≡ taken.full ++ gathered_by w ∷ []
  last_chunk segments es w some few taken =
      let n = w.params.cluster in
      ap (λ (l : List TreesData). chunks n l) taken.whole
      ∙ (chunks-full n (omega arith) taken.full (gathered_by w) taken.sizes
      ∙ ap (λ (l : List (List TreesData)). taken.full ++ l) (chunks-last n (omega arith) (gathered_by w) some few))

  -- the book keeps the same of the same clusters
  keeps_of : (segments : List Segment) (w : SeqState D) (cs ds : List (List TreesData)) → cs ≡ ds → KeepsClusters segments cs w
      → KeepsClusters segments ds w
  keeps_of segments w cs ds same keeps = subst (λ (l : List (List TreesData)). KeepsClusters segments l w) same keeps

  -- with nothing gathered all is written
  none_gathered : (segments : List Segment) (es : List TreesData) (w : SeqState D) → 0 < w.params.cluster → gathered_by w ≡ []
      → HasTakenLines state segments es w → HasWrittenLines state segments es w
  none_gathered segments es w some none taken =
      let n = w.params.cluster in
      let are : chunks n es ≡ taken.full =
      ap (λ (l : List TreesData). chunks n l) taken.whole
      ∙ (chunks-full n some taken.full (gathered_by w) taken.sizes
      ∙ (ap (λ (l : List (List TreesData)). taken.full ++ l) (chunks-none n some (gathered_by w)
      (ap (λ (l : List TreesData). length l) none)) ∙ append-nil taken.full)) in
      record {
        written = subst (λ (l : List (List TreesData)). HasWritten state w (clusters_of_segments n segments ++ l)) (sym are) taken.written;
        none = none;
        keeps = keeps_of segments w taken.full (chunks n es) (sym are) taken.keeps;
      }

  -- all clusters that are written, with the next one
  with_next : (segments : List Segment) (es : List TreesData) (w : SeqState D) → 0 < length (gathered_by w)
      → length (gathered_by w) ≤ w.params.cluster → (taken : HasTakenLines state segments es w)
      → (clusters_of_segments w.params.cluster segments ++ taken.full) ++ gathered_by w ∷ []
      ≡ clusters_of_segments w.params.cluster segments ++ chunks w.params.cluster es
  with_next segments es w some few taken =
      append_assoc (clusters_of_segments w.params.cluster segments) taken.full (gathered_by w ∷ [])
      ∙ ap (λ (l : List (List TreesData)). clusters_of_segments w.params.cluster segments ++ l)
      (sym (last_chunk segments es w some few taken))

  next_same : (old new : SeqState D) → old.alive ≡ true → WritesNext state old new → HasSameSchema old new
  next_same old new alive next = record {
    table = ap (λ (w : SeqState D). w.table) next.now;
    params = same_params state old new next;
    alive = ap (λ (w : SeqState D). w.alive) next.now ∙ alive;
  }

  next_written : (segments : List Segment) (es : List TreesData) (old new : SeqState D) → 0 < length (gathered_by old)
      → length (gathered_by old) ≤ old.params.cluster → HasTakenLines state segments es old → WritesNext state old new
      → HasWrittenLines state segments es new
  next_written segments es old new some few taken next =
      let written = next.written (clusters_of_segments old.params.cluster segments ++ taken.full) taken.written in
      let all : HasWritten state new (clusters_of_segments old.params.cluster segments ++ chunks old.params.cluster es) =
      subst (HasWritten state new) (with_next segments es old some few taken) written in
      let last : chunks new.params.cluster es ≡ taken.full ++ gathered_by old ∷ [] =
      ap (λ (p : Params). chunks p.cluster es) (same_params state old new next) ∙ last_chunk segments es old some few taken in
      record {
        written = subst (λ (p : Params). HasWritten state new (clusters_of_segments p.cluster segments ++ chunks p.cluster es))
            (sym (same_params state old new next)) all;
        none = next.none;
        keeps = keeps_of segments new (taken.full ++ gathered_by old ∷ []) (chunks new.params.cluster es) (sym last)
            (keeps_next state segments old new taken.full next taken.keeps);
      }

  some_or_none : (es : List TreesData) → (es ≡ []) ⊎ (0 < length es)
  some_or_none [] = inl refl
  some_or_none (e ∷ es) = inr (omega arith)

  -- a flush that was done
  pub gathered_written : (segments : List Segment) (es : List TreesData) (old new : SeqState D) → 0 < old.params.cluster
      → length (gathered_by old) ≤ old.params.cluster → old.alive ≡ true → HasTakenLines state segments es old
      → (gathered_by old ≡ [] → new ≡ old) → (0 < length (gathered_by old) → WritesNext state old new)
      → HasWrittenLines state segments es new × HasSameSchema old new
  gathered_written segments es old new some few alive taken nothing next =
      elim (some_or_none (gathered_by old)) [
        | inl none ↦
            let same = nothing none in (
              subst (HasWrittenLines state segments es) (sym same) (none_gathered segments es old some none taken),
              record {
                table = ap (λ (w : SeqState D). w.table) same;
                params = ap (λ (w : SeqState D). w.params) same;
                alive = ap (λ (w : SeqState D). w.alive) same ∙ alive;
              },
            )
        | inr more ↦ (next_written segments es old new more few taken (next more), next_same old new alive (next more))
      ]

  -- whatever was taken
  pub gathered_flushed : (old new : SeqState D) → old.alive ≡ true → (gathered_by old ≡ [] → new ≡ old)
      → (0 < length (gathered_by old) → WritesNext state old new) → IsFlushed old new
  gathered_flushed old new alive nothing next =
      elim (some_or_none (gathered_by old)) [
        | inl none ↦
            let same = nothing none in
            record {
              none = ap (λ (w : SeqState D). gathered_by w) same ∙ none;
              same = record {
                table = ap (λ (w : SeqState D). w.table) same;
                params = ap (λ (w : SeqState D). w.params) same;
                alive = ap (λ (w : SeqState D). w.alive) same ∙ alive;
              };
            }
        | inr more ↦ record { none = (next more).none; same = next_same old new alive (next more) }
      ]

  -- the disk that was given is kept
  pub given_flushed : (old new : SeqState D) → (gathered_by old ≡ [] → new ≡ old)
      → (0 < length (gathered_by old) → WritesNext state old new)
      → new.given ≡ old.given
  given_flushed old new nothing next =
      elim (some_or_none (gathered_by old)) [
        | inl none ↦ ap (λ (w : SeqState D). w.given) (nothing none)
        | inr more ↦ ap (λ (w : SeqState D). w.given) (next more).now
      ]

  pub given_refused : (old new : SeqState D) (e : CommitError) → RefusesNext state old new (Err e) → new.given ≡ old.given
  given_refused old new e refused = at e refused
    where
      stays : (f : CommitError) → f ≢ commit.Fault → RefusesNext state old new (Err f) → new.given ≡ old.given
      stays f apart h = ap (λ (w : SeqState D). w.given) (h.kept f refl apart).now

      at : (f : CommitError) → RefusesNext state old new (Err f) → new.given ≡ old.given
      at (commit.RangeTooLarge len most) h = stays (commit.RangeTooLarge len most) (λ same. cc same) h
      at (commit.FileTooLarge end most) h = stays (commit.FileTooLarge end most) (λ same. cc same) h
      at commit.TooManyClusters h = stays commit.TooManyClusters (λ same. cc same) h
      at commit.Memory h = stays commit.Memory (λ same. cc same) h
      at commit.Fault h = ap (λ (w : SeqState D). w.given) (h.fault refl).now

  -- a flush that was refused
  pub gathered_refused : (segments : List Segment) (es : List TreesData) (old new : SeqState D) (e : CommitError)
      → length (gathered_by old) ≤ old.params.cluster → IsBookKept old.book → IsWriting state old → HasTakenLines state segments es old
      → (gathered_by old ≡ [] → (refusal e ≡ Ok tt) × (new ≡ old))
      → (0 < length (gathered_by old) → refusal e ≢ refusal commit.Memory → NamesPassed old (Err e))
      → (refusal e ≡ refusal commit.Fault → FailsToAppend state old new)
      → HaltsAt state (λ next. next ≡ gathered_by old) old.table old.params segments es new (error_of_commit e)
  gathered_refused segments es old new e few kept is taken nothing names fault =
      elim (some_or_none (gathered_by old)) [
        | inl none ↦ absurd (refused_not_done e (nothing none).0)
        | inr more ↦ halted state segments es old new e more few kept is taken (names more) fault
      ]
