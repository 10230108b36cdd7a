-- What is left of the disk of a sink into which a file was skimmed.
use Rattle.std.proofs.Common.{◌≡◌, ◌⊎◌, ◌∙◌, inl, inr, ap, sym, refl, subst, ℕ, ◌<◌, List, [], Option, None, Some}
use Rattle.std.proofs.Common.{Result}
use Rattle.std.proofs.Common.{Ok, Err}
use Rattle.nt_types.specs.TreeData.{TreesData}
use Rattle.nt_types.specs.declared.shape.Members.{Members}
use Rattle.nt_outside.specs.Disk.{DiskState}
use Rattle.nt_outside.specs.Faults.{Rose}
use Rattle.nt_outside.specs.File.{FileState}
use Rattle.nt_outside.specs.Held.{Held, BecomesSome, nothing_held}
use Rattle.nt_grammar.specs.Rows.{Rows}
use Rattle.nt_grammar.specs.Table.{Table}
use Rattle.nt_book.specs.declared.params.Params.{Params}
use Rattle.nt_commit.specs.declared.error.CommitError.{CommitError}
use Rattle.nt_file_meaning.specs.Outlines.{Outline}
use Rattle.nt_seq.specs.Writer.{SeqState}
use Rattle.nt_seq.specs.Written.{IsUnclosedOf}
use Rattle.nt_script.specs.declared.storing.Counts.{Counts}
use Rattle.nt_script.specs.Taking.{HasTakenLines}
use Rattle.nt_skim.specs.declared.error.SkimError.{SkimError}
use Rattle.nt_skim.specs.declared.error.SkimError.TheVariants as skim
use Rattle.nt_skim.specs.Select.{Selection, selected, cluster_readings}
use Rattle.nt_skim.specs.Skimming.{IsSkimmed, LeavesSink, ServesSkim}
use Rattle.nt_skim_file.specs.declared.birth.SinkBirth.{SinkBirth}
use Rattle.nt_skim_file.specs.declared.error.SkimStoreError.{SkimStoreError}
use Rattle.nt_skim_file.specs.declared.error.SkimStoreError.TheVariants.{Outside}
use Rattle.nt_skim_file.specs.Errors.{skim_of_early}
use Rattle.nt_skim_file.specs.Sinks.{FileSinkState, TookEntries, IsFileSink, sink_of}
use Rattle.nt_skim_file.specs.Filing.{KeepsFile, LeavesSelection, IsNewWriterOf, EndsEntries, EndsSelection}
use Rattle.nt_skim_file.proofs.Early.{UnclosedAreShut, UnclosedInOrder, UnclosedLeave, commit_failed}
use Rattle.nt_skim_file.proofs.Selected.{all_left, failed_left, wanting_left, defect_left, refused_left}

module _ {D : Type 0} (state : D → DiskState) (s : Selection) (o : Outline) (w : SeqState D) (sink : FileSinkState D)
    (m : Members) (file file' : FileState) where
  -- the sink before anything was put
  abbrev pub empty_sink : FileSinkState D
  empty_sink = record { writer = w; fields = m; refused = None }

  -- a file was skimmed into one that was so
  pub record SkimsFrom (begun : FileSinkState D) (r : Result ℕ (SkimError CommitError)) : Type 0 where
    pub left : LeavesSink (sink_of state begun) (sink_of state sink) r
    pub serves : ServesSkim file file' r
    pub skimmed : (b : List ℕ) → file.bytes ≡ Some b
        → IsSkimmed s (cluster_readings b o) (sink_of state begun) (sink_of state sink) r

  abbrev Skims : Result ℕ (SkimError CommitError) → Type 0
  Skims r = SkimsFrom empty_sink r

  module _ (r : Result ℕ (SkimError CommitError)) (skims : Skims r) where
    given : sink.writer.given ≡ w.given
    given = ap (λ (b : SinkBirth D). b.given) skims.left.birth

    table : sink.writer.table ≡ w.table
    table = ap (λ (b : SinkBirth D). b.schema) skims.left.birth

    pub params : sink.writer.params ≡ w.params
    params = ap (λ (b : SinkBirth D). b.params) skims.left.birth

    empty_now : (state w.given).held ≡ Some nothing_held → (state sink.writer.given).held ≡ Some nothing_held
    empty_now empty = ap (λ (d : D). (state d).held) given ∙ empty

    file_kept : KeepsFile file file'
    file_kept = record { same = skims.serves.same; later = skims.serves.later }

    module _ (first : IsNewWriterOf state s.fields w) where
      rows : Rows s.fields sink.writer.params.plain sink.writer.table
      rows =
          subst (λ (t : Table). Rows s.fields sink.writer.params.plain t) (sym table)
          (subst (λ (p : Params). Rows s.fields p.plain w.table) (sym params) first.rows)

      by_params : (bytes : List ℕ) (disk : DiskState) (result : Result Counts SkimStoreError)
          → LeavesSelection sink.writer.params s (cluster_readings bytes o) disk result
          → LeavesSelection w.params s (cluster_readings bytes o) disk result
      by_params bytes disk result leaves =
          subst (λ (p : Params). LeavesSelection p s (cluster_readings bytes o) disk result) params leaves

  -- what was taken of a sink that refused nothing
  taken_by : (es : List TreesData) → sink.refused ≡ None → TookEntries state es sink.writer sink.refused
      → HasTakenLines state [] es sink.writer
  taken_by es none took = subst (λ (o : Option CommitError). TookEntries state es sink.writer o) none took

  -- all was put, and the file closed, or not
  all_put : (first : IsNewWriterOf state s.fields w) (n : ℕ) → Skims (Ok n) → (disk : D) (result : Result Counts SkimStoreError)
      → EndsEntries state sink.writer (λ es. HasTakenLines state [] es sink.writer) disk result
      → EndsSelection state w s o file file' disk result
  all_put first n skims disk result ends = record {
    left = λ bytes is empty.
        let done = skims.skimmed bytes is in
        let took = taken_by (selected s done.0) skims.left.cause (done.3 [] first.taken) in
        by_params (Ok n) skims first bytes (state disk) result
        (all_left sink.writer.params s (cluster_readings bytes o) done.0 done.1 (state disk) result
        (ends.left s.fields (selected s done.0) (rows (Ok n) skims first) took (empty_now (Ok n) skims empty)));
    order = λ empty. ends.order (empty_now (Ok n) skims empty);
    kept = file_kept (Ok n) skims;
    failed = λ bad. inl (ends.failed bad);
  }

  pub skimmed_all : (begun : FileSinkState D) → begun ≡ empty_sink → (r : Result ℕ (SkimError CommitError)) (n : ℕ) → r ≡ Ok n
      → IsNewWriterOf state s.fields w → SkimsFrom begun r → (disk : D)
      (result : Result Counts SkimStoreError)
      → EndsEntries state sink.writer (λ es. HasTakenLines state [] es sink.writer) disk result
      → EndsSelection state w s o file file' disk result
  skimmed_all begun same r n is first skims disk result ends =
      all_put first n (subst Skims is (subst (λ (b : FileSinkState D). SkimsFrom b r) same skims)) disk result ends

  module _ (first : IsNewWriterOf state s.fields w) (is : IsFileSink state sink) (shut : UnclosedAreShut)
      (ordered : UnclosedInOrder) (leave : UnclosedLeave) (disk : D) (same : disk ≡ sink.writer.disk)
      (unclosed : BecomesSome (state sink.writer.given).held (state disk).held (λ h left. IsUnclosedOf sink.writer.begun left)) where
    -- why it ended, and what is left then
    early_left : (e : SkimError CommitError) → Skims (Err e) → (bytes : List ℕ) → file.bytes ≡ Some bytes
        → (h : Held) → (state disk).held ≡ Some h → IsUnclosedOf sink.writer.begun h
        → LeavesSelection sink.writer.params s (cluster_readings bytes o) (state disk)
        (Err (skim_of_early sink.writer.params.limits.clusters e))
    early_left (skim.Defect e) skims bytes told h held un =
        defect_left sink.writer.params s (cluster_readings bytes o) (state disk) h held (shut sink.writer.begun h un)
        (leave sink.writer.begun h un) e
        (skims.skimmed bytes told).0
    early_left skim.Fault skims bytes told h held un =
        failed_left sink.writer.params s (cluster_readings bytes o) (state disk) h held (shut sink.writer.begun h un)
        (leave sink.writer.begun h un)
    early_left (skim.Sink e) skims bytes told h held un =
        let some = skims.skimmed bytes told [] first.taken in
        let halts : TookEntries state some.0 sink.writer (Some e) =
        subst (λ (o : Option CommitError). TookEntries state some.0 sink.writer o) skims.left.cause some.3 in
        refused_left sink.writer.params s (cluster_readings bytes o) (state disk) h held (shut sink.writer.begun h un)
        (leave sink.writer.begun h un) state
        sink.writer.table (rows (Err (skim.Sink e)) skims first) sink.writer some.0 some.1 some.2 e halts
    early_left skim.Memory skims bytes told h held un =
        wanting_left sink.writer.params s (cluster_readings bytes o) (state disk) h held (shut sink.writer.begun h un)
        (leave sink.writer.begun h un)

    early_failed : (clusters : ℕ) (e : SkimError CommitError) → Skims (Err e) → skim_of_early clusters e ≡ Outside
        → (0 < (state disk).faults) ⊎ Rose file.faults file'.faults
    early_failed clusters (skim.Defect e) skims bad = absurd (cc bad)
    early_failed clusters skim.Fault skims bad = inr (skims.serves.fault refl)
    early_failed clusters (skim.Sink e) skims bad =
        let fault = skims.left.cause ∙ ap (λ (f : CommitError). Some f) (commit_failed clusters e bad) in
        inl (subst (λ (d : D). 0 < (state d).faults) (sym same) (is.failed fault))
    early_failed clusters skim.Memory skims bad = absurd (cc bad)

    ended : (e : SkimError CommitError) → Skims (Err e)
        → EndsSelection state w s o file file' disk (Err (skim_of_early w.params.limits.clusters e))
    ended e skims = record {
      left = λ bytes told empty.
          let left = unclosed nothing_held (empty_now (Err e) skims empty) in
          subst (λ (p : Params). LeavesSelection p s (cluster_readings bytes o) (state disk) (Err (skim_of_early p.limits.clusters e)))
          (params (Err e) skims) (early_left e skims bytes told left.0 left.1 left.2);
      order = λ empty. let left = unclosed nothing_held (empty_now (Err e) skims empty) in
          (left.0, left.1, ordered sink.writer.begun left.0 left.2);
      kept = file_kept (Err e) skims;
      failed = λ bad. early_failed w.params.limits.clusters e skims (cc bad);
    }

    pub skimmed_early : (begun : FileSinkState D) → begun ≡ empty_sink → (r : Result ℕ (SkimError CommitError))
        (e : SkimError CommitError) → r ≡ Err e → SkimsFrom begun r
        → EndsSelection state w s o file file' disk (Err (skim_of_early w.params.limits.clusters e))
    skimmed_early begun from r e eq skims =
        ended e (subst Skims eq (subst (λ (b : FileSinkState D). SkimsFrom b r) from skims))
