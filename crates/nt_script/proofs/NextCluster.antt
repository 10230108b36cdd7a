-- The cluster that a writer writes next: what its book keeps of it, or which limit it passes.
use Rattle.std.proofs.Common.{◌≡◌, ◌≢◌, ℕ, ◌<◌, ◌≤◌, List, [], ◌∷◌, ◌++◌, length, map, Some, Result, Err, refl, sym, ap, ◌∙◌, subst}
use Rattle.std.proofs.Common.{append_assoc, arith}
use Rattle.std.proofs.lemmas.List.{length-map, map-append}
use Rattle.nt_types.specs.TreeData.{TreesData}
use Rattle.nt_outside.specs.Disk.{DiskState}
use Rattle.nt_grammar.specs.Table.{Table}
use Rattle.nt_machine.specs.History.{Cluster}
use Rattle.nt_book.specs.declared.meta.ClusterMeta.{ClusterMeta}
use Rattle.nt_book.specs.declared.limits.LimitError.{LimitError}
use Rattle.nt_book.specs.declared.limits.LimitError.TheVariants as limit
use Rattle.nt_book.specs.declared.limits.Limits.{Limits}
use Rattle.nt_book.specs.declared.params.Params.{Params}
use Rattle.nt_book.specs.Books.{book_clusters, book_end}
use Rattle.nt_book.specs.Kept.{IsBookKept}
use Rattle.nt_book.specs.Limiting.{limit_error_with}
use Rattle.nt_pages.specs.Image.{image}
use Rattle.nt_pages.specs.Metas.{cluster_meta}
use Rattle.nt_commit.specs.declared.error.CommitError.{CommitError}
use Rattle.nt_commit.specs.declared.error.CommitError.TheVariants as commit
use Rattle.nt_commit.specs.Appending.{due_bytes}
use Rattle.nt_commit.specs.Claims.{limit_in}
use Rattle.nt_dealing.specs.Limits.{IsKeptOf, AreKeptOf}
use Rattle.nt_append.specs.Appending.{settled_cluster, with_due_list}
use Rattle.nt_seq.specs.Standing.{IsWriting}
use Rattle.nt_seq.specs.Writer.{SeqState, gathered_by}
use Rattle.nt_seq.specs.Changing.{WritesNext, FailsToAppend, NamesPassed}
use Rattle.nt_script.specs.Reading.{Segment, segment_metas}
use Rattle.nt_script.specs.Limits.{clusters_end, due_list_len, limit_behind, PassesHere}
use Rattle.nt_script.specs.Taking.{KeepsClusters, HasTakenLines, HaltsAt}
use Rattle.nt_script.specs.Running.{error_of_commit}
use Rattle.nt_script.proofs.Between.{end-between, due-between}
use Rattle.nt_script.proofs.Passed.{beside-writing, stands_as}

abbrev pub refusal : CommitError → Result (Unit {0}) CommitError
refusal e = Err e

-- a limit is no want of memory
range_apart : (len most : ℕ) → refusal (commit.RangeTooLarge len most) ≢ refusal commit.Memory
range_apart len most is = cc

file_apart : (end most : ℕ) → refusal (commit.FileTooLarge end most) ≢ refusal commit.Memory
file_apart end most is = cc

many_apart : refusal commit.TooManyClusters ≢ refusal commit.Memory
many_apart is = cc

-- what is kept of the cluster that is written next
abbrev pub next_meta : {D : Type 0} → SeqState D → ClusterMeta
next_meta w = cluster_meta w.params.page 0 (length (gathered_by w)) w.columns

-- one cluster more of which something is kept
kept-push : (t : Table) (page : ℕ) (cs : List (List TreesData)) (ms : List ClusterMeta) (c : List TreesData) (m : ClusterMeta)
    → AreKeptOf t page cs ms → IsKeptOf t page c m → AreKeptOf t page (cs ++ c ∷ []) (ms ++ m ∷ [])
kept-push t page [] [] c m all one = (one, tt)
kept-push t page [] (n ∷ ms) c m all one = absurd all
kept-push t page (b ∷ cs) [] c m all one = absurd all
kept-push t page (b ∷ cs) (n ∷ ms) c m all one = (all.0, kept-push t page cs ms c m all.1 one)

module _ {D : Type 0} (state : D → DiskState) where
  pub same_params : (old new : SeqState D) → WritesNext state old new → new.params ≡ old.params
  same_params old new next = ap (λ (w : SeqState D). w.params) next.now

  -- with the gathered entries, which are the next cluster
  pub keeps_next : (segments : List Segment) (old new : SeqState D) (clusters : List (List TreesData)) → WritesNext state old new
      → KeepsClusters segments clusters old → KeepsClusters segments (clusters ++ gathered_by old ∷ []) new
  keeps_next segments old new clusters next keeps =
      let m = next_meta old in
      let kept : IsKeptOf old.table old.params.page (gathered_by old) m =
      record { columns = old.columns; gives = next.gives; meta_is = refl } in
      let all = kept-push old.table old.params.page clusters keeps.own (gathered_by old) m keeps.kept kept in
      let table : old.table ≡ new.table = sym (ap (λ (w : SeqState D). w.table) next.now) in
      let here : AreKeptOf new.table old.params.page (clusters ++ gathered_by old ∷ []) (keeps.own ++ m ∷ []) =
      subst (λ (t : Table). AreKeptOf t old.params.page (clusters ++ gathered_by old ∷ []) (keeps.own ++ m ∷ [])) table all in
      record {
        own = keeps.own ++ m ∷ [];
        kept = subst (λ (p : Params). AreKeptOf new.table p.page (clusters ++ gathered_by old ∷ []) (keeps.own ++ m ∷ []))
            (sym (same_params old new next)) here;
        metas = ap (map (λ (c : Cluster ClusterMeta). c.meta)) next.gains.clusters
            ∙ (map-append (λ (c : Cluster ClusterMeta). c.meta) (book_clusters old.book)
            (settled_cluster (length (book_clusters old.book)) (book_end (with_due_list old.book)) m ∷ [])
            ∙ (ap (λ (l : List ClusterMeta). l ++ m ∷ []) keeps.metas
            ∙ append_assoc (segment_metas segments) keeps.own (m ∷ [])));
      }

  -- why the gathered entries weren't written
  pub halted : (segments : List Segment) (es : List TreesData) (old new : SeqState D) (e : CommitError) → 0 < length (gathered_by old)
      → length (gathered_by old) ≤ old.params.cluster → IsBookKept old.book → IsWriting state old → HasTakenLines state segments es old
      → (refusal e ≢ refusal commit.Memory → NamesPassed old (Err e))
      → (refusal e ≡ refusal commit.Fault → FailsToAppend state old new)
      → HaltsAt state (λ next. next ≡ gathered_by old) old.table old.params segments es new (error_of_commit e)
  halted segments es old new e some few kept is taken names fault = at e names fault
    where
      over : (error : LimitError) (f : CommitError) → limit_in f ≡ Some error → NamesPassed old (Err f)
          → PassesHere old.table old.params segments es (gathered_by old) error
      over error f limit_is passed =
          let own = segment_metas segments ++ taken.keeps.own in
          let lists = length old.book.lists in
          let most = old.params.group in
          let book = beside-writing state old is kept in
          let stands = stands_as state old own taken.keeps.metas is kept in
          let len = length (image old.params.page old.columns) in
          let end : book_end old.book ≡ clusters_end old.table most own lists =
          end-between old.table old.params old.book book
          ∙ ap (λ (l : List ClusterMeta). clusters_end old.table most l lists) taken.keeps.metas in
          let count : length (book_clusters old.book) ≡ length own =
          sym (length-map (book_clusters old.book) (λ (c : Cluster ClusterMeta). c.meta))
          ∙ ap (λ (l : List ClusterMeta). length l) taken.keeps.metas in
          let due : due_list_len most own lists ≡ length (due_bytes old.book) =
          sym (ap (λ (l : List ClusterMeta). due_list_len most l lists) taken.keeps.metas)
          ∙ due-between old.table old.params old.book book in
          record {
            full = taken.full;
            sizes = taken.sizes;
            whole = taken.whole;
            some = some;
            few = few;
            own = taken.keeps.own;
            kept = taken.keeps.kept;
            within = stands.0;
            meta = next_meta old;
            next_kept = record { columns = old.columns; gives = passed.gives; meta_is = refl };
            passed = ap (λ (n : ℕ). limit_behind old.table old.params own n len) stands.1
                ∙ (ap (λ (l : Limits). limit_error_with l (clusters_end old.table most own lists) (length own) len
                (due_list_len most own lists)) (sym passed.limits_are)
                ∙ (ap (λ (n : ℕ). limit_error_with old.book.limits n (length own) len (due_list_len most own lists)) (sym end)
                ∙ (ap (λ (n : ℕ). limit_error_with old.book.limits (book_end old.book) n len (due_list_len most own lists)) (sym count)
                ∙ (ap (λ (n : ℕ). limit_error_with old.book.limits (book_end old.book) (length (book_clusters old.book)) len n) due
                ∙ (passed.names ∙ limit_is)))));
          }

      at : (f : CommitError) → (refusal f ≢ refusal commit.Memory → NamesPassed old (Err f))
          → (refusal f ≡ refusal commit.Fault → FailsToAppend state old new)
          → HaltsAt state (λ next. next ≡ gathered_by old) old.table old.params segments es new (error_of_commit f)
      at (commit.RangeTooLarge len most) names fault = (
        gathered_by old,
        refl,
        over (limit.RangeTooLarge len most) (commit.RangeTooLarge len most) refl (names (range_apart len most)),
      )
      at (commit.FileTooLarge end most) names fault = (
        gathered_by old,
        refl,
        over (limit.FileTooLarge end most) (commit.FileTooLarge end most) refl (names (file_apart end most)),
      )
      at commit.TooManyClusters names fault =
          (gathered_by old, refl, over limit.TooManyClusters commit.TooManyClusters refl (names many_apart))
      at commit.Memory names fault = tt
      at commit.Fault names fault = let f = fault refl in omega (arith, f.fails.rose)
