-- What a close leaves of a file of copies, by its answer.
use Rattle.std.proofs.Common.{◌≡◌, ◌∙◌, ap, sym, refl, subst, ℕ, zero, suc, ◌<◌, List, [], ◌∷◌}
use Rattle.std.proofs.Common.{◌++◌, map, length, take, drop, Some}
use Rattle.std.proofs.Common.{None, arith}
use Rattle.std.specs.Prelude.{Ok, Bool, false, Contains, slice_index_or}
use Rattle.std.specs.List.{AllByRecursion, range_with_len}
use Rattle.std.proofs.lemmas.Bool.{false≢true}
use Rattle.std.proofs.lemmas.List.{length-map}
use Rattle.std.proofs.lemmas.List.FromFn.{length-range_with_len}
use Rattle.std.proofs.lemmas.List.Sums.{sum_by-cons}
use Rattle.nt_types.specs.TreeData.{TreesData}
use Rattle.nt_outside.specs.Held.{Held, BecomesSome}
use Rattle.nt_outside.specs.Disk.{DiskState}
use Rattle.nt_grammar.specs.Table.{Table}
use Rattle.nt_machine.specs.History.{Cluster}
use Rattle.nt_book.specs.declared.limits.LimitError.{LimitError}
use Rattle.nt_book.specs.declared.meta.ClusterMeta.{ClusterMeta}
use Rattle.nt_book.specs.declared.params.Params.{Params}
use Rattle.nt_book.specs.Books.{BookData, book_ranges, book_clusters, entry_count, no_cluster}
use Rattle.nt_book.specs.Kept.{IsBookKept}
use Rattle.nt_pagelists.proofs.Named.{clusters-unstaged}
use Rattle.nt_pagelists.specs.Blobs.{blob_len}
use Rattle.nt_pagelists.specs.Objects.{ClusterSpan, list_len}
use Rattle.nt_layout.specs.Headers.{header_sum}
use Rattle.nt_layout.specs.Finished.{spans, list_places, footer_object, file_len}
use Rattle.nt_close.specs.Closing.{IsClosed, IsCloseCut}
use Rattle.nt_close.specs.Damage.{IsUndamaged}
use Rattle.nt_close.specs.Filled.{closing_tail, closing_front}
use Rattle.nt_close.specs.Laws.{ClosedIsFinished}
use Rattle.nt_close.specs.Passing.{first_passed, passed_by_close}
use Rattle.nt_close.specs.Spoiled.{IsUnspoiled}
use Rattle.nt_close.specs.Steps.{closed_on, closed_whole}
use Rattle.nt_copied.specs.Copies.{Source, IsCopyOf, AreCopies, no_copy, and_copy}
use Rattle.nt_merge_limits.specs.Limits.{kept_metas, IsBookBeside, MergeOverBy}
use Rattle.nt_seq.specs.Crashes.{AppendsLeave}
use Rattle.nt_seq.specs.Standing.{IsSettledCluster}
use Rattle.nt_seq.specs.Written.{file_so_far}
use Rattle.nt_merge.specs.Copying.{HasMerged}
use Rattle.nt_merge.specs.Merging.{Numbered, sources, readings, sound_numbered, copied_metas, IsFirstMergeLimit, IsMerging}
use Rattle.nt_merge.specs.Merging.{EndsMerge, IsCutFile, merged_entries}
use Rattle.nt_merge.proofs.AtEnd.{passed-lists, all-beside, close-first}
use Rattle.nt_merge.proofs.Closed.{MadeOfCopies, FitsWithin, merged, in-order, closed-crash, cut-open, take-whole}
use Rattle.nt_merge.proofs.Numbering.{sound-all}

-- ---- how many clusters and entries

pub copies-count : (t : Table) (ss : List Source) (lists : List (List TreesData)) (ranges : List (List ℕ)) (cs : List (Cluster ClusterMeta))
    → AreCopies t ss lists ranges cs → length cs ≡ length lists
copies-count t _ _ _ _ no_copy = refl
copies-count t _ _ _ _ (and_copy first others) = ap suc (copies-count t _ _ _ _ others)

copy-entries : (t : Table) (s : Source) (entries : List TreesData) (c : Cluster ClusterMeta) (range : List ℕ) → IsCopyOf t s entries c range
    → c.meta.entries ≡ length entries
copy-entries t s entries c range is =
    let meta = ap (λ (m : ClusterMeta). m.entries) is.meta_is in
    let give = ap length is.holds.give in
    let long = length-map (range_with_len 0 s.list.entries) _ in
    let all = length-range_with_len 0 s.list.entries in
    meta ∙ sym (give ∙ (long ∙ all))

pub copies-entries : (t : Table) (ss : List Source) (lists : List (List TreesData)) (ranges : List (List ℕ))
    (cs : List (Cluster ClusterMeta)) → AreCopies t ss lists ranges cs → entry_count cs ≡ merged_entries lists
copies-entries t _ _ _ _ no_copy = refl
copies-entries t _ _ _ _ (and_copy {s = s} {entries = entries} {others = lists} {range = range} {c = c} {cs = cs} first others) =
    let one = copy-entries t s entries c range first in
    let more = copies-entries t _ lists _ cs others in
    let left = sum_by-cons (λ (x : Cluster ClusterMeta). x.meta.entries) c cs in
    let right = sum_by-cons (λ (x : List TreesData). length x) entries lists in
    omega (arith, one, more, left, right)

-- ---- no range is spoiled

none-spoiled : (cs : List (Cluster ClusterMeta)) → AllByRecursion IsSettledCluster cs → (k : ℕ) → k < length cs
    → IsUnspoiled (slice_index_or cs k no_cluster).state
none-spoiled [] all k less = absurd (omega (arith, less))
none-spoiled (c ∷ cs) all zero less = subst IsUnspoiled (sym all.0) tt
none-spoiled (c ∷ cs) all (suc k) less = none-spoiled cs all.1 k (omega (arith, less))

pub undamaged : (t : Table) (p : Params) (given old : DiskState) (book : BookData) → IsMerging t p given old book → IsUndamaged book
undamaged t p given old book is =
    let settled =
    subst (λ (cs : List (Cluster ClusterMeta)). AllByRecursion IsSettledCluster cs) (clusters-unstaged book is.not_staged) is.settled in
    record {
      unspoiled = λ k less. none-spoiled (book_ranges book) settled k less;
      untorn = is.untorn;
      published = λ staged. absurd (false≢true (sym is.not_staged ∙ staged));
    }

-- ---- a limit that a close passes

in-drop : {A : Type 0} (n : ℕ) (xs : List A) (x : A) → Contains (drop n xs) x → Contains xs x
in-drop zero xs x has = has
in-drop (suc n) [] x has = has
in-drop (suc n) (y ∷ xs) x has =
    let more = in-drop n xs x has in
    (suc more.0, omega (arith, more.1), more.2)

-- what a file passes where it is closed, the whole file passes
abbrev pub ClosedPass : Type 0
ClosedPass =
    (t : Table) (p : Params) (book : BookData) → IsBookBeside t p book → (staged : Bool) (ss : List ClusterSpan) (error : LimitError)
    → ((s : ClusterSpan) → Contains ss s → Contains (spans book p.group) s)
    → first_passed p.limits (map (list_len (header_sum t) book) ss
    ++ blob_len (length (footer_object t book (list_places staged t book p.group))) ∷ [])
    (file_len t book (list_places staged t book p.group)) ≡ Some error
    → MergeOverBy t p (kept_metas book) error

module _ (t : Table) (p : Params) (given old : DiskState) (book : BookData) (ns : List Numbered) (is : IsMerging t p given old book)
    (kept : IsBookKept book) (has : HasMerged t p given old book ns (length ns)) where
  read-all : readings ns ≡ Ok has.lists
  read-all = subst (λ (l : List Numbered). readings l ≡ Ok has.lists) (take-whole ns) has.read

  metas-are : kept_metas book ≡ copied_metas (sound_numbered ns)
  metas-are =
      has.copies.metas ∙ ap (λ (l : List Numbered). copied_metas l) (take-whole ns ∙ sym (sound-all ns has.lists read-all))

  pub close-over : ClosedPass → (error : LimitError) → passed_by_close p t book ≡ Some error → IsFirstMergeLimit t p ns error
  close-over pass error passed = record {
    over = subst (λ (ms : List ClusterMeta). MergeOverBy t p ms error) metas-are
        (pass t p book (all-beside t p given old book ns is kept has) false (drop (length book.lists) (spans book p.group)) error
        (λ s. in-drop (length book.lists) (spans book p.group) s)
        (sym (passed-lists t p book is.closable.noted is.not_staged) ∙ passed));
    first = close-first t p given old book ns is kept has error passed;
  }

  module _ (finishes : ClosedIsFinished) (made : MadeOfCopies) (fit : FitsWithin) (leave : AppendsLeave) (new : DiskState)
      (passed : passed_by_close p t book ≡ None) where
    abbrev tail : List ℕ
    tail = closing_tail p.staged t book p.group

    abbrev front : List ℕ
    front = closing_front p.staged t book p.group

    abbrev h : Held
    h = file_so_far t is.blobs

    pub ends : IsClosed tail front old new → (clusters entries : ℕ) → clusters ≡ length (book_clusters book)
        → entries ≡ entry_count (book_clusters book) → EndsMerge t p ns given new clusters entries
    ends left clusters entries one two =
        let copies = has.copies.copies in
        let n = length ns in
        record {
          lists = has.lists;
          clusters_are = one ∙ copies-count t (sources (take n ns)) has.lists has.copies.ranges (book_clusters book) copies;
          entries_are = two ∙ copies-entries t (sources (take n ns)) has.lists has.copies.ranges (book_clusters book) copies;
          file = λ first told. (
            closed_on tail front h,
            left.held h (is.held first told),
            (
              merged t p given old book ns is kept first told finishes made fit has passed,
              (_, refl),
            ),
          );
          order = λ first told. (
            closed_on tail front h,
            left.held h (is.held first told),
            in-order t p given old book ns is kept first told finishes made fit has (closed_on tail front h) (closed_whole refl),
          );
          crash = λ first told. (
            closed_on tail front h,
            left.held h (is.held first told),
            closed-crash t p given old book ns is kept first told finishes made fit has leave passed,
          );
        }

    pub cuts : IsCloseCut tail front old new → BecomesSome given.held new.held (IsCutFile t p ns)
    cuts left first told =
        let cut = left.held h (is.held first told) in (
          cut.0,
          cut.1,
          cut-open t p given old book ns is kept first told finishes made fit has leave cut.0 passed cut.2,
        )
