-- What the laws of files say of one whose clusters are the chunks of texts.
use Rattle.std.specs.Prelude.{◌≡◌, ℕ, ◌≤◌, List, None}
use Rattle.std.specs.List.{AllByRecursion}
use Rattle.nt_types.specs.ShapeData.{MemberData}
use Rattle.nt_types.specs.Rules.{AreFields}
use Rattle.nt_grammar.specs.Table.{Table}
use Rattle.nt_grammar.specs.Rows.{Rows}
use Rattle.nt_machine.specs.History.{Cluster}
use Rattle.nt_book.specs.declared.meta.ClusterMeta.{ClusterMeta}
use Rattle.nt_book.specs.declared.params.Params.{Params}
use Rattle.nt_book.specs.Books.{BookData, book_clusters}
use Rattle.nt_book.specs.Kept.{IsBookKept}
use Rattle.nt_outside.specs.Log.{Step}
use Rattle.nt_outside.specs.Held.{Held, nothing_held}
use Rattle.nt_container.specs.Spelling.{begun}
use Rattle.nt_layout.specs.Headers.{header_blob}
use Rattle.nt_layout.specs.Finished.{finished}
use Rattle.nt_close.specs.Steps.{closed_on, IsBegunSoFar, IsClosedSoFar}
use Rattle.nt_cuts.specs.Cuts.{LeavesUnfinished, LeavesUnfinishedOr, LeavesOnly}
use Rattle.nt_crash.specs.Fillings.{IsFilling, IsFilled}
use Rattle.nt_close.specs.Beginning.{new_book}
use Rattle.nt_close.specs.Filled.{AreListsNoted, closing_tail, closing_front}
use Rattle.nt_close.specs.Passing.{passed_by_begin, passed_by_close}
use Rattle.nt_close.specs.Closing.{AreRangesOf, StaysWithin}
use Rattle.nt_dealing.specs.Dealt.{AreChunksDealt, commit_order}
use Rattle.nt_dealing.specs.Texts.{AreSound, chunks_of, all_chunks}
use Rattle.nt_dealing.specs.Limits.{IsOver}
use Rattle.nt_dealing.specs.Failing.{CommitsFit}
use Rattle.nt_contexts.specs.Contexts.{IsBookOn}
use Rattle.nt_store.specs.Whole.{IsStored}
use Rattle.nt_store.specs.Writing.{IsPassedAs}

-- a file was begun for these fields, and its clusters are the chunks of sound texts, dealt out; page lists stand beside them unless they
-- are staged, none of which failed
pub record HoldsChunks (fields : List MemberData) (p : Params) (texts : List (List ℕ)) (t : Table) (book : BookData) (ranges : List (List
    ℕ)) : Type 0 where
  pub rules : AreFields fields
  pub rows : Rows fields p.plain t
  pub within : passed_by_begin p.limits t ≡ None
  pub kept : IsBookKept book
  pub noted : AreListsNoted t p book
  pub untorn : book.torn ≡ None
  pub book_on : IsBookOn (new_book t p) book
  pub short : AllByRecursion (λ (c : Cluster ClusterMeta). c.len ≤ p.limits.range) (book_clusters book)
  pub sound : AreSound fields texts
  pub are : AreChunksDealt p.staged t p.page (chunks_of p.cluster fields texts) book ranges
  pub fit : CommitsFit t p (all_chunks p.cluster fields texts)

-- its ranges are as long as the book says
abbrev pub RangesAreAsLong : Type 0
RangesAreAsLong =
    (fields : List MemberData) (p : Params) (texts : List (List ℕ)) (t : Table) (book : BookData) (ranges : List (List ℕ))
    → HoldsChunks fields p texts t book ranges → AreRangesOf book ranges

-- once it is finished, within the limits, it is stored
abbrev pub FinishedAreStored : Type 0
FinishedAreStored =
    (fields : List MemberData) (p : Params) (texts : List (List ℕ)) (t : Table) (book : BookData) (ranges : List (List ℕ)) (bytes : List ℕ)
    → HoldsChunks fields p texts t book ranges → StaysWithin t p book → bytes ≡ finished p.staged t book p.group ranges
    → IsStored p fields texts (commit_order book) bytes

-- a limit that its closing passes is one that its chunks pass
abbrev pub PassedAreOver : Type 0
PassedAreOver =
    (fields : List MemberData) (p : Params) (texts : List (List ℕ)) (t : Table) (book : BookData) (ranges : List (List ℕ)) (reached most
    : ℕ)
    → HoldsChunks fields p texts t book ranges → IsPassedAs (passed_by_close p t book) reached most
    → IsOver t p (all_chunks p.cluster fields texts) reached most

-- what a crash leaves of such a file, and of one that is only begun or has ranges of its contexts
pub record CrashesLeave : Type 0 where
  pub beginning : (t : Table) (left : Held) → IsBegunSoFar (begun 0 0 0) (header_blob t) nothing_held left → LeavesUnfinished left.log
  pub filling : (t : Table) (log : List Step) → IsFilling t log → LeavesUnfinished log
  pub closing : (fields : List MemberData) (p : Params) (texts : List (List ℕ)) (t : Table) (book : BookData) (ranges : List (List ℕ))
      (h left : Held) → HoldsChunks fields p texts t book ranges → StaysWithin t p book → IsFilled p.staged t p.group book ranges h.log
      → IsClosedSoFar (closing_tail p.staged t book p.group) (closing_front p.staged t book p.group) h left
      → LeavesUnfinishedOr (IsStored p fields texts (commit_order book)) left.log
  pub closed : (fields : List MemberData) (p : Params) (texts : List (List ℕ)) (t : Table) (book : BookData) (ranges : List (List ℕ))
      (h : Held) → HoldsChunks fields p texts t book ranges → StaysWithin t p book → IsFilled p.staged t p.group book ranges h.log
      → LeavesOnly (IsStored p fields texts (commit_order book))
      (closed_on (closing_tail p.staged t book p.group) (closing_front p.staged t book p.group) h).log
