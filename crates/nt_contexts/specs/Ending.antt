-- What a committer hands back once its contexts were joined.
use Rattle.std.specs.Prelude.{◌≡◌, ℕ, ◌≤◌, List, [], Some, slice_get, slice_index_or}
use Rattle.std.specs.List.{AllByRecursion}
use mathlib.Core.List.{IsPrefix}
use Rattle.nt_types.specs.ShapeData.{MemberData}
use Rattle.nt_types.specs.TreeData.{TreesData}
use Rattle.nt_types.specs.Rules.{AreFields}
use Rattle.nt_grammar.specs.Table.{Table}
use Rattle.nt_grammar.specs.Rows.{Rows}
use Rattle.nt_outside.specs.Disk.{DiskState}
use Rattle.nt_outside.specs.Faults.{Rose}
use Rattle.nt_outside.specs.Held.{BecomesSome}
use Rattle.nt_machine.specs.declared.entry.Entry.{Entry}
use Rattle.nt_machine.specs.History.{Cluster}
use Rattle.nt_book.specs.declared.meta.ClusterMeta.{ClusterMeta}
use Rattle.nt_book.specs.declared.params.Params.{Params}
use Rattle.nt_book.specs.declared.limits.LimitError.{LimitError}
use Rattle.nt_book.specs.Books.{BookData, book_clusters, book_end}
use Rattle.nt_commit.specs.declared.locked.Birth.{Birth}
use Rattle.nt_commit.specs.Locked.{book_of_birth}
use Rattle.nt_close.specs.Damage.{IsUndamaged}
use Rattle.nt_close.specs.Filled.{AreListsNoted}
use Rattle.nt_dealing.specs.Begun.{IsBornFor}
use Rattle.nt_dealing.specs.Texts.{chunks_of, all_chunks}
use Rattle.nt_dealing.specs.Written.{HaveWritten, HaveCommitted}
use Rattle.nt_dealing.specs.Dealt.{IsDealtOut, FillsBehind}
use Rattle.nt_dealing.specs.Limits.{NextPasses, IsOverBy}
use Rattle.nt_dealing.specs.Failing.{CommitsFit, ChunkPassesBy, committed_chunks}
use Rattle.nt_contexts.specs.Seats.{DiskPass}
use Rattle.nt_contexts.specs.Working.{KeepsFaults}

module _ {D : Type 0} (state : D → DiskState) (birth : Birth D) where
  -- disk and book, by what the first pass keeps
  pub record HasEnded (first : DiskPass D) (disk : D) (book : BookData) : Type 0 where
    pub later : (state birth.begun).faults ≤ (state disk).faults
    pub blamed : KeepsFaults first → Rose (state birth.begun).faults (state disk).faults
    pub dealt : (t : Table) (p : Params) (chunks : List (List (List TreesData))) → IsBornFor state birth t p
        → HaveWritten (state birth.begun).held t p.page p.staged chunks first.number first.own first.kept
        → IsDealtOut t p chunks book (state birth.begun).held (state disk).held × IsUndamaged book
    pub over : (fields : List MemberData) (t : Table) (p : Params) (texts : List (List ℕ)) (i : ℕ) (own seen : List (Entry ClusterMeta))
        (error : LimitError)
        → AreFields fields → Rows fields p.plain t → IsBornFor state birth t p → HaveCommitted t p.page (chunks_of p.cluster fields texts)
        first.number first.own first.kept
        → slice_get first.kept i ≡ Some (i, own) → IsPrefix seen first.seen
        → (next : NextPasses (book_of_birth state birth []) t p.page (slice_index_or (chunks_of p.cluster fields texts) i []) own seen
        error)
        → IsOverBy t p (all_chunks p.cluster fields texts) error × ChunkPassesBy t p next.chunk error
    -- what contexts committed passes no limit of a commit
    pub fit : (t : Table) (p : Params) (chunks : List (List (List TreesData))) → IsBornFor state birth t p
        → HaveCommitted t p.page chunks first.number first.own first.kept → CommitsFit t p (committed_chunks chunks first.kept)
    pub held : BecomesSome (state birth.begun).held (state disk).held (FillsBehind (state birth.begun).end)
    pub begin : book.begin ≡ (state birth.begun).end
    pub limits : book.limits ≡ birth.limits
    pub firsts : book.firsts ≡ birth.firsts
    pub staged : book.staged ≡ birth.staged
    -- each page list is noted as that of its group
    pub noted : (t : Table) (p : Params) → IsBornFor state birth t p → AreListsNoted t p book
    pub end : (state disk).end ≡ book_end book
    pub out : (state disk).out ≡ []
    pub short : AllByRecursion (λ (c : Cluster ClusterMeta). c.len ≤ birth.limits.range) (book_clusters book)
