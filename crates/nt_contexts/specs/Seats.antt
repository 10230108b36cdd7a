-- The seat of a context, before and after it ran.
use Rattle.std.specs.Prelude.{⊤, ◌≡◌, ◌⊎◌, ◌≤◌, ℕ, List, [], length, take, Some, None, IsSome, Result, Ok, Err}
use Rattle.nt_types.specs.ShapeData.{MemberData}
use Rattle.nt_types.specs.TreeData.{TreesData}
use Rattle.nt_types.specs.Rules.{AreFields}
use Rattle.nt_grammar.specs.Rows.{Rows}
use Rattle.nt_grammar.specs.Table.{Table}
use Rattle.nt_outside.specs.Disk.{DiskState}
use Rattle.nt_outside.specs.Faults.{Rose}
use Rattle.nt_outside.specs.Source.{SourceState}
use Rattle.nt_turn.specs.Pass.{TurnState, PassState}
use Rattle.nt_machine.specs.declared.entry.Entry.{Entry}
use Rattle.nt_machine.specs.History.{ranges_of}
use Rattle.nt_book.specs.declared.meta.ClusterMeta.{ClusterMeta}
use Rattle.nt_book.specs.declared.params.Params.{Params}
use Rattle.nt_commit.specs.declared.locked.Birth.{Birth}
use Rattle.nt_commit.specs.Locked.{book_of_birth}
use Rattle.nt_commit.specs.Holds.{IsPassOf, HasNoneOut}
use Rattle.nt_dealing.specs.Texts.{events_of, text_chunks}
use Rattle.nt_dealing.specs.Written.{WroteAllChunks, CommittedFirst}
use Rattle.nt_dealing.specs.Limits.{NextPasses}
use Rattle.nt_dealing.specs.Failing.{whole_chunks}
use Rattle.nt_contexts.specs.declared.error.ContextError.{ContextError}
use Rattle.nt_contexts.specs.declared.error.ContextError.TheVariants.{Text, Limit, Outside, Memory}
use Rattle.nt_contexts.specs.declared.seats.Seat.{Seat}
use Rattle.nt_contexts.specs.Reading.{left_of}
use Rattle.nt_contexts.specs.Filling.{HaveFaults}

-- the pass of a context over a disk
abbrev pub DiskPass : Type 0 → Type 0
DiskPass D = PassState (Entry ClusterMeta) (Birth D)

-- a schema of these fields, which keep the rules of a schema text, with as many columns as the committer's clusters have, which are staged
-- where the parameters say so
pub record IsSchemaFor {D : Type 0} (committer : TurnState (Birth D)) (fields : List MemberData) (p : Params) (t : Table) : Type 0 where
  pub rules : AreFields fields
  pub rows : Rows fields p.plain t
  pub columns : length t.columns ≡ committer.birth.columns
  pub staged : committer.birth.staged ≡ p.staged

module _ {D S P : Type 0} where
  -- a context that has read and written nothing, with a pass of the committer and a pen
  pub record IsFreshSeat (source : S → SourceState) (committer : TurnState (Birth D)) (seat : Seat S (DiskPass D) P) : Type 0 where
    pub pass : DiskPass D
    pub there : seat.pass ≡ Some pass
    pub of : IsPassOf committer pass
    pub unused : pass.own ≡ []
    pub pen : IsSome seat.pen
    pub first : (left_of source seat.lines).number ≡ 0

-- what a text and a pass are to each other once its context ended so: all chunks were written, and no more; or the first bad line of the
-- text, before which just the whole chunks were committed; or the limit that the next chunk passes, which is whole or the last of a text
-- without a bad line
abbrev pub EndsTold : {D : Type 0} → (D → DiskState) → List MemberData → Table → Params → TurnState (Birth D) → DiskPass D → List ℕ
    → Result Unit ContextError → Type 0
EndsTold state fields t p committer pass text (Ok done) =
    ((events_of fields text).bad ≡ None)
    × WroteAllChunks (state committer.birth.begun).held t p.page p.staged pass.number (text_chunks p.cluster fields text) pass.own
    × (take (length (ranges_of pass.own)) (text_chunks p.cluster fields text) ≡ text_chunks p.cluster fields text)
EndsTold state fields t p committer pass text (Err (Text line kind)) =
    ((events_of fields text).bad ≡ Some (record { line = line; kind = kind }))
    × (take (length (ranges_of pass.own)) (text_chunks p.cluster fields text) ≡ whole_chunks p.cluster (text_chunks p.cluster fields text))
EndsTold state fields t p committer pass text (Err (Limit error)) =
    (next : NextPasses (book_of_birth state committer.birth []) t p.page
    (text_chunks p.cluster fields text) pass.own pass.seen error) × ((length next.chunk ≡ p.cluster) ⊎ ((events_of fields text).bad ≡ None))
EndsTold state fields t p committer pass text (Err Outside) = ⊤
EndsTold state fields t p committer pass text (Err Memory) = ⊤

module _ {D S P : Type 0} (state : D → DiskState) (source : S
    → SourceState) (fields : List MemberData) (t : Table) (p : Params) (committer : TurnState (Birth D)) where
  -- a context read its text to the end and wrote the chunks of its entries, or ended before
  pub record Ran (old new : Seat S (DiskPass D) P) : Type 0 where
    pub was : DiskPass D
    pub was_there : old.pass ≡ Some was
    pub pass : DiskPass D
    pub there : new.pass ≡ Some pass
    pub of : IsPassOf committer pass
    pub number : pass.number ≡ was.number
    pub none_out : HasNoneOut pass.own
    pub later : (left_of source old.lines).faults ≤ (left_of source new.lines).faults
    pub blamed : new.ended ≡ Err Outside → Rose (left_of source old.lines).faults (left_of source new.lines).faults ⊎ HaveFaults pass.own
    -- whatever the text, a context that ended well wrote chunks, each whole
    pub wrote : new.ended ≡ Ok tt
        → (full : List (List TreesData)) × WroteAllChunks (state committer.birth.begun).held t p.page p.staged pass.number full pass.own
    pub committed : (text : List ℕ) → (left_of source old.lines).left ≡ Some text
        → CommittedFirst t p.page (text_chunks p.cluster fields text) pass.own
    pub told : (text : List ℕ) → (left_of source old.lines).left ≡ Some text → EndsTold state fields t p committer pass text new.ended
