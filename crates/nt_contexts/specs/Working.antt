-- What contexts leave with the first pass and their sources.
use Rattle.std.specs.Prelude.{⊤, ◌≡◌, ◌⊎◌, ℕ, ◌+◌, ◌<◌, ◌≤◌, List, [], ◌∷◌, ◌++◌, length, take, Some, None, Result, Ok, Err, slice_get}
use Rattle.std.specs.Prelude.{slice_index_or}
use mathlib.Core.List.{IsPrefix}
use Rattle.nt_types.specs.ShapeData.{MemberData}
use Rattle.nt_types.specs.TreeData.{TreesData}
use Rattle.nt_grammar.specs.Table.{Table}
use Rattle.nt_event.specs.declared.fault.TextKind.{TextKind}
use Rattle.nt_outside.specs.Disk.{DiskState}
use Rattle.nt_outside.specs.Faults.{Rose}
use Rattle.nt_outside.specs.Source.{SourceState}
use Rattle.nt_turn.specs.Pass.{TurnState}
use Rattle.nt_machine.specs.declared.entry.Entry.{Entry}
use Rattle.nt_machine.specs.History.{ranges_of}
use Rattle.nt_book.specs.declared.meta.ClusterMeta.{ClusterMeta}
use Rattle.nt_book.specs.declared.params.Params.{Params}
use Rattle.nt_book.specs.declared.limits.LimitError.{LimitError}
use Rattle.nt_commit.specs.declared.locked.Birth.{Birth}
use Rattle.nt_commit.specs.Locked.{book_of_birth}
use Rattle.nt_commit.specs.Holds.{IsPassOf, IsFirstOf, HasNoneOut, HaveAllLeft}
use Rattle.nt_dealing.specs.Texts.{events_of, text_chunks, chunks_of, AreSound, IsFirstBad}
use Rattle.nt_dealing.specs.Failing.{whole_chunks, chunks_before, committed_chunks}
use Rattle.nt_dealing.specs.Written.{WroteAllChunks, CommittedFirst, HaveWritten, HaveCommitted}
use Rattle.nt_dealing.specs.Limits.{NextPasses}
use Rattle.nt_contexts.specs.declared.error.ContextError.TheVariants as context
use Rattle.nt_contexts.specs.declared.seats.Seat.{Seat}
use Rattle.nt_contexts.specs.Filling.{HaveFaults}
use Rattle.nt_contexts.specs.Seats.{DiskPass, EndsTold}
use Rattle.nt_contexts.specs.declared.error.RunError.{RunError}
use Rattle.nt_contexts.specs.declared.error.RunError.TheVariants.{Outside, Memory, Line, Limit}
use Rattle.nt_contexts.specs.Answers.{limit_told}
use Rattle.nt_contexts.specs.Contexts.{TellTexts, SomeRose, AreLater}

-- faults stand among the entries of a first pass, or of one that was joined to it
pub data KeepsFaults {D : Type 0} (first : DiskPass D) : Type 0 where
  of_first : HaveFaults first.own → KeepsFaults first
  of_kept : (place : ℕ) (k : ℕ × List (Entry ClusterMeta)) → slice_get first.kept place ≡ Some k → HaveFaults k.1 → KeepsFaults first

module _ {D : Type 0} (state : D → DiskState) (fields : List MemberData) (t : Table) (p : Params) (committer : TurnState (Birth D)) where
  -- the contexts of these texts were joined, and committed all chunks of those before this one, and then these, whatever others committed
  pub record CommittedBefore (texts : List (List ℕ)) (first : DiskPass D) (input : ℕ) (own : List (List TreesData)) : Type 0 where
    pub have : HaveCommitted t p.page (chunks_of p.cluster fields texts) first.number first.own first.kept
    pub others : List (List TreesData)
    pub are : committed_chunks (chunks_of p.cluster fields texts) first.kept ≡ chunks_before (chunks_of p.cluster fields texts) input own
        ++ others

  -- a text has this first bad line, and none before it fails
  pub record StopsAtLine (texts : List (List ℕ)) (first : DiskPass D) (input line : ℕ) (kind : TextKind) : Type 0 where
    pub bad : IsFirstBad fields texts input line kind
    pub before : CommittedBefore texts first input (whole_chunks p.cluster (text_chunks p.cluster fields bad.text))

  -- the next chunk of a context passes a limit, and none before it fails
  pub record PassesNext (texts : List (List ℕ)) (first : DiskPass D) (reached most : ℕ) : Type 0 where
    pub error : LimitError
    pub names : Limit reached most ≡ limit_told p.limits.clusters error
    pub place : ℕ
    pub text : List ℕ
    pub text_is : slice_get texts place ≡ Some text
    pub lower : (j : ℕ) (other : List ℕ) → j < place → slice_get texts j ≡ Some other → (events_of fields other).bad ≡ None
    pub own : List (Entry ClusterMeta)
    pub seen : List (Entry ClusterMeta)
    pub at : slice_get first.kept place ≡ Some (place, own)
    pub begins : IsPrefix seen first.seen
    pub passes : NextPasses (book_of_birth state committer.birth []) t p.page (slice_index_or (chunks_of p.cluster
        fields texts) place []) own seen error
    pub is_written : (length passes.chunk ≡ p.cluster) ⊎ ((events_of fields text).bad ≡ None)
    pub before : CommittedBefore texts first place (take (length (ranges_of own)) (text_chunks p.cluster fields text))

  -- what is known of the texts by the answer
  abbrev pub WorkTold : List (List ℕ) → DiskPass D → Result Unit RunError → Type 0
  WorkTold texts first (Ok done) =
      AreSound fields texts × HaveWritten (state committer.birth.begun).held t p.page p.staged (chunks_of p.cluster fields texts)
      first.number first.own first.kept × CommittedBefore texts first (length texts) []
  WorkTold texts first (Err (Line input line kind)) = StopsAtLine texts first input line kind
  WorkTold texts first (Err (Limit reached most)) = PassesNext texts first reached most
  WorkTold texts first (Err Outside) = ⊤
  WorkTold texts first (Err Memory) = ⊤

  -- all contexts were joined, and no range is out; what is known by the answer
  pub record HasWorked (sources sources' : List SourceState) (first : DiskPass D) (result : Result Unit RunError) : Type 0 where
    pub of : IsFirstOf committer first
    pub all_left : HaveAllLeft first
    pub later : AreLater sources sources'
    pub blamed : result ≡ Err Outside → SomeRose sources sources' ⊎ KeepsFaults first
    pub wrote : result ≡ Ok tt
        → (chunks : List (List (List TreesData))) × HaveWritten (state committer.birth.begun).held t p.page p.staged chunks
        first.number first.own first.kept
    pub told : (texts : List (List ℕ)) → TellTexts sources texts → WorkTold texts first result

  module _ {S P : Type 0} (source : S → SourceState) where
    -- the seat of the context of this number once it ran, over a source that was in this state
    pub record HasRun (number : ℕ) (s : SourceState) (seat : Seat S (DiskPass D) P) : Type 0 where
      pub pass : DiskPass D
      pub there : seat.pass ≡ Some pass
      pub of : IsPassOf committer pass
      pub number_is : pass.number ≡ number
      pub none_out : HasNoneOut pass.own
      pub later : s.faults ≤ (source seat.lines.source).faults
      pub blamed : seat.ended ≡ Err context.Outside → Rose s.faults (source seat.lines.source).faults ⊎ HaveFaults pass.own
      pub wrote : seat.ended ≡ Ok tt
          → (full : List (List TreesData)) × WroteAllChunks (state committer.birth.begun).held t p.page p.staged pass.number full pass.own
      pub committed : (text : List ℕ) → s.left ≡ Some text → CommittedFirst t p.page (text_chunks p.cluster fields text) pass.own
      pub told : (text : List ℕ) → s.left ≡ Some text → EndsTold state fields t p committer pass text seat.ended

    -- seats of contexts whose numbers go on from this one, once they ran
    abbrev pub HaveRun : ℕ → List SourceState → List (Seat S (DiskPass D) P) → Type 0
    HaveRun number [] [] = Unit {0}
    HaveRun number [] (seat ∷ seats) = ⊥
    HaveRun number (s ∷ states) [] = ⊥
    HaveRun number (s ∷ states) (seat ∷ seats) = HasRun number s seat × HaveRun (number + 1) states seats
