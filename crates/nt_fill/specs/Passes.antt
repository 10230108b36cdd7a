-- What a pass knows after a cluster was written, or wasn't.
use Rattle.std.specs.Prelude.{ℕ, ◌≡◌, ◌≢◌, ◌-◌, ◌⊎◌, Bool, true, false, List, [], ◌∷◌, ◌++◌, length, drop, Option, Some, None, IsSome}
use Rattle.std.specs.Prelude.{Result, Err, IsErrOf}
use Rattle.std.specs.List.{AllByRecursion}
use mathlib.Core.List.{IsPrefix}
use Rattle.nt_turn.specs.Pass.{TurnState, PassState}
use Rattle.nt_outside.specs.Range.{ExtState, PenState}
use Rattle.nt_outside.specs.Disk.{DiskState}
use Rattle.nt_container.specs.Spelling.{blob_key}
use Rattle.nt_machine.specs.declared.entry.Entry.{Entry}
use Rattle.nt_machine.specs.History.{WrittenChunk, entries_of_chunk, ranges_of, reserving}
use Rattle.nt_machine.specs.Legal.{IsFilledRange}
use Rattle.nt_book.specs.declared.limits.LimitError.{LimitError}
use Rattle.nt_book.specs.declared.meta.ClusterMeta.{ClusterMeta}
use Rattle.nt_book.specs.Entries.{spoiled_entry, faulted_entry}
use Rattle.nt_pages.specs.declared.image.ClusterImage.{ClusterImage}
use Rattle.nt_pages.specs.Image.{key_room}
use Rattle.nt_logged.specs.Steps.{bytes_where_told}
use Rattle.nt_commit.specs.declared.locked.Birth.{Birth}
use Rattle.nt_commit.specs.declared.claim.Claim.{Claim}
use Rattle.nt_commit.specs.declared.error.CommitError.{CommitError}
use Rattle.nt_commit.specs.declared.error.CommitError.TheVariants.{Fault}
use Rattle.nt_commit.specs.Claims.{HasLooked, IsClaimOf, limit_answered}
use Rattle.nt_commit.specs.Lists.{NextPlace, limit_at}
use Rattle.nt_commit.specs.Locked.{book_of_birth}
use Rattle.nt_commit.specs.Holds.{IsPassOf, HasNoneOut, HasNotPublished}
use Rattle.nt_commit.specs.Images.{IsImageFor}

-- a pen has met no more faults: no fill of it failed
abbrev pub KeepsCount : {P : Type 0} → (P → PenState) → Option P → Option P → Type 0
KeepsCount {P = P} pen_state pen pen' = (old new : P) → pen ≡ Some old → pen' ≡ Some new → (pen_state new).faults ≡ (pen_state old).faults

module _ {D : Type 0} where
  -- the pass has seen this, and its own list gained these entries
  abbrev pub gained : PassState (Entry ClusterMeta) (Birth D) → List (Entry ClusterMeta) → List (Entry ClusterMeta)
      → PassState (Entry ClusterMeta) (Birth D)
  gained pass seen added = record pass { seen = seen; own = pass.own ++ added }

  -- the pass has seen more, and its own list gained these entries
  pub record Gains (added : List (Entry ClusterMeta)) (old new : PassState (Entry ClusterMeta) (Birth D)) : Type 0 where
    pub seen : IsPrefix old.seen new.seen
    pub now : new ≡ gained old new.seen added

  -- a call failed: a count of faults stands in the own list
  pub record MeetsFault (old new : PassState (Entry ClusterMeta) (Birth D)) : Type 0 where
    pub faults : ℕ
    pub gains : Gains (faulted_entry old.number faults ∷ []) old new

  -- a range was reserved with this metadata, and spoiled
  pub record SpoilsRange (staged : Bool) (meta : ClusterMeta) (old new : PassState (Entry ClusterMeta) (Birth D)) : Type 0 where
    pub cluster : ℕ
    pub start : ℕ
    pub faults : ℕ
    pub gains : Gains (record { context = old.number; kind = reserving staged cluster start meta.len meta }
        ∷ spoiled_entry old.number cluster faults ∷ []) old new

  -- a range of this metadata was to be written: the pen is as before after a fault of the disk, and gone after its own
  abbrev pub FailsToWrite : {P : Type 0} → Bool → ClusterMeta → PassState (Entry ClusterMeta) (Birth D)
      → PassState (Entry ClusterMeta) (Birth D) → Option P → Option P → Type 0
  FailsToWrite staged meta old new pen pen' = (MeetsFault old new × (pen' ≡ pen)) ⊎ (SpoilsRange staged meta old new × (pen' ≡ None))

  -- refused, pass and pen are as before, but that the pass has seen more; after a fault a range of this metadata failed to be written
  pub record LeavesRefused {P : Type 0} (staged : Bool) (meta : ClusterMeta) (old new : PassState (Entry ClusterMeta) (Birth D))
      (pen pen' : Option P) (result : Result Unit CommitError) : Type 0 where
    pub kept : (e : CommitError) → result ≡ Err e → e ≢ Fault → Gains [] old new × (pen' ≡ pen)
    pub fault : IsErrOf result Fault → FailsToWrite staged meta old new pen pen'

  -- where clusters are staged, the pass hasn't published
  abbrev pub IsUnpublished : Bool → PassState (Entry ClusterMeta) (Birth D) → Type 0
  IsUnpublished staged pass = staged ≡ true → HasNotPublished pass

  -- while the pen is there, each range of the pass is filled
  abbrev pub AreAllFilled : {P : Type 0} → PassState (Entry ClusterMeta) (Birth D) → Option P → Type 0
  AreAllFilled pass pen = IsSome pen → AllByRecursion IsFilledRange (ranges_of pass.own)

  -- a pass of the committer which has no range out, and no spoiled one while its pen is there; it publishes nothing where it didn't before
  pub record LeavesPass {P : Type 0} (staged : Bool) (committer : TurnState (Birth D)) (old new : PassState (Entry ClusterMeta) (Birth D))
      (pen : Option P) : Type 0 where
    pub of : IsPassOf committer new
    pub none_out : HasNoneOut new.own
    pub filled : AreAllFilled new pen
    pub unpublished : IsUnpublished staged old → IsUnpublished staged new

  -- an image may be written: it is one of this pass, which hasn't published where clusters are staged, no range of the pass is out, and its
  -- pen is there
  pub record MayWrite {P : Type 0} (staged : Bool) (committer : TurnState (Birth D)) (pass : PassState (Entry ClusterMeta) (Birth
      D)) (pen : Option P)
      (image : ClusterImage) : Type 0 where
    pub of : IsPassOf committer pass
    pub staged_is : committer.birth.staged ≡ staged
    pub unpublished : IsUnpublished staged pass
    pub none_out : HasNoneOut pass.own
    pub filled : AreAllFilled pass pen
    pub alive : IsSome pen
    pub image_is : IsImageFor committer.birth.columns pass.number image

  module _ (state : D → DiskState) (committer : TurnState (Birth D)) where
    -- the claim of a range of this pass, as long as these bytes, not filled yet
    pub record IsClaimFor {X : Type 0} (tell : X → ExtState) (pass : PassState (Entry ClusterMeta) (Birth D)) (bytes : List ℕ)
        (claim : Claim X) : Type 0 where
      pub own : IsClaimOf tell (state committer.birth.begun).held (ranges_of pass.own) pass.number claim
      pub unfilled : (tell claim.ext).filled ≡ false
      pub long : length bytes ≡ (tell claim.ext).range.len

    -- the answer names the limit that a range of this length passes behind a history that the pass has now seen, and behind the page list
    -- that is due then, or none; behind a limit that is named the pass has seen no more than that history
    pub record NamesLimit (len : ℕ) (old new : PassState (Entry ClusterMeta) (Birth D)) (result : Result Unit CommitError) : Type 0 where
      pub history : List (Entry ClusterMeta)
      pub later : IsPrefix old.seen history
      pub seen : IsPrefix history new.seen
      pub place : NextPlace (book_of_birth state committer.birth history)
      pub limits : HasLooked committer.birth.group result
          → limit_at (book_of_birth state committer.birth history) place len ≡ limit_answered result
      pub last : (l : LimitError) → limit_answered result ≡ Some l → history ≡ new.seen

    -- the image was written with the key of its place, and its bytes are told where the disk told what it held at the beginning
    pub record WritesImage (staged : Bool) (image : ClusterImage) (old new : PassState (Entry ClusterMeta) (Birth D)) : Type 0 where
      pub written : WrittenChunk ClusterMeta
      pub meta : written.meta ≡ image.meta
      pub len : written.len ≡ image.meta.len
      pub bytes : written.bytes ≡ bytes_where_told (state committer.birth.begun).held
          (Some (blob_key (length image.bytes - key_room) written.start ++ drop key_room image.bytes))
      pub gains : Gains (entries_of_chunk staged old.number written) old new
