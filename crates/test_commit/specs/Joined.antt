-- A first pass to which others are joined, none of whose ranges is out.
use Rattle.std.specs.Prelude.{◌≡◌, ℕ, ◌+◌, ◌≤◌, false, [], ◌∷◌, ◌++◌}
use Rattle.nt_turn.specs.Pass.{TurnState, PassState, JoinsSince}
use Rattle.nt_machine.specs.declared.entry.Entry.{Entry}
use Rattle.nt_book.specs.declared.meta.ClusterMeta.{ClusterMeta}
use Rattle.nt_commit.specs.declared.locked.Birth.{Birth}
use Rattle.nt_pages.specs.declared.image.ClusterImage.{ClusterImage}
use Rattle.nt_commit.specs.Images.{IsImageFor}
use Rattle.nt_commit.specs.Holds.{IsPassOf, IsFirstOf, HasNoneOut, AreAllIn}

-- a pass with its entries
abbrev pub Seat : Type 0 → Type 0
Seat D = PassState (Entry ClusterMeta) (Birth D)

-- so many contexts more may be let in, whose clusters have no column and aren't staged
pub record MayLetIn {D : Type 0} (committer : TurnState (Birth D)) (more : ℕ) (first : Seat D) : Type 0 where
  pub first_is : IsFirstOf committer first
  pub room : first.splits + more ≤ committer.birth.contexts
  pub columns : committer.birth.columns ≡ 0
  pub not_staged : committer.birth.staged ≡ false

-- each pass that was split off since is joined again, and if no range was out, none is
pub record HasAllBack {D : Type 0} (committer : TurnState (Birth D)) (old new : Seat D) : Type 0 where
  pub first : IsFirstOf committer new
  pub since : JoinsSince old new
  pub back : AreAllIn old → AreAllIn new

-- one more pass was split off, which has no entry
pub record IsEntered {D : Type 0} (committer : TurnState (Birth D)) (old new pass : Seat D) : Type 0 where
  pub first : IsFirstOf committer new
  pub of : IsPassOf committer pass
  pub number : pass.number ≡ old.splits
  pub own : pass.own ≡ []
  pub splits : new.splits ≡ old.splits + 1
  pub kept : new.kept ≡ old.kept
  pub back : AreAllIn old → AreAllIn new

-- a pass was joined
pub record HasLeft {D : Type 0} (committer : TurnState (Birth D)) (old pass new : Seat D) : Type 0 where
  pub first : IsFirstOf committer new
  pub splits : new.splits ≡ old.splits
  pub kept : new.kept ≡ old.kept ++ (pass.number, pass.own) ∷ []
  pub back : AreAllIn old → AreAllIn new

-- a context that hasn't begun: clusters aren't staged, no range of its pass is out, and its image is one of this committer
pub record IsReadyToWrite {D : Type 0} (committer : TurnState (Birth D)) (pass : Seat D) (image : ClusterImage) : Type 0 where
  pub of : IsPassOf committer pass
  pub not_staged : committer.birth.staged ≡ false
  pub back : HasNoneOut pass.own
  pub image_is : IsImageFor committer.birth.columns pass.number image

-- a context that is done: its number is the same, and no range of its pass is out
pub record HasNoRange {D : Type 0} (committer : TurnState (Birth D)) (number : ℕ) (pass : Seat D) : Type 0 where
  pub of : IsPassOf committer pass
  pub number_is : pass.number ≡ number
  pub back : HasNoneOut pass.own
