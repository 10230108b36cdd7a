-- A first pass, as contexts come and go.
use Rattle.std.proofs.Common.{◌≡◌, ◌∙◌, refl, ap, sym, subst, ℕ, ◌+◌, ◌<◌, List, [], ◌∷◌, ◌++◌, append-nil, Result, Ok, Err}
use Rattle.std.specs.List.{AllByRecursion}
use Rattle.nt_turn.specs.History.{HasNone}
use Rattle.nt_turn.specs.Pass.{TurnState, PassState, JoinsSince, first_pass, next_pass}
use Rattle.nt_turn.proofs.Joining.{joins_since, all_joined}
use Rattle.nt_machine.specs.declared.entry.Entry.{Entry}
use Rattle.nt_book.specs.declared.meta.ClusterMeta.{ClusterMeta}
use Rattle.nt_commit.specs.declared.locked.Birth.{Birth}
use Rattle.nt_commit.specs.Holds.{IsPassOf, IsFirstOf, HasNoneOut, AreAllIn, HaveAllLeft, AddsInHold, OpensInHold, RefusesPen}
use Rattle.nt_commit.specs.Holds.{EntersAfter, LeavesAfter}
use Rattle.test_commit.specs.Joined.{Seat, IsEntered, HasLeft, HasAllBack}

module _ {D : Type 0} (committer : TurnState (Birth D)) where
  abbrev Kept : Type 0
  Kept = List (ℕ × List (Entry ClusterMeta))

  -- the same pass, with more seen and other entries
  of-hold : (old : Seat D) (seen own : List (Entry ClusterMeta)) → IsPassOf committer old
      → IsPassOf committer (record old { seen = seen; own = own })
  of-hold old seen own is = record { turn = is.turn; free = is.free; birth = is.birth; number = is.number; seats = is.seats }

  -- nothing was split off or joined
  pub same-since : (old new : Seat D) → new.splits ≡ old.splits → new.kept ≡ old.kept → JoinsSince old new
  same-since old new splits kept =
      record { each = λ n less none. (subst (λ (m : ℕ). n < m) splits less, subst (λ (l : Kept). HasNone l n) kept none) }

  pub back-itself : (old : Seat D) → IsFirstOf committer old → HasAllBack committer old old
  back-itself old first = record { first = first; since = same-since old old refl refl; back = λ b. b }

  -- a context entered, others came and went, and it left
  pub back-around : (old mid between new pass done : Seat D) → IsEntered committer old mid pass → HasAllBack committer mid between
      → done.number ≡ pass.number
      → HasLeft committer between done new → HasAllBack committer old new
  back-around old mid between new pass done entered around number left =
      let since = joins_since (record mid { splits = old.splits }) mid between new done.number done.own
      (ap (λ (n : ℕ). record mid { splits = n }) entered.splits) around.since
      (number ∙ entered.number) left.splits left.kept in
      record {
        first = left.first;
        since = record {
          each = λ n less none. let e = since.each n less none in
              (e.0, subst (λ (l : Kept). HasNone l n) entered.kept e.1);
        };
        back = λ b. left.back (around.back (entered.back b));
      }

  -- a context entered and left
  pub back-alone : (old mid new pass done : Seat D) → IsEntered committer old mid pass → done.number ≡ pass.number
      → HasLeft committer mid done new → HasAllBack committer old new
  back-alone old mid new pass done entered number left =
      back-around old mid mid new pass done entered (back-itself mid entered.first) number left

  -- of a first pass that is as it began, but that contexts came and went, all have left
  pub all-left : (old new : Seat D) → old ≡ first_pass committer → HasAllBack committer old new → HaveAllLeft new
  all-left old new is back = record {
    joined = all_joined old new (ap (λ (p : Seat D). p.splits) is) back.since;
    none_out = back.back (subst (λ (p : Seat D). AreAllIn p) (sym is) (record { own = tt; kept = tt }));
  }
