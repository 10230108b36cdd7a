-- What a pass that didn't publish may do in its hold of the turn.
use Rattle.std.proofs.Common.{◌≡◌, ◌∙◌, ap, sym, refl, subst, ℕ, true, List, ◌++◌}
use Rattle.std.specs.Prelude.{Result, Ok, Err}
use Rattle.std.specs.List.{AllByRecursion}
use Rattle.std.specs.declared.alloc.AllocError.{AllocError}
use Rattle.nt_turn.specs.Pass.{PassState, Took}
use Rattle.nt_outside.specs.Disk.{DiskState}
use Rattle.nt_machine.specs.Deal.{times}
use Rattle.nt_machine.specs.declared.entry.Entry.{Entry}
use Rattle.nt_machine.specs.History.{Cluster, own_of, publishers_of, ranges_of}
use Rattle.nt_machine.specs.Legal.{IsFilledRange}
use Rattle.nt_book.specs.declared.meta.ClusterMeta.{ClusterMeta}
use Rattle.nt_commit.specs.declared.locked.Birth.{Birth}
use Rattle.nt_commit.specs.Holds.{HasNotPublished, HistoryGrows, MayReserveIn, Publishes, publish_adds}
use Rattle.nt_commit.specs.Locked.{LockedState, birth_of, context_of, history_of_locked}
use Rattle.nt_commit.proofs.Publishing.{own-ranges, unpublished}

-- what a context adds that publishes is its own
pub own_publish : (i : ℕ) (ranges : List (Cluster ClusterMeta)) (result : Result Unit AllocError)
    → AllByRecursion (λ (e : Entry ClusterMeta). e.context ≡ i) (publish_adds i ranges result)
own_publish i ranges (Ok done) = (refl, tt)
own_publish i ranges (Err e) = tt

module _ {D : Type 0} (state : D → DiskState) (old : PassState (Entry ClusterMeta) (Birth D)) (taken : LockedState D)
    (took : Took (history_of_locked state) birth_of context_of old taken) where
  abbrev history : List (Entry ClusterMeta)
  history = history_of_locked state taken

  -- its own ranges are those of the history
  own_taken : own_of (ranges_of history) old.number ≡ ranges_of old.own
  own_taken = own-ranges old.own history old.number took.own

  module _ (context : ℕ) (is : context ≡ old.number) where
    -- it didn't publish in the history
    pub unpublished_taken : HasNotPublished old → times context (publishers_of history) ≡ 0
    unpublished_taken before =
        subst (λ (n : ℕ). times n (publishers_of history) ≡ 0) (sym is) (unpublished old.own history old.number took.own before)

    -- and so it may reserve
    pub may_reserve : (birth : Birth D) → taken.birth ≡ birth → (birth.staged ≡ true → HasNotPublished old)
        → MayReserveIn state taken context
    may_reserve birth same before = λ staged.
        unpublished_taken (before (sym (ap (λ (b : Birth D). b.staged) same) ∙ staged))

    -- its ranges are filled in the history
    pub filled_taken : AllByRecursion IsFilledRange (ranges_of old.own) → AllByRecursion IsFilledRange (own_of (ranges_of history) context)
    filled_taken filled =
        subst (λ (n : ℕ). AllByRecursion IsFilledRange (own_of (ranges_of history) n)) (sym is)
        (subst (λ (l : List (Cluster ClusterMeta)). AllByRecursion IsFilledRange l) (sym own_taken) filled)

    -- the entry that publishes them, by the pass
    pub publishes_by : (given : LockedState D) (result : Result Unit AllocError) → Publishes state context taken given result
        → HistoryGrows state taken given (publish_adds old.number (ranges_of old.own) result)
    publishes_by given result publishes =
        publishes.grows ∙ (ap (λ (i : ℕ). history ++ publish_adds i (own_of (ranges_of history) i) result) is
        ∙ ap (λ (l : List (Cluster ClusterMeta)). history ++ publish_adds old.number l result) own_taken)
