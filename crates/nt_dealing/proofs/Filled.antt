-- What stood on a disk before a history stays.
use Rattle.std.proofs.Common.{◌≡◌, subst, ℕ, List, [], ◌++◌, length, take, Some}
use Rattle.nt_lists.specs.Parts.{Part}
use Rattle.nt_outside.specs.Held.{Held, BecomesSome}
use Rattle.nt_outside.specs.Log.{Step}
use Rattle.nt_outside.specs.Reads.{Reads, IsKnown}
use Rattle.nt_outside.specs.Disk.{DiskState}
use Rattle.nt_machine.specs.declared.entry.Entry.{Entry}
use Rattle.nt_book.specs.declared.meta.ClusterMeta.{ClusterMeta}
use Rattle.nt_book.specs.Books.{BookData}
use Rattle.nt_logged.specs.Tails.{IsTail}
use Rattle.nt_commit.specs.declared.locked.Birth.{Birth}
use Rattle.nt_commit.specs.Locked.{GainsLists, IsInStep, history_of_locked, locked_by}
use Rattle.nt_dealing.specs.Dealt.{FillsBehind}

-- what was known before the steps of a writer stays
abbrev pub FrontsStand : Type 0
FrontsStand = (log steps : List Step) (front image : List ℕ) → IsKnown log front → IsTail (length front) [] steps
    → Reads (log ++ steps) image → take (length front) image ≡ front

module _ {D : Type 0} (state : D → DiskState)
    (told : (d : D) (h : Held) → (state d).held ≡ Some h → ((state d).end ≡ length h.image) × Reads h.log h.image)
    (stand : FrontsStand) where
  -- what a disk held where it was begun
  module _ (birth : Birth D) (h : Held) (is : (state birth.begun).held ≡ Some h) where
    -- what was known before a history stays
    pub front_stays : (end : ℕ) (history : List (Entry ClusterMeta)) (lists : List Part) (torn : List ℕ) (h' : Held)
        → GainsLists (state birth.begun).end end history lists torn h h' → Reads h'.log h'.image → IsKnown h.log h.image
        → take (length h.image) h'.image ≡ h.image
    front_stays end history lists torn h' gains reads known =
        stand h.log gains.steps h.image h'.image known
        (subst (λ (n : ℕ). IsTail n [] gains.steps) (told birth.begun h is).0 gains.is_log.tail)
        (subst (λ (l : List Step). Reads l h'.image) gains.log reads)

  pub filled : (birth : Birth D) (disk : D) (book : BookData) → IsInStep state (locked_by birth disk book)
      → BecomesSome (state birth.begun).held (state disk).held (FillsBehind (state birth.begun).end)
  filled birth disk book step h is =
      let history : List (Entry ClusterMeta) = history_of_locked state (locked_by birth disk book) in
      let after = step.follows.log h is in (
        after.0,
        after.1,
        record {
          history = history;
          legal = step.follows.legal;
          end = (state disk).end;
          lists = step.lists;
          torn = step.torn;
          gains = after.2;
          front = front_stays birth h is (state disk).end history step.lists step.torn after.0 after.2 (told disk after.0 after.1).1;
        },
      )
