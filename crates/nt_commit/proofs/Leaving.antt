-- What a crash leaves of the disk of a committer that ends.
use Rattle.std.proofs.Common.{◌≡◌, sym, subst, ℕ, List, ◌++◌, length, Some}
use Rattle.nt_lists.specs.Parts.{Part}
use Rattle.nt_outside.specs.Log.{Step}
use Rattle.nt_outside.specs.Reads.{Reads}
use Rattle.nt_outside.specs.Held.{Held, BecomesSome}
use Rattle.nt_outside.specs.Disk.{DiskState}
use Rattle.nt_machine.specs.declared.entry.Entry.{Entry}
use Rattle.nt_machine.specs.Legal.{IsLegal}
use Rattle.nt_logged.specs.Logs.{IsLogOf}
use Rattle.nt_book.specs.declared.meta.ClusterMeta.{ClusterMeta}
use Rattle.nt_cuts.specs.Cuts.{LeavesUnfinished}
use Rattle.nt_cuts.specs.Shut.{StaysShut}
use Rattle.nt_commit.specs.Locked.{LockedState, IsInStep, history_of_locked}

-- the laws of crashes that are cited here
abbrev pub HistoriesShut : Type 0
HistoriesShut =
    (place end : ℕ) (history : List (Entry ClusterMeta)) (lists : List Part) (torn : List ℕ) (log steps : List Step) (image : List ℕ)
    → StaysShut log → Reads log image → place ≡ length image → IsLegal place history
    → IsLogOf place end history lists torn steps → StaysShut (log ++ steps)

abbrev pub ShutLeaves : Type 0
ShutLeaves = (log : List Step) → StaysShut log → LeavesUnfinished log

module _ {D : Type 0} (state : D → DiskState)
    (told : (d : D) (h : Held) → (state d).held ≡ Some h → ((state d).end ≡ length h.image) × Reads h.log h.image)
    (keep : HistoriesShut) (leaves : ShutLeaves) where
  pub crash-left : (locked : LockedState D) → IsInStep state locked
      → BecomesSome (state locked.birth.begun).held (state locked.disk).held (λ h h'. StaysShut h.log
      → StaysShut h'.log × LeavesUnfinished h'.log)
  crash-left locked step h was =
      let left = step.follows.log h was in
      let facts = told locked.birth.begun h was in (
        left.0,
        left.1,
        λ shut.
            let stays : StaysShut left.0.log =
            subst StaysShut (sym left.2.log)
            (keep (state locked.birth.begun).end (state locked.disk).end (history_of_locked state locked) step.lists step.torn h.log
            left.2.steps h.image
            shut facts.1 facts.0 step.follows.legal left.2.is_log) in
            (stays, leaves left.0.log stays),
      )
