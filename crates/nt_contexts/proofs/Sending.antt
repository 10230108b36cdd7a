-- That a context may go to another thread.
use denote.RattleType.{RattleType}
use denote.Ref.{NamedLft}
use denote.Struct.Declared.{shape, fields}
use denote.Param.Send.{IsSend, IsSync, AllSend, AllSync, sendable, recorded_send, recorded_sync, struct_send, struct_sync}
use Rattle.std.proofs.Crossing.{crosses}
use Rattle.nt_types.proofs.shape.Shape.TheLaws.TheKnot as shapes
use Rattle.nt_close.below.nt_plans.proofs.plan.Plan.TheLaws.TheKnot as plans
use Rattle.nt_outside.specs.declared.disk.Disk
use Rattle.nt_outside.specs.declared.range.Ext
use Rattle.nt_outside.specs.declared.range.Pen
use Rattle.nt_book.specs.contracts.meta.ClusterMeta as meta
use Rattle.nt_machine.specs.contracts.entry.Entry as entry
use Rattle.nt_turn.specs.contracts.pass.Pass as pass
use Rattle.nt_turn.proofs.pass.Pass.TheSendSync as passes
use Rattle.nt_commit.specs.contracts.locked.Locked as locked
use Rattle.nt_commit.specs.contracts.locked.Birth as birth
use Rattle.nt_commit.specs.contracts.locked.LockedLogged.TheImpl as logged
use Rattle.nt_commit.specs.contracts.committer.CommitterOf as committer
use Rattle.nt_commit.proofs.committer.CommitterOf.TheSendSync as committers
use Rattle.nt_contexts.specs.contracts.seats.Context as context
use Rattle.nt_contexts.specs.contracts.seats.Seat as seat
use Rattle.nt_contexts.proofs.seats.Seat.TheSendSync as seats
use Rattle.nt_contexts.specs.contracts.shared.Shared as shared

-- threads may share what contexts share if they may share its gate
shared-sync : (a : NamedLft) (G : RattleType) → IsSync G → IsSync (shared.the_row a G)
shared-sync a G gate =
    let each : AllSync (fields (shared.the_type a G)) = (
      search (crosses, sendable) depth 20,
      (
        search (crosses, shapes.crosses, plans.crosses, sendable) depth 60 fits 20000,
        (
          search (crosses, shapes.crosses, plans.crosses, sendable) depth 60 fits 20000,
          (
            search (crosses, sendable) depth 60 fits 20000,
            (search (crosses, sendable) depth 20, (search sendable depth 20, tt)),
          ),
        ),
      ),
    ) in
    recorded_sync (shared.the_field a G).row _ _ (shared.the_type a G).to_one (struct_sync (shape (shared.the_type a G)) each)

-- a context may go to another thread if its seat may, and if threads may share its committer and what contexts share
context-send : (a : NamedLft) (C T G : RattleType) → IsSync C → IsSend T → IsSync (shared.the_row a G)
    → IsSend (context.the_row a C T G)
context-send a C T G one sent all =
    let each : AllSend (fields (context.the_type a C T G)) = (search sendable, (sent, (search sendable, (search sendable, tt)))) in
    recorded_send (context.the_field a C T G).row _ _ (context.the_type a C T G).to_one
    (struct_send (shape (context.the_type a C T G)) each)

module _ (D E P : RattleType) (disk : Disk.Ghosts D.Denot E.Denot P.Denot) (ext : Ext.Ghosts E.Denot)
    (pen : Pen.Ghosts P.Denot E.Denot) where
  -- a locked disk may go to another thread if the disk, its extents and its pens may
  locked-send : IsSend D → IsSend E → IsSend P → IsSend (locked.the_row D E P disk ext pen)
  locked-send d e p = search (crosses, shapes.crosses, plans.crosses, sendable) depth 60 fits 20000

  -- the context of a seat over a disk may go to another thread if its parts may, and if threads may share the gate
  pub disk-context-send : (a : NamedLft) (S G : RattleType) → IsSend D → IsSend E → IsSend P → IsSend S → IsSync G
      → let V = locked.the_row D E P disk ext pen in let Y = entry.the_row meta.the_row in let B = birth.the_row D in
      let h = logged.ghosts D E P disk logged.no_dict ext logged.no_dict pen logged.no_dict in
      IsSend (context.the_row a (committer.the_row V Y B h) (seat.the_row S (pass.the_row V Y B h) P) G)
  disk-context-send a S G d e p s g =
      let V = locked.the_row D E P disk ext pen in let Y = entry.the_row meta.the_row in let B = birth.the_row D in
      let h = logged.ghosts D E P disk logged.no_dict ext logged.no_dict pen logged.no_dict in
      let there = locked-send d e p in
      context-send a (committer.the_row V Y B h) (seat.the_row S (pass.the_row V Y B h) P) G (committers.the_sync V Y B h there)
      (seats.the_send S (pass.the_row V Y B h) P s (passes.the_send V Y B h there) p) (shared-sync a G g)
