-- A pass once an image was written, or wasn't.
use Rattle.std.proofs.Common.{◌≡◌, refl, subst, Bool, false, [], Option, None}
use Rattle.std.proofs.lemmas.Bool.{false≢true}
use Rattle.std.specs.Prelude.{IsSome}
use Rattle.nt_turn.specs.Pass.{TurnState}
use Rattle.nt_outside.specs.Disk.{DiskState}
use Rattle.nt_machine.specs.declared.entry.EntryKind.TheVariants as entry
use Rattle.nt_machine.specs.History.{Fate, Settled, is_out}
use Rattle.nt_machine.specs.Legal.{IsFilledFate}
use Rattle.nt_book.specs.declared.meta.ClusterMeta.{ClusterMeta}
use Rattle.nt_book.specs.Entries.{spoiled_entry}
use Rattle.nt_pages.specs.declared.image.ClusterImage.{ClusterImage}
use Rattle.nt_commit.specs.declared.locked.Birth.{Birth}
use Rattle.nt_commit.specs.Holds.{IsPassOf, HasNoneOut}
use Rattle.nt_fill.specs.Passes.{AreAllFilled, Gains, LeavesPass, MeetsFault, SpoilsRange, WritesImage}
use Rattle.nt_fill.proofs.Ranges.{HoldsOfAll, settled_in}
use Rattle.nt_fill.proofs.Gains.{Pass, all_after, fault_in, kept_in, none_published, spoil_in, unpublished_after}
use Rattle.nt_fill.proofs.Passes.{pass_after}

module _ {D : Type 0} (state : D → DiskState) (committer : TurnState (Birth D)) (staged : Bool) (old new : Pass D)
    (of : IsPassOf committer old) (none : HasNoneOut old.own) where
  module _ {P : Type 0} (pen : Option P) (filled : AreAllFilled old pen) (alive : IsSome pen) where
    pub writes_leave : (image : ClusterImage) (pen' : Option P) → WritesImage state committer staged image old new
        → LeavesPass staged committer old new pen'
    writes_leave image pen' w =
        let n = w.written in
        let settled : (Q : Fate → Type 0) → Q (Settled n.bytes) → HoldsOfAll Q old.own → HoldsOfAll Q new.own =
        λ Q back all. all_after Q _ old new w.gains
        (settled_in Q staged old.own old.number n.number n.start n.len n.meta n.bytes back all) in
        record {
          of = pass_after state committer _ old new w.gains of;
          none_out = settled (λ (f : Fate). is_out f ≡ false) refl none;
          filled = λ there. settled IsFilledFate tt (filled alive);
          unpublished = unpublished_after staged _ old new w.gains (none_published staged old.number n.number n.start n.len n.meta
              (record { context = old.number; kind = entry.Settled n.number n.bytes }) refl);
        }

  pub spoils_leave : {P : Type 0} (meta : ClusterMeta) (pen' : Option P) → SpoilsRange staged meta old new → pen' ≡ None
      → LeavesPass staged committer old new pen'
  spoils_leave {P = P} meta pen' s gone = record {
    of = pass_after state committer _ old new s.gains of;
    none_out = spoil_in (λ (f : Fate). is_out f ≡ false) staged meta old new (λ n. refl) none s;
    filled = λ there. absurd (false≢true (subst (λ (p : Option P). IsSome p) gone there));
    unpublished = unpublished_after staged _ old new s.gains (none_published staged old.number s.cluster s.start meta.len meta
        (spoiled_entry old.number s.cluster s.faults) refl);
  }

  module _ {P : Type 0} (pen : Option P) (filled : AreAllFilled old pen) where
    pub keeps_leave : (pen' : Option P) → Gains [] old new → pen' ≡ pen → LeavesPass staged committer old new pen'
    keeps_leave pen' g same = record {
      of = pass_after state committer [] old new g of;
      none_out = kept_in (λ (f : Fate). is_out f ≡ false) old new none g;
      filled = λ there. kept_in IsFilledFate old new (filled (subst (λ (p : Option P). IsSome p) same there)) g;
      unpublished = unpublished_after staged [] old new g refl;
    }

    pub faults_leave : (pen' : Option P) → MeetsFault old new → pen' ≡ pen → LeavesPass staged committer old new pen'
    faults_leave pen' f same = record {
      of = pass_after state committer _ old new f.gains of;
      none_out = fault_in (λ (f : Fate). is_out f ≡ false) old new none f;
      filled = λ there. fault_in IsFilledFate old new (filled (subst (λ (p : Option P). IsSome p) same there)) f;
      unpublished = unpublished_after staged _ old new f.gains refl;
    }
