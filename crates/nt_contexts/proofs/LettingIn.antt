-- Passes are split off for contexts, which are let in one after the other.
use Rattle.std.proofs.Common.{◌≡◌, ℕ, ◌+◌, ◌<◌, List, [], ◌∷◌, ◌++◌, refl, sym, ap, ◌∙◌, subst}
use Rattle.std.proofs.Common.{append-nil, arith, Err}
use Rattle.nt_turn.specs.Pass.{TurnState, next_pass}
use Rattle.nt_outside.specs.Disk.{DiskState}
use Rattle.nt_outside.specs.Range.{PenState}
use Rattle.nt_outside.specs.declared.fault.Refused.{Refused}
use Rattle.nt_outside.specs.declared.fault.Refused.TheVariants as refused
use Rattle.nt_machine.specs.declared.entry.Entry.{Entry}
use Rattle.nt_machine.specs.History.{IsIdle}
use Rattle.nt_book.specs.declared.meta.ClusterMeta.{ClusterMeta}
use Rattle.nt_book.specs.Entries.{faulted_entry}
use Rattle.nt_commit.specs.declared.locked.Birth.{Birth}
use Rattle.nt_commit.specs.Claims.{PenAdds}
use Rattle.nt_commit.specs.Holds.{IsPassOf, HasNoneOut, RefusesPen, EntersAfter}
use Rattle.nt_contexts.specs.Filling.{HaveFaults}
use Rattle.nt_contexts.specs.Seats.{DiskPass}
use Rattle.nt_contexts.specs.Seating.{IsLettingIn, HasLetIn, RefusesSeat}

module _ {D : Type 0} (committer : TurnState (Birth D)) where
  -- a pass with more seen, other entries and other numbers of passes that were split off
  same-pass : (old : DiskPass D) (seen own : List (Entry ClusterMeta)) (splits : ℕ) → IsPassOf committer old
      → IsPassOf committer (record old { seen = seen; own = own; splits = splits })
  same-pass old seen own splits is = record { turn = is.turn; free = is.free; birth = is.birth; number = is.number; seats = is.seats }

  -- one more was let in
  let-in : (n splits : ℕ) (old : DiskPass D) (seen : List (Entry ClusterMeta)) → IsLettingIn committer n old → splits ≡ n + 1
      → IsLettingIn committer (n + 1) (record old { seen = seen; own = old.own ++ []; splits = splits })
  let-in n splits old seen h is = record {
    of = record { of = same-pass old seen (old.own ++ []) splits h.of.of; first = h.of.first };
    splits = is;
    kept = h.kept;
    unused = append-nil old.own ∙ h.unused;
  }

  -- nothing was done with the first pass but letting contexts in
  pub let-in-so-far : (n : ℕ) (first : DiskPass D) → IsLettingIn committer n first → HasLetIn committer n first
  let-in-so-far n first h = record {
    of = h.of;
    splits = h.splits;
    kept = h.kept;
    idle = subst (λ (l : List (Entry ClusterMeta)). IsIdle l) (sym h.unused) tt;
    none_out = subst (λ (l : List (Entry ClusterMeta)). HasNoneOut l) (sym h.unused) tt;
  }

  -- memory was wanting for a seat
  pub no-memory : (n : ℕ) (first : DiskPass D) → IsLettingIn committer n first → RefusesSeat committer n first refused.Memory
  no-memory n first h = record { let_in = let-in-so-far n first h; blamed = λ e. cc }

  faulted : (n context faults : ℕ) (old : DiskPass D) (seen own : List (Entry ClusterMeta)) → IsLettingIn committer n old
      → own ≡ faulted_entry context faults ∷ []
      → RefusesSeat committer n (record old { seen = seen; own = own }) refused.Failed
  faulted n context faults old seen own h is = record {
    let_in = record {
      of = record { of = same-pass old seen own old.splits h.of.of; first = h.of.first };
      splits = h.splits;
      kept = h.kept;
      idle = subst (λ (l : List (Entry ClusterMeta)). IsIdle l) (sym is) (tt, tt);
      none_out = subst (λ (l : List (Entry ClusterMeta)). HasNoneOut l) (sym is) tt;
    };
    blamed = λ e. subst (λ (l : List (Entry ClusterMeta)). HaveFaults l) (sym is) (record {
      place = 0;
      entry = faulted_entry context
          faults;
      at = refl;
      faults = tt;
    });
  }

  not-let-in : (n was is context : ℕ) (old : DiskPass D) (seen own added : List (Entry ClusterMeta)) (error : Refused)
      → IsLettingIn committer n old
      → own ≡ added → PenAdds {P = Unit {0}} was is context (Err error) added
      → RefusesSeat committer n (record old { seen = seen; own = own }) error
  not-let-in n was is context old seen own added refused.Memory h grown adds =
      no-memory n (record old { seen = seen; own = own }) (record {
        of = record { of = same-pass old seen own old.splits h.of.of; first = h.of.first };
        splits = h.splits;
        kept = h.kept;
        unused = grown ∙ adds;
      })
  not-let-in n was is context old seen own added refused.Failed h grown adds = faulted n context is old seen own h (grown ∙ adds.1)

  module _ (state : D → DiskState) where
    -- no pen was to be had
    pub refuses : (n : ℕ) (old new : DiskPass D) (error : Refused) → IsLettingIn committer n old → RefusesPen state committer old new error
        → RefusesSeat committer n new error
    refuses n old new error h r =
        subst (λ (f : DiskPass D). RefusesSeat committer n f error) (sym r.hold.now)
        (not-let-in n _ _ old.number old _ (old.own ++ r.opens.added) r.opens.added error h (ap (λ (l : List (Entry ClusterMeta)). l ++
        r.opens.added) h.unused) r.opens.adds)

    module _ {P : Type 0} (pen_state : P → PenState) where
      enters-as : (old new pass : DiskPass D) (pen : P) (e : EntersAfter state pen_state committer old new pass pen)
          → new ≡ record old { seen = e.held.seen; own = old.own ++ []; splits = old.splits + 1 }
      enters-as old new pass pen e =
          let held : e.held ≡ record old { seen = e.held.seen; own = old.own ++ [] } =
          e.opens.hold.now ∙ ap (λ (l : List (Entry ClusterMeta)). record old { seen = l; own = old.own ++ [] }) (sym (ap (λ (f :
          DiskPass D). f.seen) e.opens.hold.now)) in
          e.first ∙ ap (λ (f : DiskPass D). record f { splits = old.splits + 1 }) held

      -- a context entered
      pub enters : (n : ℕ) (old new pass : DiskPass D) (pen : P) → IsLettingIn committer n old
          → EntersAfter state pen_state committer old new pass pen
          → IsLettingIn committer (n + 1) new
      enters n old new pass pen h e =
          subst (λ (f : DiskPass D). IsLettingIn committer (n + 1) f) (sym (enters-as old new pass pen e))
          (let-in n (old.splits + 1) old e.held.seen h (ap (λ (m : ℕ). m + 1) h.splits))

      -- its pass is one of the committer, with the next number
      pub entered : (n : ℕ) (old new pass : DiskPass D) (pen : P) → IsLettingIn committer n old → n < committer.birth.contexts
          → EntersAfter state pen_state committer old new pass pen → IsPassOf committer pass × (pass.own ≡ []) × (pass.number ≡ n)
      entered n old new pass pen h room e =
          let same = e.opens.hold.now in
          let splits : e.held.splits ≡ n = ap (λ (f : DiskPass D). f.splits) same ∙ h.splits in
          let of : IsPassOf committer (next_pass e.held) = record {
            turn = ap (λ (f : DiskPass D). f.turn) same ∙ h.of.of.turn;
            free = refl;
            birth = ap (λ (f : DiskPass D). f.birth) same ∙ h.of.of.birth;
            number = omega (arith, splits, room);
            seats = h.of.of.seats;
          } in (
            subst (λ (f : DiskPass D). IsPassOf committer f) (sym e.pass_is) of,
            ap (λ (f : DiskPass D). f.own) e.pass_is,
            ap (λ (f : DiskPass D). f.number) e.pass_is ∙ splits,
          )
