-- All contexts were joined: what the first pass keeps of them, and what is known by the answer.
use Rattle.std.proofs.Common.{◌≡◌, ◌⊎◌, inl, inr, ℕ, ◌≤◌, List, [], ◌++◌, length, take, map, refl, sym, ap, ◌∙◌, subst, arith, Option, Some}
use Rattle.std.proofs.Common.{Result, Ok, Err}
use Rattle.std.proofs.lemmas.List.{length-map}
use Rattle.std.specs.Prelude.{slice_get}
use Rattle.std.specs.List.{AllByRecursion}
use Rattle.nt_types.specs.ShapeData.{MemberData}
use Rattle.nt_types.specs.TreeData.{TreesData}
use Rattle.nt_grammar.specs.Table.{Table}
use Rattle.nt_outside.specs.Disk.{DiskState}
use Rattle.nt_outside.specs.Source.{SourceState}
use Rattle.nt_outside.specs.declared.fault.Refused.{Refused}
use Rattle.nt_outside.specs.declared.fault.Refused.TheVariants as refused
use Rattle.nt_turn.specs.Pass.{TurnState, AllJoined}
use Rattle.nt_machine.specs.declared.entry.Entry.{Entry}
use Rattle.nt_machine.specs.History.{IsIdle, ranges_of}
use Rattle.nt_book.specs.declared.meta.ClusterMeta.{ClusterMeta}
use Rattle.nt_book.specs.declared.params.Params.{Params}
use Rattle.nt_commit.specs.declared.locked.Birth.{Birth}
use Rattle.nt_commit.specs.Holds.{HasNoneOut, AreAllIn}
use Rattle.nt_dealing.specs.Texts.{text_chunks, chunks_of}
use Rattle.nt_dealing.specs.Failing.{whole_chunks, committed_chunks}
use Rattle.nt_dealing.specs.Written.{AllWroteFrom, AllCommittedFrom, HaveWritten, HaveCommitted}
use Rattle.nt_contexts.specs.declared.seats.Seat.{Seat}
use Rattle.nt_contexts.specs.Filling.{HaveFaults}
use Rattle.nt_contexts.specs.Seats.{DiskPass}
use Rattle.nt_contexts.specs.declared.error.RunError.{RunError}
use Rattle.nt_contexts.specs.declared.error.RunError.TheVariants.{Outside, Memory, Line, Limit}
use Rattle.nt_contexts.specs.Contexts.{TellTexts, SomeRose, AreLater}
use Rattle.nt_contexts.specs.Answers.{refusal_told, answer_from}
use Rattle.nt_contexts.specs.Seating.{kept_by, all_kept, seat_sources, HasBeenSeen, IsLettingIn, HasLetIn, LeaveAll, TurnsBack, AreNewSeats}
use Rattle.nt_contexts.specs.Working.{KeepsFaults, CommittedBefore, StopsAtLine, WorkTold, HasWorked, HaveRun}
use Rattle.nt_contexts.specs.Working.KeepsFaults.{of_first, of_kept}
use Rattle.nt_contexts.proofs.Opens.{same-later}
use Rattle.nt_contexts.proofs.LettingIn.{let-in-so-far}
use Rattle.nt_contexts.proofs.Kept.{Kept, AreNumbered, Before, numbered-joined, SomeFaulty}
use Rattle.nt_contexts.proofs.Ran.{run-numbered, run-none_out, run-later, run-count, run-blamed, run-wrote, run-committed}
use Rattle.nt_contexts.proofs.RanTexts.{run-sound, run-bad, run-passes}
use Rattle.nt_contexts.proofs.NewSeats.{new-numbered, new-none_out, new-later}

module _ {D : Type 0} (committer : TurnState (Birth D)) where
  -- a first pass that gained these lists
  abbrev gained : DiskPass D → List (Entry ClusterMeta) → Kept → DiskPass D
  gained old seen kept = record old { seen = seen; kept = kept }

  -- the first pass after contexts were joined to one that kept none
  joined-as : (n : ℕ) (old new : DiskPass D) (kept : Kept) → HasLetIn committer n old
      → new ≡ record old { seen = new.seen; kept = old.kept ++ kept } → new ≡ gained old new.seen kept
  joined-as n old new kept let_in now =
      now ∙ ap (λ (l : Kept). gained old new.seen (l ++ kept)) let_in.kept

  all-joined : (n : ℕ) (old new : DiskPass D) (kept : Kept) → HasLetIn committer n old → new ≡ gained old new.seen kept
      → n ≡ length kept → AreNumbered 0 kept → AllJoined new
  all-joined n old new kept let_in now long numbered k less none =
      let splits : new.splits ≡ length kept = ap (λ (f : DiskPass D). f.splits) now ∙ (let_in.splits ∙ long) in
      let none_kept = subst (λ (l : Kept). AllByRecursion (λ (x : ℕ × List (Entry ClusterMeta)). x.0 ≡ k
      → ⊥) l) (ap (λ (f : DiskPass D). f.kept) now) none in
      numbered-joined 0 kept k numbered (omega (arith, less, splits))
      (subst (λ (m : ℕ). AllByRecursion (λ (x : ℕ × List (Entry ClusterMeta)). x.0 ≡ m → ⊥) kept) (omega arith) none_kept)

  all-in : (n : ℕ) (old new : DiskPass D) (kept : Kept) → HasLetIn committer n old → new ≡ gained old new.seen kept
      → AllByRecursion (λ (k : ℕ × List (Entry ClusterMeta)). HasNoneOut k.1) kept → AreAllIn new
  all-in n old new kept let_in now back = record {
    own = subst (λ (l : List (Entry ClusterMeta)). HasNoneOut l) (sym (ap (λ (f : DiskPass D). f.own) now)) let_in.none_out;
    kept = subst (λ (l : Kept). AllByRecursion (λ (k : ℕ × List (Entry ClusterMeta)). HasNoneOut k.1) l) (sym (ap (λ (f : DiskPass D).
        f.kept) now)) back;
  }

module _ {D S P : Type 0} (state : D → DiskState) (fields : List MemberData) (t : Table) (p : Params) (committer : TurnState (Birth D))
    (source : S → SourceState) where
  module _ (states : List SourceState) (seats : List (Seat S (DiskPass D) P)) (old new : DiskPass D) (n : ℕ)
      (letting : IsLettingIn committer n old)
      (now : new ≡ record old { seen = new.seen; kept = all_kept seats }) (run : HaveRun state fields t p committer source 0 states seats)
      (few : length seats ≤ committer.birth.contexts) where
    number-is : new.number ≡ committer.birth.contexts
    number-is = ap (λ (f : DiskPass D). f.number) now ∙ (letting.of.first ∙ letting.of.of.seats)

    unused : new.own ≡ []
    unused = ap (λ (f : DiskPass D). f.own) now ∙ letting.unused

    -- the first pass keeps what each context wrote
    have-written : (chunks : List (List (List TreesData))) → length chunks ≡ length seats
        → AllWroteFrom (state committer.birth.begun).held t p.page p.staged 0 chunks (all_kept seats)
        → HaveWritten (state committer.birth.begun).held t p.page p.staged chunks new.number new.own new.kept
    have-written chunks long each = record {
      behind = omega (arith, number-is, few, long);
      unused = unused;
      each = subst (λ (l : Kept). AllWroteFrom (state committer.birth.begun).held t p.page p.staged 0 chunks l)
          (sym (ap (λ (f : DiskPass D). f.kept) now)) each;
    }

    have-committed : (chunks : List (List (List TreesData))) → length chunks ≡ length seats
        → AllCommittedFrom t p.page 0 chunks (all_kept seats) → HaveCommitted t p.page chunks new.number new.own new.kept
    have-committed chunks long each = record {
      behind = omega (arith, number-is, few, long);
      idle = subst (λ (l : List (Entry ClusterMeta)). IsIdle l) (sym unused) tt;
      each = subst (λ (l : Kept). AllCommittedFrom t p.page 0 chunks l) (sym (ap (λ (f : DiskPass D). f.kept) now)) each;
    }

    texts-long : (texts : List (List ℕ)) → TellTexts states texts → length (chunks_of p.cluster fields texts) ≡ length seats
    texts-long texts tell =
        length-map texts (text_chunks p.cluster fields) ∙ (sym (length-map texts (λ (text : List ℕ). Some text))
        ∙ (sym (ap (λ (l : List (Option (List ℕ))). length l) tell)
        ∙ (length-map states (λ (s : SourceState). s.left) ∙ run-count state fields t p committer source 0 states seats run)))

    faults-kept : SomeFaulty (all_kept seats) → KeepsFaults new
    faults-kept f = of_kept f.place f.k (ap (λ (l : Kept). slice_get l f.place) (ap (λ (f : DiskPass D). f.kept) now) ∙ f.at) f.faults

    blames : SomeRose states (map source (seat_sources seats)) ⊎ SomeFaulty (all_kept seats)
        → SomeRose states (map source (seat_sources seats)) ⊎ KeepsFaults new
    blames (inl rose) = inl rose
    blames (inr f) = inr (faults-kept f)

    -- what contexts committed before a place
    before : (texts : List (List ℕ)) → TellTexts states texts → (place : ℕ) (own : List (List TreesData))
        → Before (chunks_of p.cluster fields texts) (all_kept seats) place own
        → CommittedBefore state fields t p committer texts new place own
    before texts tell place own b = record {
      have = have-committed (chunks_of p.cluster fields texts) (texts-long texts tell)
          (run-committed state fields t p committer source 0 states seats texts run tell);
      others = b.others;
      are = ap (λ (l : Kept). committed_chunks (chunks_of p.cluster fields texts) l) (ap (λ (f : DiskPass D). f.kept) now) ∙ b.are;
    }

    work-told : (texts : List (List ℕ)) → TellTexts states texts → AllByRecursion (HasBeenSeen new.seen) seats
        → (answer : Result Unit RunError)
        → answer_from p.limits.clusters 0 seats ≡ answer → WorkTold state fields t p committer texts new answer
    work-told texts tell saw (Ok done) is =
        let sound = run-sound state fields t p committer source p.limits.clusters 0 states seats texts run tell is in (
          sound.0,
          have-written (chunks_of p.cluster fields texts) (texts-long texts tell) sound.1,
          before texts tell (length texts) []
              sound.2,
        )
    work-told texts tell saw (Err (Line input line kind)) is =
        let b = run-bad state fields t p committer source p.limits.clusters 0 states seats texts input line kind run tell is in
        subst (λ (i : ℕ). StopsAtLine state fields t p committer texts new i line kind) (sym (b.number ∙ omega arith))
        (record {
          bad = b.bad;
          before = before texts tell b.place (whole_chunks p.cluster (text_chunks p.cluster fields b.bad.text)) b.before;
        })
    work-told texts tell saw (Err (Limit reached most)) is =
        let b = run-passes state fields t p committer source p.limits.clusters 0 states seats texts new.seen reached most run tell saw is in
        record {
          error = b.error;
          names = b.names;
          place = b.place;
          text = b.text;
          text_is = b.text_is;
          lower = b.lower;
          own = b.own;
          seen = b.mine;
          at = ap (λ (l : Kept). slice_get l b.place) (ap (λ (f : DiskPass D). f.kept) now) ∙ (b.at
              ∙ ap (λ (i : ℕ). Some (i, b.own)) (omega arith));
          begins = b.begins;
          passes = b.passes;
          is_written = b.is_written;
          before = before texts tell b.place (take (length (ranges_of b.own)) (text_chunks p.cluster fields b.text)) b.before;
        }
    work-told texts tell saw (Err Outside) is = tt
    work-told texts tell saw (Err Memory) is = tt

  -- all ran and left
  pub worked : (n : ℕ) (states : List SourceState) (seats : List (Seat S (DiskPass D) P)) (old new : DiskPass D) (back back' : List S)
      (answer : Result Unit RunError)
      → IsLettingIn committer n old → n ≡ length seats → length seats ≤ committer.birth.contexts
      → HaveRun state fields t p committer source 0 states seats
      → LeaveAll committer p.limits.clusters seats old new back back' answer → back ≡ []
      → HasWorked state fields t p committer states (map source back') new answer
  worked n states seats old new back back' answer letting long few run left empty =
      let let_in : HasLetIn committer n old = let-in-so-far committer n old letting in
      let now : new ≡ record old { seen = new.seen; kept = all_kept seats } = joined-as committer n old new (all_kept seats) let_in
      left.now in
      let count : n ≡ length (all_kept seats) = long ∙ sym (length-map seats (λ (seat : Seat S (DiskPass D) P). kept_by seat.pass)) in
      let sources : back' ≡ seat_sources seats = left.sources ∙ ap (λ (l : List S). l ++ seat_sources seats) empty in
      record {
        of = left.of;
        all_left = record {
          joined = all-joined committer n old new (all_kept seats) let_in now count (run-numbered state fields t p committer source 0
              states seats run);
          none_out = all-in committer n old new (all_kept seats) let_in now (run-none_out state fields t p committer source 0 states
              seats run);
        };
        later = subst (λ (l : List S). AreLater states (map source l)) (sym sources) (run-later state fields t p committer source 0
            states seats run);
        blamed = λ is.
            subst (λ (l : List S). SomeRose states (map source l) ⊎ KeepsFaults new) (sym sources)
            (blames states seats old new n letting now run few
            (run-blamed state fields t p committer source p.limits.clusters 0 states seats run (sym left.answer ∙ is)));
        wrote = λ is.
            let w = run-wrote state fields t p committer source p.limits.clusters 0 states seats run (sym left.answer ∙ is) in
            (w.0, have-written states seats old new n letting now run few w.0 w.2 w.1);
        told = λ texts tell. work-told states seats old new n letting now run few texts tell left.told answer (sym left.answer);
      }

  -- some were let in and left again, and then the answer is why the next wasn't
  pub turned-back : (n : ℕ) (states others : List SourceState) (seats : List (Seat S (DiskPass D) P)) (rest back : List S) (old new :
      DiskPass D) (why : Refused)
      → HasLetIn committer n old → n ≡ length seats → AreNewSeats committer source 0 states seats → AreLater others (map source rest)
      → TurnsBack committer seats old new rest back
      → (why ≡ refused.Failed → HaveFaults old.own) → HasWorked state fields t p committer (states ++ others) (map source back) new (Err
      (refusal_told why))
  turned-back n states others seats rest back old new why let_in long fresh after turns faults =
      let now : new ≡ record old { seen = new.seen; kept = all_kept seats } = joined-as committer n old new (all_kept seats) let_in
      turns.now in
      let count : n ≡ length (all_kept seats) = long ∙ sym (length-map seats (λ (seat : Seat S (DiskPass D) P). kept_by seat.pass)) in
      let own : new.own ≡ old.own = ap (λ (f : DiskPass D). f.own) now in
      record {
        of = turns.of;
        all_left = record {
          joined = all-joined committer n old new (all_kept seats) let_in now count (new-numbered committer source 0 states seats fresh);
          none_out = all-in committer n old new (all_kept seats) let_in now (new-none_out committer source 0 states seats fresh);
        };
        later = subst (λ (l : List S). AreLater (states ++ others) (map source l)) (sym turns.sources) (new-later committer source 0
            states others seats rest fresh after);
        blamed = λ is.
            let outside : refusal_told why ≡ Outside = cc in
            inr (of_first (subst (λ (l : List (Entry ClusterMeta)). HaveFaults l) (sym own) (faults (failed why outside))));
        wrote = λ is. cc;
        told = λ texts tell. nothing texts why;
      }
    where
      failed : (r : Refused) → refusal_told r ≡ Outside → r ≡ refused.Failed
      failed refused.Memory is = cc
      failed refused.Failed is = refl

      nothing : (texts : List (List ℕ)) (r : Refused) → WorkTold state fields t p committer texts new (Err (refusal_told r))
      nothing texts refused.Memory = tt
      nothing texts refused.Failed = tt

module _ {D : Type 0} (state : D → DiskState) (fields : List MemberData) (t : Table) (p : Params) (committer : TurnState (Birth D)) where
  -- no context was let in, for want of memory
  pub idle-worked : (states : List SourceState) (first : DiskPass D) → IsLettingIn committer 0 first
      → HasWorked state fields t p committer states states first (Err Memory)
  idle-worked states first h = record {
    of = h.of;
    all_left = record {
      joined = λ n less none. omega (arith, less, h.splits);
      none_out = record {
        own = subst (λ (l : List (Entry ClusterMeta)). HasNoneOut l) (sym h.unused) tt;
        kept = subst (λ (l : Kept). AllByRecursion (λ (k : ℕ × List (Entry ClusterMeta)). HasNoneOut k.1) l) (sym h.kept) tt;
      };
    };
    later = same-later states;
    blamed = λ is. cc;
    wrote = λ is. cc;
    told = λ texts tell. tt;
  }
