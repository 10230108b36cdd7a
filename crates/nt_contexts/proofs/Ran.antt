-- What contexts leave once they ran: seat by seat, and all together.
use Rattle.std.proofs.Common.{◌≡◌, ◌⊎◌, inl, inr, ℕ, suc, ◌+◌, ◌<◌, ◌≤◌, List, [], ◌∷◌, length, map}
use Rattle.std.proofs.Common.{Option, Some, refl}
use Rattle.std.proofs.Common.{sym, ap, ◌∙◌, subst, arith, Result, Ok, Err}
use Rattle.std.specs.Prelude.{slice_index_or}
use Rattle.std.specs.List.{AllByRecursion}
use Rattle.nt_types.specs.ShapeData.{MemberData}
use Rattle.nt_types.specs.TreeData.{TreesData}
use Rattle.nt_grammar.specs.Table.{Table}
use Rattle.nt_outside.specs.Disk.{DiskState}
use Rattle.nt_outside.specs.Faults.{Rose}
use Rattle.nt_outside.specs.Source.{SourceState}
use Rattle.nt_turn.specs.Pass.{TurnState}
use Rattle.nt_machine.specs.declared.entry.Entry.{Entry}
use Rattle.nt_book.specs.declared.limits.LimitError.{LimitError}
use Rattle.nt_book.specs.declared.limits.LimitError.TheVariants as limit
use Rattle.nt_book.specs.declared.meta.ClusterMeta.{ClusterMeta}
use Rattle.nt_book.specs.declared.params.Params.{Params}
use Rattle.nt_commit.specs.declared.locked.Birth.{Birth}
use Rattle.nt_commit.specs.Holds.{HasNoneOut}
use Rattle.nt_event.specs.Lines.{LinesState}
use Rattle.nt_dealing.specs.Texts.{text_chunks, chunks_of}
use Rattle.nt_dealing.specs.Written.{WroteAllChunks, CommittedFirst, AllWroteFrom, AllCommittedFrom}
use Rattle.nt_contexts.specs.declared.error.ContextError.{ContextError}
use Rattle.nt_contexts.specs.declared.error.ContextError.TheVariants as context
use Rattle.nt_contexts.specs.declared.seats.Seat.{Seat}
use Rattle.nt_contexts.specs.Reading.{left_of}
use Rattle.nt_contexts.specs.Filling.{HaveFaults}
use Rattle.nt_contexts.specs.Seats.{DiskPass, Ran}
use Rattle.nt_contexts.specs.declared.error.RunError.TheVariants.{Outside}
use Rattle.nt_contexts.specs.Contexts.{TellTexts, SomeRose, AreLater}
use Rattle.nt_contexts.specs.Answers.{limit_told, answer_of, answer_from}
use Rattle.nt_contexts.specs.Seating.{kept_by, all_kept, seat_sources, CanLeave, IsNewSeat, AreNewSeats}
use Rattle.nt_contexts.specs.Working.{HasRun, HaveRun}
use Rattle.nt_contexts.proofs.Kept.{AreNumbered, SomeFaulty}

not-outside : (clusters : ℕ) (error : LimitError) → limit_told clusters error ≡ Outside → ⊥
not-outside clusters (limit.RangeTooLarge len most) e = cc
not-outside clusters (limit.FileTooLarge end most) e = cc
not-outside clusters limit.TooManyClusters e = cc

module _ {D S P : Type 0} (state : D → DiskState) (fields : List MemberData) (t : Table) (p : Params) (committer : TurnState (Birth D))
    (source : S → SourceState) where
  abbrev pub IsRun : ℕ → SourceState → Seat S (DiskPass D) P → Type 0
  IsRun i s seat = HasRun state fields t p committer source i s seat

  abbrev pub AreRun : ℕ → List SourceState → List (Seat S (DiskPass D) P) → Type 0
  AreRun i states seats = HaveRun state fields t p committer source i states seats

  -- a fresh seat that ran
  ran-seat : (i : ℕ) (s : SourceState) (old new : Seat S (DiskPass D) P) → IsNewSeat committer source i s old
      → Ran state source fields t p committer old new → IsRun i s new
  ran-seat i s old new fresh ran =
      let same : ran.was ≡ fresh.fresh.pass = cc (ran.was_there, fresh.fresh.there) in
      let faults : (left_of source old.lines).faults ≡ s.faults = ap (λ (l : LinesState). l.faults) fresh.begun in
      let left : (left_of source old.lines).left ≡ s.left = ap (λ (l : LinesState). l.left) fresh.begun in
      record {
        pass = ran.pass;
        there = ran.there;
        of = ran.of;
        number_is = ran.number ∙ (ap (λ (f : DiskPass D). f.number) same ∙ fresh.number_is);
        none_out = ran.none_out;
        later = subst (λ (n : ℕ). n ≤ (source new.lines.source).faults) faults ran.later;
        blamed = λ e. subst (λ (n : ℕ). Rose n (source new.lines.source).faults ⊎ HaveFaults ran.pass.own) faults (ran.blamed e);
        wrote = ran.wrote;
        committed = λ text is. ran.committed text (left ∙ is);
        told = λ text is. ran.told text (left ∙ is);
      }

  pub ran-all : (i : ℕ) (states : List SourceState) (olds news : List (Seat S (DiskPass D) P))
      → AreNewSeats committer source i states olds → length news ≡ length olds
      → ((k : ℕ) (d : Seat S (DiskPass D) P) → k < length olds → Ran state source fields t p committer (slice_index_or olds k d)
      (slice_index_or news k d)) → AreRun i states news
  ran-all i [] [] [] fresh long ran = tt
  ran-all i [] [] (y ∷ ys) fresh long ran = absurd (omega arith)
  ran-all i [] (x ∷ xs) news fresh long ran = absurd fresh
  ran-all i (s ∷ states) [] news fresh long ran = absurd fresh
  ran-all i (s ∷ states) (x ∷ xs) [] fresh long ran = absurd (omega arith)
  ran-all i (s ∷ states) (x ∷ xs) (y ∷ ys) fresh long ran = (
    ran-seat i s x y fresh.0 (ran 0 x (omega arith)),
    ran-all (i + 1) states xs ys fresh.1 (omega arith) (λ k d less. ran (suc k) d
        (omega arith)),
  )

  -- each may leave
  pub ran-can-leave : (olds news : List (Seat S (DiskPass D) P)) → length news ≡ length olds
      → ((k : ℕ) (d : Seat S (DiskPass D) P) → k < length olds → Ran state source fields t p committer (slice_index_or olds k d)
      (slice_index_or news k d))
      → AllByRecursion (CanLeave committer) news
  ran-can-leave olds [] long ran = tt
  ran-can-leave [] (y ∷ ys) long ran = absurd (omega arith)
  ran-can-leave (x ∷ xs) (y ∷ ys) long ran =
      let r : Ran state source fields t p committer x y = ran 0 x (omega arith) in (
        record { pass = r.pass; there = r.there; of = r.of; none_out = r.none_out },
        ran-can-leave xs ys (omega arith) (λ k d less. ran
            (suc k) d (omega arith)),
      )

  pub kept-is : (i : ℕ) (s : SourceState) (seat : Seat S (DiskPass D) P) (r : IsRun i s seat) → kept_by seat.pass ≡ (i, r.pass.own)
  kept-is i s seat r = ap (λ (o : Option (DiskPass D)). kept_by o) r.there ∙ ap (λ (n : ℕ). (n, r.pass.own)) r.number_is

  pub run-numbered : (i : ℕ) (states : List SourceState) (seats : List (Seat S (DiskPass D) P)) → AreRun i states seats
      → AreNumbered i (all_kept seats)
  run-numbered i [] [] run = tt
  run-numbered i [] (x ∷ xs) run = absurd run
  run-numbered i (s ∷ states) [] run = absurd run
  run-numbered i (s ∷ states) (x ∷ xs) run = (
    ap (λ (k : ℕ × List (Entry ClusterMeta)). k.0) (kept-is i s x run.0),
    run-numbered (i + 1)
        states xs run.1,
  )

  pub run-none_out : (i : ℕ) (states : List SourceState) (seats : List (Seat S (DiskPass D) P)) → AreRun i states seats
      → AllByRecursion (λ (k : ℕ × List (Entry ClusterMeta)). HasNoneOut k.1) (all_kept seats)
  run-none_out i [] [] run = tt
  run-none_out i [] (x ∷ xs) run = absurd run
  run-none_out i (s ∷ states) [] run = absurd run
  run-none_out i (s ∷ states) (x ∷ xs) run = (
    subst (λ (k : ℕ × List (Entry ClusterMeta)). HasNoneOut k.1) (sym (kept-is i s x run.0)) run.0.none_out,
    run-none_out (i + 1)
        states xs run.1,
  )

  pub run-later : (i : ℕ) (states : List SourceState) (seats : List (Seat S (DiskPass D) P)) → AreRun i states seats
      → AreLater states (map source (seat_sources seats))
  run-later i [] [] run = tt
  run-later i [] (x ∷ xs) run = absurd run
  run-later i (s ∷ states) [] run = absurd run
  run-later i (s ∷ states) (x ∷ xs) run = (run.0.later, run-later (i + 1) states xs run.1)

  pub run-count : (i : ℕ) (states : List SourceState) (seats : List (Seat S (DiskPass D) P)) → AreRun i states seats
      → length states ≡ length seats
  run-count i [] [] run = refl
  run-count i [] (x ∷ xs) run = absurd run
  run-count i (s ∷ states) [] run = absurd run
  run-count i (s ∷ states) (x ∷ xs) run = omega (arith, run-count (i + 1) states xs run.1)

  -- the outside is blamed only where a source or an entry has faults
  pub run-blamed : (clusters i : ℕ) (states : List SourceState) (seats : List (Seat S (DiskPass D) P)) → AreRun i states seats
      → answer_from clusters i seats ≡ Err Outside → SomeRose states (map source (seat_sources seats)) ⊎ SomeFaulty (all_kept seats)
  run-blamed clusters i [] [] run is = cc
  run-blamed clusters i [] (x ∷ xs) run is = absurd run
  run-blamed clusters i (s ∷ states) [] run is = absurd run
  run-blamed clusters i (s ∷ states) (x ∷ xs) run is = by (run-blamed clusters (i + 1) states xs run.1) x.ended refl is
    where
      later : SomeRose states (map source (seat_sources xs)) ⊎ SomeFaulty (all_kept xs)
          → SomeRose (s ∷ states) (map source (seat_sources (x ∷ xs))) ⊎ SomeFaulty (all_kept (x ∷ xs))
      later (inl rose) = inl (inr rose)
      later (inr f) = inr (record { place = suc f.place; k = f.k; at = f.at; faults = f.faults })

      here : Rose s.faults (source x.lines.source).faults ⊎ HaveFaults run.0.pass.own
          → SomeRose (s ∷ states) (map source (seat_sources (x ∷ xs))) ⊎ SomeFaulty (all_kept (x ∷ xs))
      here (inl rose) = inl (inl rose)
      here (inr f) = inr (record {
        place = 0;
        k = (i, run.0.pass.own);
        at = ap (λ (k : ℕ
            × List (Entry ClusterMeta)). Some k) (kept-is i s x run.0);
        faults = f;
      })

      by : (answer_from clusters (i + 1) xs ≡ Err Outside → SomeRose states (map source (seat_sources xs)) ⊎ SomeFaulty (all_kept xs))
          → (e : Result Unit ContextError) → x.ended ≡ e → answer_of clusters i e (answer_from clusters (i + 1) xs) ≡ Err Outside
          → SomeRose (s ∷ states) (map source (seat_sources (x ∷ xs))) ⊎ SomeFaulty (all_kept (x ∷ xs))
      by more (Ok done) end is = later (more is)
      by more (Err (context.Text line kind)) end is = cc
      by more (Err (context.Limit error)) end is = absurd (not-outside clusters error (cc (is)))
      by more (Err context.Outside) end is = here (run.0.blamed end)
      by more (Err context.Memory) end is = cc

  -- where all ended well, each wrote whole chunks
  pub run-wrote : (clusters i : ℕ) (states : List SourceState) (seats : List (Seat S (DiskPass D) P)) → AreRun i states seats
      → answer_from clusters i seats ≡ Ok tt
      → (chunks : List (List (List TreesData)))
      × AllWroteFrom (state committer.birth.begun).held t p.page p.staged i chunks (all_kept seats) × (length chunks ≡ length seats)
  run-wrote clusters i [] [] run is = ([], tt, refl)
  run-wrote clusters i [] (x ∷ xs) run is = absurd run
  run-wrote clusters i (s ∷ states) [] run is = absurd run
  run-wrote clusters i (s ∷ states) (x ∷ xs) run is = by (run-wrote clusters (i + 1) states xs run.1) x.ended refl is
    where
      by : (answer_from clusters (i + 1) xs ≡ Ok tt → (chunks : List (List (List TreesData)))
          × AllWroteFrom (state committer.birth.begun).held t p.page p.staged (i + 1) chunks (all_kept xs) × (length chunks ≡ length xs))
          → (e : Result Unit ContextError) → x.ended ≡ e → answer_of clusters i e (answer_from clusters (i + 1) xs) ≡ Ok tt
          → (chunks : List (List (List TreesData)))
          × AllWroteFrom (state committer.birth.begun).held t p.page p.staged i chunks (all_kept (x ∷ xs))
          × (length chunks ≡ length (x ∷ xs))
      by more (Ok done) end is =
          let rest = more is in
          let mine = run.0.wrote end in
          let kept = kept-is i s x run.0 in
          let held = (state committer.birth.begun).held in
          let wrote : WroteAllChunks held t p.page p.staged i mine.0 (kept_by x.pass).1 =
          subst (λ (k : ℕ × List (Entry ClusterMeta)). WroteAllChunks held t p.page p.staged i mine.0 k.1) (sym kept)
          (subst (λ (n : ℕ). WroteAllChunks held t p.page p.staged n mine.0 run.0.pass.own) run.0.number_is mine.1) in
          (mine.0 ∷ rest.0, (ap (λ (k : ℕ × List (Entry ClusterMeta)). k.0) kept, wrote, rest.1), omega (arith, rest.2))
      by more (Err e) end is = cc

  -- each committed the first of the chunks of its text
  pub run-committed : (i : ℕ) (states : List SourceState) (seats : List (Seat S (DiskPass D) P)) (texts : List (List ℕ))
      → AreRun i states seats → TellTexts states texts
      → AllCommittedFrom t p.page i (chunks_of p.cluster fields texts) (all_kept seats)
  run-committed i [] [] [] run tell = tt
  run-committed i [] [] (text ∷ texts) run tell = cc
  run-committed i [] (x ∷ xs) texts run tell = absurd run
  run-committed i (s ∷ states) [] texts run tell = absurd run
  run-committed i (s ∷ states) (x ∷ xs) [] run tell = cc
  run-committed i (s ∷ states) (x ∷ xs) (text ∷ texts) run tell =
      let is : s.left ≡ Some text = cc in
      let rest : TellTexts states texts = cc in
      let kept = kept-is i s x run.0 in (
        ap (λ (k : ℕ × List (Entry ClusterMeta)). k.0) kept,
        subst (λ (k : ℕ × List (Entry ClusterMeta)). CommittedFirst t p.page (text_chunks p.cluster fields text) k.1) (sym kept)
            (run.0.committed text is),
        run-committed (i + 1) states xs texts run.1 rest,
      )
