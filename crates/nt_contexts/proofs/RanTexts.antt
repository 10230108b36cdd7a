-- What contexts made of their texts: all sound, or the first bad line, or a limit that is passed.
use Rattle.std.proofs.Common.{◌≡◌, ℕ, suc, ◌+◌, List, [], ◌∷◌, ◌++◌, length, take}
use Rattle.std.proofs.Common.{Some, refl}
use Rattle.std.proofs.Common.{sym, ap, ◌∙◌, subst, arith, Result, Ok, Err}
use Rattle.std.specs.List.{AllByRecursion}
use Rattle.nt_types.specs.ShapeData.{MemberData}
use Rattle.nt_types.specs.TreeData.{TreesData}
use Rattle.nt_grammar.specs.Table.{Table}
use Rattle.nt_outside.specs.Disk.{DiskState}
use Rattle.nt_outside.specs.Source.{SourceState}
use Rattle.nt_turn.specs.Pass.{TurnState}
use Rattle.nt_machine.specs.declared.entry.Entry.{Entry}
use Rattle.nt_machine.specs.History.{ranges_of}
use Rattle.nt_book.specs.declared.limits.LimitError.{LimitError}
use Rattle.nt_book.specs.declared.limits.LimitError.TheVariants as limit
use Rattle.nt_book.specs.declared.meta.ClusterMeta.{ClusterMeta}
use Rattle.nt_book.specs.declared.params.Params.{Params}
use Rattle.nt_commit.specs.declared.locked.Birth.{Birth}
use Rattle.nt_event.specs.declared.fault.TextKind.{TextKind}
use Rattle.nt_dealing.specs.Texts.{text_chunks, chunks_of, AreSound}
use Rattle.nt_dealing.specs.Failing.{whole_chunks, committed_chunks}
use Rattle.nt_dealing.specs.Written.{WroteAllChunks, AllWroteFrom}
use Rattle.nt_contexts.specs.declared.error.ContextError.{ContextError}
use Rattle.nt_contexts.specs.declared.error.ContextError.TheVariants as context
use Rattle.nt_contexts.specs.declared.seats.Seat.{Seat}
use Rattle.nt_contexts.specs.Seats.{DiskPass, EndsTold}
use Rattle.nt_contexts.specs.declared.error.RunError.TheVariants.{Line, Limit}
use Rattle.nt_contexts.specs.Contexts.{TellTexts}
use Rattle.nt_contexts.specs.Answers.{limit_told, answer_of, answer_from}
use Rattle.nt_contexts.specs.Seating.{kept_by, all_kept, HasBeenSeen}
use Rattle.nt_contexts.specs.Working.{HasRun, HaveRun}
use Rattle.nt_contexts.proofs.Kept.{BadFrom, Before, PassesFrom, before-more, lower-more}
use Rattle.nt_contexts.proofs.Ran.{kept-is}

not-line : (clusters input line : ℕ) (kind : TextKind) (error : LimitError) → limit_told clusters error ≡ Line input line kind → ⊥
not-line clusters input line kind (limit.RangeTooLarge len most) e = cc
not-line clusters input line kind (limit.FileTooLarge end most) e = cc
not-line clusters input line kind limit.TooManyClusters e = cc

module _ {D S P : Type 0} (state : D → DiskState) (fields : List MemberData) (t : Table) (p : Params) (committer : TurnState (Birth D))
    (source : S → SourceState) where
  -- a context that ended well committed all its chunks
  all-taken : (i : ℕ) (s : SourceState) (seat : Seat S (DiskPass D) P) (r : HasRun state fields t p committer source i s seat)
      (cs : List (List TreesData))
      → take (length (ranges_of r.pass.own)) cs ≡ cs → take (length (ranges_of (kept_by seat.pass).1)) cs ≡ cs
  all-taken i s seat r cs all =
      subst (λ (k : ℕ × List (Entry ClusterMeta)). take (length (ranges_of k.1)) cs ≡ cs)
      (sym (kept-is state fields t p committer source i s seat r)) all

  -- where all ended well, each text is sound and its chunks were written, and no others
  pub run-sound : (clusters i : ℕ) (states : List SourceState) (seats : List (Seat S (DiskPass D) P)) (texts : List (List ℕ))
      → HaveRun state fields t p committer source i states seats → TellTexts states texts
      → answer_from clusters i seats ≡ Ok tt
      → AreSound fields texts
      × AllWroteFrom (state committer.birth.begun).held t p.page p.staged i (chunks_of p.cluster fields texts) (all_kept seats)
      × Before (chunks_of p.cluster fields texts) (all_kept seats) (length texts) []
  run-sound clusters i [] [] [] run tell is = (tt, tt, record { others = []; are = refl })
  run-sound clusters i [] [] (text ∷ texts) run tell is = cc
  run-sound clusters i [] (x ∷ xs) texts run tell is = absurd run
  run-sound clusters i (s ∷ states) [] texts run tell is = absurd run
  run-sound clusters i (s ∷ states) (x ∷ xs) [] run tell is = cc
  run-sound clusters i (s ∷ states) (x ∷ xs) (text ∷ texts) run tell is =
      let rest : TellTexts states texts = cc in
      let here : s.left ≡ Some text = cc in
      by (run-sound clusters (i + 1) states xs texts run.1 rest) x.ended (run.0.told text here) is
    where
      by : (answer_from clusters (i + 1) xs ≡ Ok tt
          → AreSound fields texts
          × AllWroteFrom (state committer.birth.begun).held t p.page p.staged (i + 1) (chunks_of p.cluster fields texts) (all_kept xs)
          × Before (chunks_of p.cluster fields texts) (all_kept xs) (length texts) [])
          → (e : Result Unit ContextError) → EndsTold state fields t p committer run.0.pass text e
          → answer_of clusters i e (answer_from clusters (i + 1) xs) ≡ Ok tt
          → AreSound fields (text ∷ texts) × AllWroteFrom (state committer.birth.begun).held t p.page p.staged i (chunks_of p.cluster fields
          (text ∷ texts)) (all_kept (x ∷ xs)) × Before (chunks_of p.cluster fields (text ∷ texts)) (all_kept (x ∷ xs))
          (suc (length texts)) []
      by later (Ok done) told is =
          let more = later is in
          let kept = kept-is state fields t p committer source i s x run.0 in
          let held = (state committer.birth.begun).held in
          let mine = text_chunks p.cluster fields text in
          let wrote : WroteAllChunks held t p.page p.staged i mine (kept_by x.pass).1 =
          subst (λ (k : ℕ × List (Entry ClusterMeta)). WroteAllChunks held t p.page p.staged i mine k.1) (sym kept)
          (subst (λ (n : ℕ). WroteAllChunks held t p.page p.staged n mine run.0.pass.own) run.0.number_is told.1) in (
            (told.0, more.0),
            (ap (λ (k : ℕ × List (Entry ClusterMeta)). k.0) kept, wrote, more.1),
            before-more (text_chunks p.cluster fields text) (chunks_of p.cluster fields texts) (kept_by x.pass) (all_kept xs)
                (length texts) [] (all-taken i s x run.0 (text_chunks p.cluster fields text) told.2) more.2,
          )
      by later (Err e) told is = cc

  pub run-bad : (clusters i : ℕ) (states : List SourceState) (seats : List (Seat S (DiskPass D) P)) (texts : List (List ℕ)) (input line
      : ℕ) (kind : TextKind)
      → HaveRun state fields t p committer source i states seats → TellTexts states texts → answer_from clusters i seats ≡ Err
      (Line input line kind)
      → BadFrom fields p i texts (all_kept seats) input line kind
  run-bad clusters i [] [] texts input line kind run tell is = cc
  run-bad clusters i [] (x ∷ xs) texts input line kind run tell is = absurd run
  run-bad clusters i (s ∷ states) [] texts input line kind run tell is = absurd run
  run-bad clusters i (s ∷ states) (x ∷ xs) [] input line kind run tell is = cc
  run-bad clusters i (s ∷ states) (x ∷ xs) (text ∷ texts) input line kind run tell is =
      let rest : TellTexts states texts = cc in
      let here : s.left ≡ Some text = cc in
      by (run-bad clusters (i + 1) states xs texts input line kind run.1 rest) x.ended (run.0.told text here) is
    where
      by : (answer_from clusters (i + 1) xs ≡ Err (Line input line kind) → BadFrom fields p (i + 1) texts (all_kept xs) input line kind)
          → (e : Result Unit ContextError) → EndsTold state fields t p committer run.0.pass text e
          → answer_of clusters i e (answer_from clusters (i + 1) xs) ≡ Err (Line input line kind)
          → BadFrom fields p i (text ∷ texts) (all_kept (x ∷ xs)) input line kind
      by later (Ok done) told is =
          let b = later is in
          record {
            place = suc b.place;
            number = omega (arith, b.number);
            bad = record {
              text = b.bad.text;
              at = b.bad.at;
              bad = b.bad.bad;
              lower = lower-more fields b.place text texts told.0 b.bad.lower;
            };
            before = before-more (text_chunks p.cluster fields text) (chunks_of p.cluster fields texts) (kept_by x.pass) (all_kept xs)
                b.place
                (whole_chunks p.cluster (text_chunks p.cluster fields b.bad.text))
                (all-taken i s x run.0 (text_chunks p.cluster fields text) told.2) b.before;
          }
      by later (Err (context.Text at what)) told is =
          let number : i ≡ input = cc in
          let lines : at ≡ line = cc in
          let kinds : what ≡ kind = cc in
          record {
            place = 0;
            number = omega (arith, number);
            bad = record {
              text = text;
              at = refl;
              bad = told.0 ∙ (ap (λ (n : ℕ). Some (record { line = n; kind = what })) lines
                  ∙ ap (λ (k : TextKind). Some (record { line = line; kind = k })) kinds);
              lower = λ j other less at. absurd (omega arith);
            };
            before = record {
              others = committed_chunks (chunks_of p.cluster fields texts) (all_kept xs);
              are = ap (λ (l : List (List TreesData)). l ++ committed_chunks (chunks_of p.cluster fields texts) (all_kept xs))
                  (ap (λ (k : ℕ × List (Entry ClusterMeta)). take (length (ranges_of k.1)) (text_chunks p.cluster fields text))
                  (kept-is state fields t p committer source i s x run.0) ∙ told.1);
            };
          }
      by later (Err (context.Limit error)) told is = absurd (not-line clusters input line kind error (cc (is)))
      by later (Err context.Outside) told is = cc
      by later (Err context.Memory) told is = cc

  pub run-passes : (clusters i : ℕ) (states : List SourceState) (seats : List (Seat S (DiskPass D) P)) (texts : List (List ℕ)) (seen :
      List (Entry ClusterMeta)) (reached most : ℕ)
      → HaveRun state fields t p committer source i states seats → TellTexts states texts → AllByRecursion (HasBeenSeen seen) seats
      → answer_from clusters i seats ≡ Err (Limit reached most)
      → PassesFrom state fields t p committer i clusters texts seen (all_kept seats) reached most
  run-passes clusters i [] [] texts seen reached most run tell saw is = cc
  run-passes clusters i [] (x ∷ xs) texts seen reached most run tell saw is = absurd run
  run-passes clusters i (s ∷ states) [] texts seen reached most run tell saw is = absurd run
  run-passes clusters i (s ∷ states) (x ∷ xs) [] seen reached most run tell saw is = cc
  run-passes clusters i (s ∷ states) (x ∷ xs) (text ∷ texts) seen reached most run tell saw is =
      let rest : TellTexts states texts = cc in
      let here : s.left ≡ Some text = cc in
      by (run-passes clusters (i + 1) states xs texts seen reached most run.1 rest saw.1) x.ended (run.0.told text here) is
    where
      by : (answer_from clusters (i + 1) xs ≡ Err (Limit reached most)
          → PassesFrom state fields t p committer (i + 1) clusters texts seen (all_kept xs) reached most)
          → (e : Result Unit ContextError) → EndsTold state fields t p committer run.0.pass text e
          → answer_of clusters i e (answer_from clusters (i + 1) xs) ≡ Err (Limit reached most)
          → PassesFrom state fields t p committer i clusters (text ∷ texts) seen (all_kept (x ∷ xs)) reached most
      by later (Ok done) told is =
          let b = later is in
          let number : i + 1 + b.place ≡ i + suc b.place = omega arith in
          record {
            error = b.error;
            names = b.names;
            place = suc b.place;
            text = b.text;
            text_is = b.text_is;
            lower = lower-more fields b.place text texts told.0 b.lower;
            own = b.own;
            mine = b.mine;
            at = b.at ∙ ap (λ (n : ℕ). Some (n, b.own)) number;
            begins = b.begins;
            passes = b.passes;
            is_written = b.is_written;
            before = before-more (text_chunks p.cluster fields text) (chunks_of p.cluster fields texts) (kept_by x.pass) (all_kept xs)
                b.place
                (take (length (ranges_of b.own)) (text_chunks p.cluster fields b.text))
                (all-taken i s x run.0 (text_chunks p.cluster fields text) told.2) b.before;
          }
      by later (Err (context.Text line kind)) told is = cc
      by later (Err (context.Limit error)) told is =
          let number : i ≡ i + 0 = omega arith in
          record {
            error = error;
            names = cc (is);
            place = 0;
            text = text;
            text_is = refl;
            lower = λ j other less at. absurd (omega (arith, less));
            own = run.0.pass.own;
            mine = run.0.pass.seen;
            at = ap (λ (k : ℕ × List (Entry ClusterMeta)). Some k) (kept-is state fields t p committer source i s x run.0)
                ∙ ap (λ (n : ℕ). Some (n, run.0.pass.own)) number;
            begins = saw.0 run.0.pass run.0.there;
            passes = told.0;
            is_written = told.1;
            before = record {
              others = committed_chunks (chunks_of p.cluster fields texts) (all_kept xs);
              are = ap (λ (l : List (List TreesData)). l ++ committed_chunks (chunks_of p.cluster fields texts) (all_kept xs))
                  (ap (λ (k : ℕ × List (Entry ClusterMeta)). take (length (ranges_of k.1)) (text_chunks p.cluster fields text))
                  (kept-is state fields t p committer source i s x run.0));
            };
          }
      by later (Err context.Outside) told is = cc
      by later (Err context.Memory) told is = cc
