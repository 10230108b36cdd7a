-- The commands that show a file, and the message after them.
use Rattle.std.proofs.Common.{◌≡◌, ◌⊎◌, ◌∙◌, inl, inr, ap, sym, subst, refl, ℕ, ◌≤◌, List, [], ◌∷◌, ◌++◌, take, Option, Some, None, Result}
use Rattle.std.proofs.Common.{Ok, Err, arith}
use Rattle.std.specs.Prelude.{IsErrOf, ◌+◌, ◌-◌}
use Rattle.std.proofs.lemmas.List.{append-nil}
use Rattle.nt_num.specs.declared.fault.ReadError.{ReadError}
use Rattle.nt_outside.specs.declared.fault.Refused.{Refused}
use Rattle.nt_outside.specs.declared.fault.Refused.TheVariants as refused
use Rattle.nt_outside.specs.Faults.{Rose, TakesIn}
use Rattle.nt_outside.specs.File.{FileState}
use Rattle.nt_outside.specs.World.{World, Asked, File, HostState, file, Asks, Opens, IsOpenFile, TakesBack}
use Rattle.nt_tfile.specs.declared.failure.ReadFailure.{ReadFailure}
use Rattle.nt_tfile.specs.declared.failure.ReadFailure.TheVariants as failure
use Rattle.nt_show.specs.Shown.{Shown, Printed, ShowsFile}
use Rattle.nt_app.specs.Statuses.{message_of}
use Rattle.nt_store.specs.Worlds.{IsThereWith, KeepsFiles}
use Rattle.nt_app.specs.Reports.{Reports}
use Rattle.nt_app.specs.Shows.{AsksAsDone, status_of_refusal, status_of_shown, shown_of, GainsFront, ShownTold, IsAnswerOfReading}
use Rattle.nt_app.specs.Shows.{ShowsNamed, Shows}
use Rattle.nt_app.specs.declared.status.Status.{Status}
use Rattle.nt_app.specs.declared.status.Status.TheVariants as status
use Rattle.nt_app.proofs.Joined.{either_after, not_there_both, there_is}

pub there : (P : List ℕ → Type 0) (found : Option (List ℕ)) (bytes : List ℕ) → found ≡ Some bytes → P bytes → IsThereWith P found
there P found bytes is has = subst (IsThereWith P) (sym is) has

-- what out gained, by what was printed of the file
told_by : {V : Type 0} (s : Shown V) (found : Option (List ℕ)) (bytes : List ℕ) (w : World) (new : Option World)
    (result : Result Unit ReadFailure)
    → found ≡ Some bytes → Printed s bytes w new result
    → (w' : World) × (new ≡ Some w') × (w'.err ≡ w.err) × KeepsFiles w w' × ShownTold s found w w' (status_of_shown result)
told_by {V} s found bytes w new (Ok value) is (read, reads, now) = (
  _,
  now,
  refl,
  (refl, refl),
  there (λ b. (r : V) × (s.reading b ≡ Ok r) × (w.out ++ s.whole read ≡ w.out ++ s.whole r)) found bytes
      is (read, reads, refl),
)
told_by s found bytes w new (Err (failure.Defect e)) is (reads, now) = (
  _,
  now,
  refl,
  (refl, refl),
  there (λ b. (s.reading b ≡ Err e) × (w.out ++ s.before_fault bytes ≡ w.out ++ s.before_fault b)) found
      bytes is (reads, refl),
)
told_by s found bytes w new (Err failure.Fault) is (printed, left, now, text) =
    (_, now, refl, (refl, refl), (printed, left, refl, ap (shown_of s) is ∙ text))
told_by s found bytes w new (Err failure.Memory) is (printed, left, now, text) =
    (_, now, refl, (refl, refl), (printed, left, refl, ap (shown_of s) is ∙ text))

-- the one file was asked for, whatever came of it
asks_shown : (result : Result Unit ReadFailure) (a : Asked) (old new : List Asked) → new ≡ old ++ a ∷ []
    → AsksAsDone (a ∷ []) old new (status_of_shown result)
asks_shown (Ok value) a old new is = is
asks_shown (Err (failure.Defect e)) a old new is = (1, is)
asks_shown (Err failure.Fault) a old new is = (1, is)
asks_shown (Err failure.Memory) a old new is = (1, is)

shown_answers : (result : Result Unit ReadFailure) → IsAnswerOfReading (status_of_shown result)
shown_answers (Ok value) = tt
shown_answers (Err (failure.Defect e)) = tt
shown_answers (Err failure.Fault) = tt
shown_answers (Err failure.Memory) = tt

shown_failed : (result : Result Unit ReadFailure) → status_of_shown result ≡ status.Outside → IsErrOf result failure.Fault
shown_failed (Ok value) is = absurd (cc)
shown_failed (Err (failure.Defect e)) is = absurd (cc)
shown_failed (Err failure.Fault) is = refl
shown_failed (Err failure.Memory) is = absurd (cc)

-- the faults of a host that took a file back
pub rose_either : (before opened printed now one one' : ℕ) → before ≤ opened → opened ≤ printed → one ≡ 0 → TakesIn printed now one'
    → Rose opened printed ⊎ Rose one one' → Rose before now
rose_either before opened printed now one one' first second none taken (inl rose) = omega (arith, rose, first, taken.later)
rose_either before opened printed now one one' first second none taken (inr rose) = omega (arith, rose, none, first, second, taken.sum)

-- a file was opened, shown and returned
pub shows_named : {V : Type 0} (s : Shown V) (name : List ℕ) (old opened printed new : HostState) (f f' : FileState)
    (result : Result Unit ReadFailure) (answer : Status)
    → answer ≡ status_of_shown result
    → opened.asked ≡ old.asked ++ File name ∷ [] → opened.err_faults ≡ old.err_faults → opened.opened ≡ old.opened + 1
    → old.faults ≤ opened.faults → opened.world ≡ old.world → IsOpenFile old.world name f
    → ShowsFile s opened printed f f' result → TakesBack f'.faults printed new → new.world ≡ printed.world
    → ShowsNamed s name old new answer
shows_named s name old opened printed new f f' result answer answer-is asked errs count later same is-file shows back world = record {
  told = λ w is.
      let bytes = is-file.bytes w is in
      let found = there_is (file w name) bytes.0 in
      let done = told_by s (file w name) found.0 w new.world result found.1
      (subst (λ (v : Option World). Printed s found.0 w v result) (sym world) (shows.told w found.0 (same ∙ is) (bytes.1 ∙ found.1))) in
      (done.0, done.1, done.2, done.3, subst (ShownTold s (file w name) w done.0) (sym answer-is) done.4);
  asked = subst (AsksAsDone (File name ∷ []) old.asked new.asked) (sym answer-is)
      (asks_shown result (File name) old.asked new.asked (back.asked ∙ shows.rest.asked ∙ asked));
  answer_is = subst IsAnswerOfReading (sym answer-is) (shown_answers result);
  later = omega (arith, later, shows.later, back.faults_taken.later);
  failed = λ outside.
      rose_either old.faults opened.faults printed.faults new.faults f.faults f'.faults later shows.later is-file.faults
      back.faults_taken (shows.fault (shown_failed result (sym answer-is ∙ outside)));
  err_faults = back.err_faults ∙ shows.rest.err_faults ∙ errs;
  opened = back.opened ∙ ap (λ (n : ℕ). n - 1) (shows.rest.opened ∙ count) ∙ omega arith;
}

nothing_gained : {V : Type 0} (s : Shown V) (found : Option (List ℕ)) (w : World) → GainsFront (shown_of s found) w w
nothing_gained s found w = ([], shown_of s found, sym (append-nil w.out), refl)

refusal_told : {V : Type 0} (s : Shown V) (name : List ℕ) (w : World) (r : Refused) → ShownTold s (file w name) w w (status_of_refusal r)
refusal_told s name w refused.Failed = nothing_gained s (file w name) w
refusal_told s name w refused.Memory = nothing_gained s (file w name) w

pub refusal_asks : {T : Type 0} (r : Refused) (name : List ℕ) (old new : HostState) → Asks {T = T} (File name) old new (Err r)
    → AsksAsDone (File name ∷ []) old.asked new.asked (status_of_refusal r)
refusal_asks refused.Failed name old new asks = (1, asks.failed refl)
refusal_asks refused.Memory name old new asks =
    elim (asks.memory refl) [ inl stays ↦ (0, stays ∙ sym (append-nil old.asked)) | inr one ↦ (1, one) ]

refusal_answers : (r : Refused) → IsAnswerOfReading (status_of_refusal r)
refusal_answers refused.Failed = tt
refusal_answers refused.Memory = tt

pub refusal_failed : {T : Type 0} (r : Refused) → status_of_refusal r ≡ status.Outside → IsErrOf {T = T} (Err r) refused.Failed
refusal_failed refused.Failed is = refl
refusal_failed refused.Memory is = absurd (cc)

-- the file was refused
pub refuses_named : {V T : Type 0} (s : Shown V) (name : List ℕ) (old new : HostState) (r : Refused) (answer : Status)
    → answer ≡ status_of_refusal r → Opens {T = T} (File name) old new (Err r) → ShowsNamed s name old new answer
refuses_named {V} {T} s name old new r answer answer-is opens = record {
  told = λ w is. (w, opens.world ∙ is, refl, (refl, refl), subst (ShownTold s (file w name) w w) (sym answer-is) (refusal_told s name w r));
  asked = subst (AsksAsDone (File name ∷ []) old.asked new.asked) (sym answer-is) (refusal_asks r name old new opens.asks);
  answer_is = subst IsAnswerOfReading (sym answer-is) (refusal_answers r);
  later = opens.asks.cause.later;
  failed = λ outside. opens.asks.cause.failed (refusal_failed r (sym answer-is ∙ outside));
  err_faults = opens.asks.err_faults;
  opened = opens.asks.refused;
}

-- want of memory for the words leaves all as it was
pub memory_shows : {V : Type 0} (s : Shown V) (name : List ℕ) (state : HostState) → ShowsNamed s name state state status.Memory
memory_shows s name state = record {
  told = λ w is. (w, is, refl, (refl, refl), nothing_gained s (file w name) w);
  asked = (0, sym (append-nil state.asked));
  answer_is = tt;
  later = omega arith;
  failed = λ outside. absurd (cc);
  err_faults = refl;
  opened = refl;
}

-- what a print on err leaves of what out gained
told_after : {V : Type 0} (s : Shown V) (found : Option (List ℕ)) (w v : World) (err : List ℕ) (answer : Status)
    → ShownTold s found w v answer → ShownTold s found w (record v { err = err }) answer
told_after s found w v err status.Done told = told
told_after s found w v err status.Usage told = told
told_after s found w v err (status.File fault) told = told
told_after s found w v err (status.FileOf file e) told = told
told_after s found w v err status.Outside told = told
told_after s found w v err (status.Limit reached limit) told = told
told_after s found w v err (status.Text input line kind) told = told
told_after s found w v err status.Memory told = told
told_after s found w v err (status.Schema place) told = told

ends_done : {V : Type 0} (s : Shown V) (found : Option (List ℕ)) (w v : World) (read : V) (answer : Status) → ShownTold s found w v answer
    → IsThereWith (λ bytes. s.reading bytes ≡ Ok read) found → (answer ≡ status.Outside → ⊥)
    → (answer ≡ status.Done) ⊎ (answer ≡ status.Memory)
ends_done s found w v read status.Done told reads served = inl refl
ends_done s found w v read status.Usage told reads served = absurd told
ends_done s found w v read (status.File e) told reads served =
    absurd (not_there_both (λ bytes. s.reading bytes ≡ Ok read)
    (λ bytes. (s.reading bytes ≡ Err e) × (v.out ≡ w.out ++ s.before_fault bytes)) found
    (λ bytes one other. both (s.reading bytes) read e one other.0) reads told)
  where
    both : {A : Type 0} (r : Result A ReadError) (x : A) (d : ReadError) → r ≡ Ok x → r ≡ Err d → ⊥
    both r x d one other =
        let bad = sym one ∙ other in
        cc
ends_done s found w v read (status.FileOf file e) told reads served = absurd told
ends_done s found w v read status.Outside told reads served = absurd (served refl)
ends_done s found w v read (status.Limit reached limit) told reads served = absurd told
ends_done s found w v read (status.Text input line kind) told reads served = absurd told
ends_done s found w v read status.Memory told reads served = inr refl
ends_done s found w v read (status.Schema place) told reads served = absurd told

ends_faulty : {V : Type 0} (s : Shown V) (found : Option (List ℕ)) (w v : World) (e : ReadError) (answer : Status)
    → ShownTold s found w v answer → IsThereWith (λ bytes. s.reading bytes ≡ Err e) found → (answer ≡ status.Outside → ⊥)
    → (answer ≡ status.File e) ⊎ (answer ≡ status.Memory)
ends_faulty {V} s None w v e answer told reads served = absurd reads
ends_faulty {V} s (Some bytes) w v e status.Done told reads served = absurd (both told.1)
  where
    both : s.reading bytes ≡ Ok told.0 → ⊥
    both is =
        let bad = sym is ∙ reads in
        cc
ends_faulty {V} s (Some bytes) w v e status.Usage told reads served = absurd told
ends_faulty {V} s (Some bytes) w v e (status.File d) told reads served =
    inl (ap (λ (f : ReadError). status.File f) (err_is d e (sym told.0 ∙ reads)))
  where
    err_is : (x y : ReadError) → ◌≡◌ {A = Result V ReadError} (Err x) (Err y) → x ≡ y
    err_is x y is = cc
ends_faulty {V} s (Some bytes) w v e (status.FileOf file d) told reads served = absurd told
ends_faulty {V} s (Some bytes) w v e status.Outside told reads served = absurd (served refl)
ends_faulty {V} s (Some bytes) w v e (status.Limit reached limit) told reads served = absurd told
ends_faulty {V} s (Some bytes) w v e (status.Text input line kind) told reads served = absurd told
ends_faulty {V} s (Some bytes) w v e status.Memory told reads served = inr refl
ends_faulty {V} s (Some bytes) w v e (status.Schema place) told reads served = absurd told

-- the command, and then its message
pub run_shows : {V : Type 0} (s : Shown V) (name : List ℕ) (old mid new : HostState) (answer : Status) → ShowsNamed s name old mid answer
    → Reports (message_of answer) mid new → Shows s name old new answer
run_shows s name old mid new answer shows reports = record {
  told = λ w is.
      let done = shows.told w is in
      let said = reports.told done.0 done.1 in (
        _,
        said.1,
        (
          said.0,
          ap (λ (l : List ℕ). l ++ take said.0 (message_of answer)) done.2,
          either_after old mid new said.0 (message_of answer)
              shows.err_faults said.2,
        ),
        done.3,
        told_after s (file w name) w done.0 (done.0.err ++ take said.0 (message_of answer)) answer done.4,
      );
  asked = subst (λ (l : List Asked). AsksAsDone (File name ∷ []) old.asked l answer) (sym reports.asked) shows.asked;
  answer_is = shows.answer_is;
  failed = λ is. subst (λ (n : ℕ). Rose old.faults n) (sym reports.faults) (shows.failed is);
  opened = reports.opened ∙ shows.opened;
  complete = λ w read is reads served.
      let done = shows.told w is in
      ends_done s (file w name) w done.0 read answer done.4 reads
      (λ outside. served (subst (λ (n : ℕ). Rose old.faults n) (sym reports.faults) (shows.failed outside)));
  refused = λ w e is reads served.
      let done = shows.told w is in
      ends_faulty s (file w name) w done.0 e answer done.4 reads
      (λ outside. served (subst (λ (n : ℕ). Rose old.faults n) (sym reports.faults) (shows.failed outside)));
}
