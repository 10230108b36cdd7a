-- The command `scan`, and the message after it.
use Rattle.std.proofs.Common.{◌≡◌, ◌⊎◌, ◌∙◌, inl, inr, ap, sym, subst, refl, ℕ, ◌≤◌, List, [], ◌∷◌, ◌++◌, take, Option, Some}
use Rattle.std.proofs.Common.{Result, Ok, Err, arith}
use Rattle.std.specs.Prelude.{IsErrOf, ◌+◌, ◌-◌}
use Rattle.std.proofs.lemmas.List.{append-nil}
use Rattle.nt_outside.specs.declared.fault.Refused.{Refused}
use Rattle.nt_outside.specs.declared.fault.Refused.TheVariants as refused
use Rattle.nt_outside.specs.Faults.{Rose}
use Rattle.nt_outside.specs.File.{FileState}
use Rattle.nt_outside.specs.World.{World, Asked, File, HostState, file, Opens, IsOpenFile, TakesBack}
use Rattle.nt_scan.specs.declared.error.ScanError.{ScanError}
use Rattle.nt_scan.specs.declared.error.ScanError.TheVariants.{TooMany, Defect, Fault, Memory}
use Rattle.nt_scan.specs.Scans.{ServesScan, ScansAs}
use Rattle.nt_scan.proofs.Alone.{lines-mean}
use Rattle.nt_app.specs.Statuses.{message_of}
use Rattle.nt_app.specs.Reports.{Reports}
use Rattle.nt_app.specs.Shows.{AsksAsDone, status_of_refusal}
use Rattle.nt_app.specs.Scans.{status_of_scan_error, AnswersScan, IsPrintedOfScan, PrintsScan, HasLines, HasTooMany}
use Rattle.nt_app.specs.Scans.{GainsLinesFront, ScanTold, IsAnswerOfScan, ScansNamed, RunsScan}
use Rattle.nt_app.specs.declared.status.Status.{Status}
use Rattle.nt_app.specs.declared.status.Status.TheVariants as status
use Rattle.nt_app.proofs.Joined.{either_after, there_is}
use Rattle.nt_app.proofs.Shown.{there, rose_either, refusal_asks, refusal_failed}
use Rattle.nt_app.proofs.ScanEnds.{ends_done, ends_over, ends_faulty}

-- lines of a file, with what it means
has_lines : (bytes lines : List ℕ) → ScansAs bytes (Ok lines) → HasLines bytes lines
has_lines bytes lines scanned =
    let means = lines-mean bytes lines scanned in
    ((means.0.0, means.0.1, means.1), scanned)

nothing_gained : (found : Option (List ℕ)) (w : World) → GainsLinesFront found w w
nothing_gained found w = ([], sym (append-nil w.out), inl refl)

gains_none : (w w' : World) (printed : List ℕ) → w'.out ≡ w.out ++ printed → printed ≡ [] → w'.out ≡ w.out
gains_none w w' printed out none = out ∙ ap (λ (l : List ℕ). w.out ++ l) none ∙ append-nil w.out

-- what out gained of a file without lines
none_told : (found : Option (List ℕ)) (bytes : List ℕ) (w w' : World) (e : ScanError) (printed : List ℕ) → found ≡ Some bytes
    → ScansAs bytes (Err e) → w'.out ≡ w.out ++ printed → printed ≡ [] → ScanTold found w w' (status_of_scan_error e)
none_told found bytes w w' (TooMany column reached) printed is scanned out none = (
  there (λ b. HasTooMany b reached) found bytes is (column, scanned),
  refl,
  gains_none w w' printed out none,
)
none_told found bytes w w' (Defect e) printed is scanned out none =
    (there (λ b. ScansAs b (Err (Defect e))) found bytes is scanned, gains_none w w' printed out none)
none_told found bytes w w' Fault printed is scanned out none = (printed, out, inl none)
none_told found bytes w w' Memory printed is scanned out none = (printed, out, inl none)

-- what out gained, by what was printed of a scan
told_by : (found : Option (List ℕ)) (bytes : List ℕ) (w w' : World) (scanned : Result (List ℕ) ScanError) (printed : List ℕ)
    (answer : Status)
    → found ≡ Some bytes → ScansAs bytes scanned → w'.out ≡ w.out ++ printed → AnswersScan scanned answer
    → IsPrintedOfScan scanned printed answer → ScanTold found w w' answer
told_by found bytes w w' (Ok lines) printed answer is scanned out (inl done) of =
    let all : printed ≡ lines = subst (IsPrintedOfScan (Ok lines) printed) done of in
    subst (ScanTold found w w') (sym done)
    (there (λ b. (l : List ℕ) × HasLines b l × (w'.out ≡ w.out ++ l)) found bytes is
    (lines, has_lines bytes lines scanned, out ∙ ap (λ (l : List ℕ). w.out ++ l) all))
told_by found bytes w w' (Ok lines) printed answer is scanned out (inr failed) of =
    let front : (left : List ℕ) × (lines ≡ printed ++ left) = subst (IsPrintedOfScan (Ok lines) printed) failed of in
    subst (ScanTold found w w') (sym failed) (
      printed,
      out,
      inr (there (λ b. (l left : List ℕ) × HasLines b l × (l ≡ printed ++ left)) found bytes is
          (lines, front.0, has_lines bytes lines scanned, front.1)),
    )
told_by found bytes w w' (Err e) printed answer is scanned out answers of =
    subst (ScanTold found w w') (sym answers) (none_told found bytes w w' e printed is scanned out of)

error_answers : (e : ScanError) → IsAnswerOfScan (status_of_scan_error e)
error_answers (TooMany column reached) = tt
error_answers (Defect e) = tt
error_answers Fault = tt
error_answers Memory = tt

scan_answers : (scanned : Result (List ℕ) ScanError) (answer : Status) → AnswersScan scanned answer → IsAnswerOfScan answer
scan_answers (Ok lines) answer (inl done) = subst IsAnswerOfScan (sym done) tt
scan_answers (Ok lines) answer (inr failed) = subst IsAnswerOfScan (sym failed) tt
scan_answers (Err e) answer is = subst IsAnswerOfScan (sym is) (error_answers e)

-- the one file was asked for, whatever came of it
asks_one : (answer : Status) (a : Asked) (old new : List Asked) → new ≡ old ++ a ∷ [] → AsksAsDone (a ∷ []) old new answer
asks_one status.Done a old new is = is
asks_one status.Usage a old new is = (1, is)
asks_one (status.File e) a old new is = (1, is)
asks_one (status.FileOf file e) a old new is = (1, is)
asks_one status.Outside a old new is = (1, is)
asks_one (status.Limit reached limit) a old new is = (1, is)
asks_one (status.Text input line kind) a old new is = (1, is)
asks_one status.Memory a old new is = (1, is)
asks_one (status.Schema place) a old new is = (1, is)

-- a file was opened, scanned and returned
pub scans_named : (name : List ℕ) (old opened printed new : HostState) (f f' : FileState) (scanned : Result (List ℕ) ScanError)
    (answer : Status)
    → opened.asked ≡ old.asked ++ File name ∷ [] → opened.err_faults ≡ old.err_faults → opened.opened ≡ old.opened + 1
    → old.faults ≤ opened.faults → opened.world ≡ old.world → IsOpenFile old.world name f
    → ServesScan f f' scanned → ((told : List ℕ) → f.bytes ≡ Some told → ScansAs told scanned)
    → PrintsScan scanned opened printed answer → TakesBack f'.faults printed new → new.world ≡ printed.world
    → ScansNamed name old new answer
scans_named name old opened printed new f f' scanned answer asked errs count later same is-file serves scans prints back world = record {
  told = λ w is.
      let bytes = is-file.bytes w is in
      let found = there_is (file w name) bytes.0 in
      let done = prints.told w (same ∙ is) in (
        done.0,
        world ∙ done.1,
        done.2,
        done.3,
        told_by (file w name) found.0 w done.0 scanned done.4.0 answer found.1 (scans found.0 (bytes.1 ∙ found.1)) done.4.1 prints.answers
            done.4.2,
      );
  asked = asks_one answer (File name) old.asked new.asked (back.asked ∙ prints.rest.asked ∙ asked);
  answer_is = scan_answers scanned answer prints.answers;
  later = omega (arith, later, prints.later, back.faults_taken.later);
  failed = λ outside.
      rose_either old.faults opened.faults printed.faults new.faults f.faults f'.faults later prints.later is-file.faults
      back.faults_taken (either_rose (prints.failed outside));
  err_faults = back.err_faults ∙ prints.rest.err_faults ∙ errs;
  opened = back.opened ∙ ap (λ (n : ℕ). n - 1) (prints.rest.opened ∙ count) ∙ omega arith;
}
  where
    either_rose : Rose opened.faults printed.faults ⊎ IsErrOf scanned Fault → Rose opened.faults printed.faults ⊎ Rose f.faults f'.faults
    either_rose (inl rose) = inl rose
    either_rose (inr fault) = inr (serves.fault fault)

refusal_told : (found : Option (List ℕ)) (w : World) (r : Refused) → ScanTold found w w (status_of_refusal r)
refusal_told found w refused.Failed = nothing_gained found w
refusal_told found w refused.Memory = nothing_gained found w

refusal_answers : (r : Refused) → IsAnswerOfScan (status_of_refusal r)
refusal_answers refused.Failed = tt
refusal_answers refused.Memory = tt

-- the file was refused
pub refuses_scan : {T : Type 0} (name : List ℕ) (old new : HostState) (r : Refused) (answer : Status) → answer ≡ status_of_refusal r
    → Opens {T = T} (File name) old new (Err r) → ScansNamed name old new answer
refuses_scan {T} name old new r answer answer-is opens = record {
  told = λ w is. (
    w,
    opens.world ∙ is,
    refl,
    (refl, refl),
    subst (ScanTold (file w name) w w) (sym answer-is)
        (refusal_told (file w name) w r),
  );
  asked = subst (AsksAsDone (File name ∷ []) old.asked new.asked) (sym answer-is) (refusal_asks r name old new opens.asks);
  answer_is = subst IsAnswerOfScan (sym answer-is) (refusal_answers r);
  later = opens.asks.cause.later;
  failed = λ outside. opens.asks.cause.failed (refusal_failed r (sym answer-is ∙ outside));
  err_faults = opens.asks.err_faults;
  opened = opens.asks.refused;
}

-- want of memory for the words leaves all as it was
pub memory_scans : (name : List ℕ) (state : HostState) → ScansNamed name state state status.Memory
memory_scans name state = record {
  told = λ w is. (w, is, refl, (refl, refl), nothing_gained (file w name) w);
  asked = (0, sym (append-nil state.asked));
  answer_is = tt;
  later = omega arith;
  failed = λ outside. absurd (cc);
  err_faults = refl;
  opened = refl;
}

-- what a print on err leaves of what out gained
told_after : (found : Option (List ℕ)) (w v : World) (err : List ℕ) (answer : Status) → ScanTold found w v answer
    → ScanTold found w (record v { err = err }) answer
told_after found w v err status.Done told = told
told_after found w v err status.Usage told = told
told_after found w v err (status.File fault) told = told
told_after found w v err (status.FileOf file e) told = told
told_after found w v err status.Outside told = told
told_after found w v err (status.Limit reached limit) told = told
told_after found w v err (status.Text input line kind) told = told
told_after found w v err status.Memory told = told
told_after found w v err (status.Schema place) told = told

-- the command, and then its message
pub run_scan : (name : List ℕ) (old mid new : HostState) (answer : Status) → ScansNamed name old mid answer
    → Reports (message_of answer) mid new → RunsScan name old new answer
run_scan name old mid new answer scans reports = record {
  told = λ w is.
      let done = scans.told w is in
      let said = reports.told done.0 done.1 in (
        _,
        said.1,
        (
          said.0,
          ap (λ (l : List ℕ). l ++ take said.0 (message_of answer)) done.2,
          either_after old mid new said.0 (message_of answer) scans.err_faults said.2,
        ),
        done.3,
        told_after (file w name) w done.0 (done.0.err ++ take said.0 (message_of answer)) answer done.4,
      );
  asked = subst (λ (l : List Asked). AsksAsDone (File name ∷ []) old.asked l answer) (sym reports.asked) scans.asked;
  answer_is = scans.answer_is;
  failed = λ is. rose_on (scans.failed is);
  opened = reports.opened ∙ scans.opened;
  complete = λ w is can served.
      let done = scans.told w is in
      ends_done (file w name) w done.0 answer done.4 can (λ outside. served (rose_on (scans.failed outside)));
  limited = λ w reached is over served.
      let done = scans.told w is in
      ends_over (file w name) w done.0 reached answer done.4 over (λ outside. served (rose_on (scans.failed outside)));
  refused = λ w e is faulty served.
      let done = scans.told w is in
      ends_faulty (file w name) w done.0 e answer done.4 faulty (λ outside. served (rose_on (scans.failed outside)));
}
  where
    rose_on : Rose old.faults mid.faults → Rose old.faults new.faults
    rose_on rose = subst (λ (n : ℕ). Rose old.faults n) (sym reports.faults) rose
