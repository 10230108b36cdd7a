-- The lines of a scan, printed on out.
use Rattle.std.proofs.Common.{◌≡◌, ◌∙◌, inl, inr, sym, refl, ℕ, List, [], take, drop, Ok, Err, arith}
use Rattle.std.proofs.lemmas.List.{append-nil, take-append-drop}
use Rattle.nt_outside.specs.declared.fault.Failed.{Failed}
use Rattle.nt_outside.specs.declared.stream.Stream.TheVariants.{ToOut}
use Rattle.nt_outside.specs.World.{HostState, PrintsAll}
use Rattle.nt_scan.specs.declared.error.ScanError.{ScanError}
use Rattle.nt_scan.specs.declared.error.ScanError.TheVariants.{TooMany, Defect, Fault, Memory}
use Rattle.nt_app.specs.declared.status.Status.{Status}
use Rattle.nt_app.specs.declared.status.Status.TheVariants as status
use Rattle.nt_app.specs.Scans.{status_of_scan_error, PrintsScan}
use Rattle.std.specs.Prelude.{IsErrOf}

-- all of them
pub prints_whole : (lines : List ℕ) (old new : HostState) (u : Unit) → PrintsAll ToOut lines old new (Ok u)
    → PrintsScan (Ok lines) old new status.Done
prints_whole lines old new u prints = record {
  told = λ w is. (_, prints.ok w is, refl, (refl, refl), (lines, refl, refl));
  answers = inl refl;
  later = prints.cause.later;
  failed = λ outside. absurd (cc);
  rest = record { asked = prints.asked; err_faults = prints.other; opened = prints.opened };
}

-- their front
pub prints_front : (lines : List ℕ) (old new : HostState) (e : Failed) → PrintsAll ToOut lines old new (Err e)
    → PrintsScan (Ok lines) old new status.Outside
prints_front lines old new e prints = record {
  told = λ w is.
      let front = prints.front w is in
      (_, front.2, refl, (refl, refl), (take front.0 lines, refl, (drop front.0 lines, sym (take-append-drop front.0 lines))));
  answers = inr refl;
  later = prints.cause.later;
  failed = λ outside. inl prints.cause.failed;
  rest = record { asked = prints.asked; err_faults = prints.other; opened = prints.opened };
}

-- a scan without lines is blamed on the outside only where it failed
error_failed : (e : ScanError) → status_of_scan_error e ≡ status.Outside → IsErrOf {T = List ℕ} (Err e) Fault
error_failed (TooMany column reached) is = absurd (cc)
error_failed (Defect e) is = absurd (cc)
error_failed Fault is = refl
error_failed Memory is = absurd (cc)

-- nothing of one without lines
pub prints_none : (e : ScanError) (old : HostState) (answer : Status) → answer ≡ status_of_scan_error e → PrintsScan (Err e) old old answer
prints_none e old answer is = record {
  told = λ w told-is. (w, told-is, refl, (refl, refl), ([], sym (append-nil w.out), refl));
  answers = is;
  later = omega arith;
  failed = λ outside. inr (error_failed e (sym is ∙ outside));
  rest = record { asked = refl; err_faults = refl; opened = refl };
}
