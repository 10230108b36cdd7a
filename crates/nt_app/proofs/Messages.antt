-- A message that is printed on err piece by piece.
use Rattle.std.proofs.Common.{◌≡◌, ◌⊎◌, ◌∙◌, inl, inr, ap, sym, refl, ℕ, ◌+◌, ◌≤◌, List, [], ◌++◌, length, take}
use Rattle.std.proofs.Common.{subst, Option, Some, None, Result, Ok, Err, append_assoc, arith}
use Rattle.std.specs.Option.{option_map_or}
use Rattle.std.proofs.lemmas.List.{append-nil, length-append, take-append-le}
use Rattle.std.proofs.Math.Seq.{take-length, take-append-add}
use Rattle.nt_outside.specs.declared.fault.Failed.{Failed}
use Rattle.nt_outside.specs.declared.stream.Stream.TheVariants.{ToErr}
use Rattle.nt_outside.specs.Faults.{Rose}
use Rattle.nt_outside.specs.World.{HostState, PrintsAll, prints}
use Rattle.nt_app.specs.declared.status.Status.{Status}
use Rattle.nt_app.specs.declared.status.Status.TheVariants as status
use Rattle.nt_app.specs.declared.status.SchemaPlace.{SchemaPlace}
use Rattle.nt_app.specs.Statuses.{name_of_place, name_line, place_end, message_of, message_front, message_end}
use Rattle.nt_app.specs.Reports.{Reports}

-- nothing
pub reports_none : (host : HostState) → Reports [] host host
reports_none host = record {
  told = λ w is. (0, is ∙ ap (λ (l : List ℕ). Some (record w { err = l })) (sym (append-nil w.err)), inl (omega arith));
  asked = refl;
  faults = refl;
  opened = refl;
}

-- only the message of a schema that doesn't meet the words has an end
pub reports_no_end : (answer : Status) (host : HostState) → ((place : SchemaPlace) → answer ≡ status.Schema place → ⊥)
    → Reports (message_end answer) host host
reports_no_end status.Done host other = reports_none host
reports_no_end status.Usage host other = reports_none host
reports_no_end (status.File fault) host other = reports_none host
reports_no_end (status.FileOf file e) host other = reports_none host
reports_no_end status.Outside host other = reports_none host
reports_no_end (status.Limit reached limit) host other = reports_none host
reports_no_end (status.Text input line kind) host other = reports_none host
reports_no_end status.Memory host other = reports_none host
reports_no_end (status.Schema place) host other = absurd (other place refl)

-- nor does a place that has no name
pub reports_nameless : (place : SchemaPlace) (host : HostState) → name_of_place place ≡ None → Reports (place_end place) host host
reports_nameless place host none =
    subst (λ (o : Option (List ℕ)). Reports (option_map_or name_line o []) host host) (sym none) (reports_none host)

-- the name of a place is its end
pub reports_named : (place : SchemaPlace) (name : List ℕ) (old new : HostState) → name_of_place place ≡ Some name
    → Reports (name_line name) old new → Reports (place_end place) old new
reports_named place name old new is reports =
    subst (λ (o : Option (List ℕ)). Reports (option_map_or name_line o []) old new) (sym is) reports

-- all of it, or its front
pub reports_all : (message : List ℕ) (old new : HostState) (result : Result Unit Failed) → PrintsAll ToErr message old new result
    → Reports message old new
reports_all message old new (Ok done) printed = record {
  told = λ w is. (
    length message,
    printed.ok w is ∙ ap (λ (l : List ℕ). Some (prints ToErr l w)) (sym (take-length message)),
    inl (omega arith),
  );
  asked = printed.asked;
  faults = printed.other;
  opened = printed.opened;
}
reports_all message old new (Err e) printed = record {
  told = λ w is. let front = printed.front w is in (front.0, front.2, inr printed.cause.failed);
  asked = printed.asked;
  faults = printed.other;
  opened = printed.opened;
}

-- the first piece failed
pub reports_front : (first rest : List ℕ) (old new : HostState) (e : Failed) → PrintsAll ToErr first old new (Err e)
    → Reports (first ++ rest) old new
reports_front first rest old new e printed = record {
  told = λ w is.
      let front = printed.front w is in (
        front.0,
        front.2 ∙ ap (λ (l : List ℕ). Some (prints ToErr l w)) (sym (take-append-le front.0 first rest front.1)),
        inr printed.cause.failed,
      );
  asked = printed.asked;
  faults = printed.other;
  opened = printed.opened;
}

either_length : (first rest : List ℕ) (n before mid now : ℕ) → before ≤ mid → (length rest ≤ n) ⊎ Rose mid now
    → (length (first ++ rest) ≤ length first + n) ⊎ Rose before now
either_length first rest n before mid now later (inl whole) =
    let both = length-append first rest in
    inl (omega (arith, both, whole))
either_length first rest n before mid now later (inr rose) = inr (omega (arith, later, rose))

-- the first piece was printed, and then the rest
pub reports_joined : (first rest : List ℕ) (old mid new : HostState) (done : Unit) → PrintsAll ToErr first old mid (Ok done)
    → Reports rest mid new → Reports (first ++ rest) old new
reports_joined first rest old mid new done printed reports = record {
  told = λ w is.
      let next = reports.told (prints ToErr first w) (printed.ok w is) in (
        length first + next.0,
        next.1
            ∙ (ap (λ (l : List ℕ). Some (record w { err = l })) (append_assoc w.err first (take next.0 rest))
            ∙ ap (λ (l : List ℕ). Some (prints ToErr l w)) (sym (take-append-add first rest next.0))),
        either_length first rest next.0 old.err_faults mid.err_faults new.err_faults printed.cause.later next.2,
      );
  asked = reports.asked ∙ printed.asked;
  faults = reports.faults ∙ printed.other;
  opened = reports.opened ∙ printed.opened;
}

-- the message of an answer is its front and its end
pub message_whole : (answer : Status) → message_front answer ++ message_end answer ≡ message_of answer
message_whole status.Done = refl
message_whole status.Usage = append-nil (message_of status.Usage)
message_whole (status.File fault) = append-nil (message_of (status.File fault))
message_whole (status.FileOf file e) = append-nil (message_of (status.FileOf file e))
message_whole status.Outside = append-nil (message_of status.Outside)
message_whole (status.Limit reached limit) = append-nil (message_of (status.Limit reached limit))
message_whole (status.Text input line kind) = append-nil (message_of (status.Text input line kind))
message_whole status.Memory = append-nil (message_of status.Memory)
message_whole (status.Schema place) = refl
