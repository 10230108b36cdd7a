-- How a context goes on from line to line, and how it ends.
use Rattle.std.proofs.Common.{◌≡◌, ◌⊎◌, inl, inr, ℕ, true, List, [], ◌∷◌, ◌++◌, length, take, Option, Some, None, Ok}
use Rattle.std.proofs.Common.{Err, refl, sym}
use Rattle.std.proofs.Common.{◌∙◌, subst, append-nil, arith}
use Rattle.nt_types.specs.ShapeData.{MembersData}
use Rattle.nt_types.specs.TreeData.{TreesData}
use Rattle.nt_outside.specs.Disk.{DiskState}
use Rattle.nt_lists.specs.Chunks.{chunks}
use Rattle.nt_machine.specs.History.{ranges_of}
use Rattle.nt_event.specs.declared.lines.Line.{Line}
use Rattle.nt_event.specs.declared.fault.TextKind.{TextKind}
use Rattle.nt_event.specs.declared.fault.TextKind.TheVariants.{TooLong}
use Rattle.nt_event.specs.declared.lines.LineError.{LineError}
use Rattle.nt_event.specs.declared.lines.LineError.TheVariants as given
use Rattle.nt_event.specs.Lines.{LinesState, IsNextLine, GivesLine}
use Rattle.nt_fill.specs.Flushes.{DiskContext}
use Rattle.nt_dealing.specs.EventText.{BadLine}
use Rattle.nt_dealing.specs.Failing.{whole_chunks}
use Rattle.nt_contexts.specs.declared.error.ContextError.{ContextError}
use Rattle.nt_contexts.specs.declared.error.ContextError.TheVariants.{Text, Limit, Outside, Memory}
use Rattle.nt_contexts.specs.Reading.{GivesJust}
use Rattle.nt_contexts.specs.Filling.{IsSameContext, IsHalt, Halts}
use Rattle.nt_contexts.specs.Taking.{TakesNone, TakesEntry, TakesTextLine, TakesNextLine}
use Rattle.nt_contexts.specs.Running.{GoesOn, IsCause, EndsEarly, error_of_line, ReadsLine}
use Rattle.nt_contexts.proofs.Reading.{read-blank, read-entry, read-bad}
use Rattle.nt_contexts.proofs.BadLines.{read-ahead, read-too_long}
use Rattle.nt_contexts.proofs.Writing.{taken_first}
use Rattle.nt_contexts.proofs.Wholes.{taken-whole}
use Rattle.nt_contexts.proofs.TakenLines.{same-trans}

module _ {D P : Type 0} (state : D → DiskState) (F : MembersData) (text : Option (List ℕ)) (start : DiskContext D P) where
  went_on : (old new : DiskContext D P) (was is : LinesState) (line : Line) → (on : GoesOn state F text start old was)
      → IsNextLine was is line
      → TakesEntry state F on.entries line old new → GoesOn state F text start new is
  went_on old new was is line on next (inl h) =
      let there : GoesOn state F text start old is =
      record {
        entries = on.entries;
        read = read-blank F text on.entries was is line on.read next h.0;
        taken = on.taken;
        is_open = on.is_open;
        same = on.same;
      } in
      subst (λ (c : DiskContext D P). GoesOn state F text start c is) (sym h.1) there
  went_on old new was is line on next (inr h) = record {
    entries = on.entries ++ h.0 ∷ [];
    read = read-entry F text on.entries was is line h.0 on.read next h.1.full h.1.is;
    taken = h.2.taken;
    is_open = h.2.is_open;
    same = same-trans start old new on.same h.2.same;
  }

  -- a line was taken
  pub took : (old new : DiskContext D P) (was is : LinesState) (line : Line) → (on : GoesOn state F text start old was)
      → IsNextLine was is line
      → TakesEntry state F on.entries line old new → ReadsLine state F text start was is new (Ok true)
  took old new was is line on next h = (
    went_on old new was is line on next h,
    next.counted
        ∙ next.number.0,
    omega (arith, next.counted, next.number.1),
  )

  -- a context that goes on ends with the line that comes, having committed what it did
  ends_here : (c : DiskContext D P) (was was' is : LinesState) (error : ContextError) (rest : List TreesData) (bad : Option BadLine)
      → (on : GoesOn state F text start c was)
      → GivesJust F text (on.entries ++ rest) bad → IsCause state (chunks c.cluster (on.entries ++ rest)) bad was' is c error
      → EndsEarly state F text start was' is c error
  ends_here c was was' is error rest bad on read cause = record {
    entries = on.entries ++ rest;
    bad = bad;
    read = read;
    same = on.same;
    committed = taken_first state on.entries rest c (omega (arith, on.is_open.room)) on.taken;
    cause = cause;
  }

  -- the same where no more entries come
  ends_bad : (c : DiskContext D P) (was is : LinesState) (line : ℕ) (kind : TextKind) → (on : GoesOn state F text start c was)
      → GivesJust F text on.entries (Some (record { line = line; kind = kind })) → EndsEarly state F text start was is c (Text line kind)
  ends_bad c was is line kind on read =
      ends_here c was was is (Text line kind) [] (Some (record { line = line; kind = kind })) on
      (subst (λ (l : List TreesData). GivesJust F text l (Some (record { line = line; kind = kind }))) (sym
      (append-nil on.entries)) read) (
        refl,
        subst (λ (l : List TreesData). take (length (ranges_of c.pass.own)) (chunks c.cluster l)
            ≡ whole_chunks c.cluster (chunks c.cluster l)) (sym (append-nil on.entries))
            (taken-whole state on.entries c on.is_open.room on.taken),
      )

  -- why a context wrote no more is why it ended
  cause_of : (IsSuch : List TreesData → Type 0) (all : List (List TreesData)) (bad : Option BadLine) (was is : LinesState)
      (c : DiskContext D P) (error : ContextError)
      → ((chunk : List TreesData) → IsSuch chunk → (length chunk ≡ c.cluster) ⊎ (bad ≡ None)) → IsHalt state IsSuch all c error
      → IsCause state all bad was is c error
  cause_of IsSuch all bad was is c (Text line kind) such h = absurd h
  cause_of IsSuch all bad was is c (Limit error) such h = (h.0, such h.0.chunk h.1)
  cause_of IsSuch all bad was is c Outside such h = inr h
  cause_of IsSuch all bad was is c Memory such h = tt

  -- a context that wrote no more of the chunks of these entries ends
  pub ends_halted : (IsSuch : List TreesData → Type 0) (old new : DiskContext D P) (was is : LinesState) (error : ContextError)
      (entries : List TreesData) (bad : Option BadLine)
      → ((chunk : List TreesData) → IsSuch chunk → (length chunk ≡ old.cluster) ⊎ (bad ≡ None)) → IsSameContext start old
      → GivesJust F text entries bad → Halts state IsSuch (chunks old.cluster entries) old new error → EndsEarly state F text
      start was is new error
  ends_halted IsSuch old new was is error entries bad such same read halts =
      let here : Halts state IsSuch (chunks new.cluster entries) old new error =
      subst (λ (n : ℕ). Halts state IsSuch (chunks n entries) old new error) (sym halts.same.cluster) halts in
      let still : (chunk : List TreesData) → IsSuch chunk → (length chunk ≡ new.cluster) ⊎ (bad ≡ None) =
      subst (λ (n : ℕ). (chunk : List TreesData) → IsSuch chunk → (length chunk ≡ n) ⊎ (bad ≡ None)) (sym halts.same.cluster) such in
      record {
        entries = entries;
        bad = bad;
        read = read;
        same = same-trans start old new same halts.same;
        committed = here.committed;
        cause = cause_of IsSuch (chunks new.cluster entries) bad was is new error still here.halt;
      }

  -- a line gave no entry
  none_taken : (c : DiskContext D P) (was is : LinesState) (line : Line) (error : ContextError) → (on : GoesOn state F text start c was)
      → IsNextLine was is line
      → TakesNone F line c c error → EndsEarly state F text start was is c error
  none_taken c was is line (Text number kind) on next none =
      ends_bad c was is number kind on
      (subst (λ (n : ℕ). GivesJust F text on.entries (Some (record { line = n; kind = kind }))) (sym none.why.0)
      (read-bad F text on.entries was is line kind on.read next none.full none.why.1))
  none_taken c was is line (Limit error) on next none = absurd none.why
  none_taken c was is line Outside on next none = absurd none.why
  none_taken c was is line Memory on next none =
      let ahead = read-ahead F text on.entries was on.read in ends_here c was was is Memory ahead.0 ahead.1 on ahead.2 tt

  -- a line was not taken
  pub not_taken : (old new : DiskContext D P) (was is : LinesState) (line : Line) (error : ContextError)
      → (on : GoesOn state F text start old was) → IsNextLine was is line
      → TakesTextLine state F on.entries line old new (Err error) → ReadsLine state F text start was is new (Err error)
  not_taken old new was is line error on next (inl none) =
      let here : TakesNone F line old old error = record { full = none.full; why = none.why; now = refl } in
      subst (λ (c : DiskContext D P). EndsEarly state F text start was is c error) (sym none.now)
      (none_taken old was is line error on next here)
  not_taken old new was is line error on next (inr h) =
      let read = read-entry F text on.entries was is line h.0 on.read next h.1.full h.1.is in
      let ahead = read-ahead F text (on.entries ++ h.0 ∷ []) is read in
      ends_halted (λ chunk. length chunk ≡ old.cluster) old new was is error ((on.entries ++ h.0 ∷ []) ++ ahead.0) ahead.1
      (λ chunk whole. inl whole) on.same ahead.2 (h.2 ahead.0)

  -- no line was given
  pub not_given : (c : DiskContext D P) (was is : LinesState) (error : LineError) → GoesOn state F text start c was
      → GivesLine was is (Err error)
      → ReadsLine state F text start was is c (Err (error_of_line error))
  not_given c was is given.Fault on h =
      let ahead = read-ahead F text on.entries was on.read in ends_here c was was is Outside ahead.0 ahead.1 on ahead.2 (inl h)
  not_given c was is (given.TooLong line) on h = ends_bad c was is line TooLong on
      (read-too_long F text on.entries was line on.read h.0 h.1)
  not_given c was is given.Memory on h =
      let ahead = read-ahead F text on.entries was on.read in ends_here c was was is Memory ahead.0 ahead.1 on ahead.2 tt

  -- the next line was not taken, or not given
  pub not_next : (old new : DiskContext D P) (was is : LinesState) (error : ContextError) → (on : GoesOn state F text start old was)
      → TakesNextLine state F on.entries was is old new (Err error) → ReadsLine state F text start was is new (Err error)
  not_next old new was is error on (inl h) = not_taken old new was is h.0 error on h.1 h.2
  not_next old new was is error on (inr h) =
      subst (λ (c : DiskContext D P). ReadsLine state F text start was is c (Err error)) (sym h.3)
      (subst (λ (e : ContextError). ReadsLine state F text start was is old (Err e)) (sym h.1) (not_given old was is h.0 on h.2))
