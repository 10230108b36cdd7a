-- What the writing of events that are made leaves on a disk.
use Rattle.std.proofs.Common.{◌≡◌, ◌⊎◌, inl, inr, sym, subst, refl, ℕ, ◌<◌, List, [], Option, Some, Result, Ok, Err}
use Rattle.std.specs.Prelude.{IsErrOf}
use Rattle.nt_types.specs.ShapeData.{MemberData}
use Rattle.nt_outside.specs.Source.{SourceState}
use Rattle.nt_outside.specs.Log.{Step}
use Rattle.nt_outside.specs.Held.{Held, nothing_held}
use Rattle.nt_outside.specs.Disk.{DiskState}
use Rattle.nt_grammar.specs.Table.{Table}
use Rattle.nt_book.specs.declared.params.Params.{Params}
use Rattle.nt_book.specs.Books.{BookData}
use Rattle.nt_cuts.specs.Cuts.{LeavesUnfinished, LeavesUnfinishedOr}
use Rattle.nt_contexts.specs.Contexts.{TellTexts}
use Rattle.nt_dealing.specs.Dealt.{commit_order}
use Rattle.nt_draws.specs.declared.making.Making.{Making}
use Rattle.nt_draws.specs.Events.{event_fields}
use Rattle.nt_store.specs.declared.error.StoreError.{StoreError}
use Rattle.nt_store.specs.declared.error.StoreError.TheVariants as store
use Rattle.nt_store.specs.Whole.{IsStored}
use Rattle.nt_store.specs.Crashes.{CrashLeaves}
use Rattle.nt_store.specs.Filling.{WhyUnfilled, FillLeaves, FillsFile, IsOfNoText, CloseLeaves, ClosesFile}
use Rattle.nt_store.proofs.Begun.{shut_open}
use Rattle.nt_store.proofs.Crashing.{or_as}
use Rattle.nt_store.proofs.Sound.{not_sound}
use Rattle.nt_store.proofs.Answered.{err_why, err_left}
use Rattle.nt_store.specs.Worlds.{SomeFailed}
use Rattle.nt_generate.specs.declared.error.GenerateError.{GenerateError}
use Rattle.nt_generate.specs.declared.error.GenerateError.TheVariants.{Outside, Memory, Limit, Defect}
use Rattle.nt_generate.specs.Errors.{generate_unwritten}
use Rattle.nt_generate.specs.Made.{made_texts, IsMade, MadeAreRead}
use Rattle.nt_generate.specs.Writing.{WriteLeaves, MadeCrash, WritesMade, ClosesMade}
use Rattle.nt_generate.proofs.Stored.{made_stored, made_passes}

-- what is unfinished is left, whatever else may be
or_unfinished : (P : List ℕ → Type 0) (log : List Step) → LeavesUnfinished log → LeavesUnfinishedOr P log
or_unfinished P log leaves = λ k bytes has may. inl (leaves k bytes has may)

pub crash_open : (V : Type 0) (P : List ℕ → Type 0) (log : List Step) (e : GenerateError) → LeavesUnfinished log
    → MadeCrash {V = V} P log (Err e)
crash_open V P log Outside leaves = or_unfinished P log leaves
crash_open V P log Memory leaves = or_unfinished P log leaves
crash_open V P log (Limit reached most) leaves = leaves
crash_open V P log (Defect e) leaves = or_unfinished P log leaves

-- an error is a failure only where this one is
unwritten_outside : {V : Type 0} (e : StoreError) → IsOfNoText e → IsErrOf {T = V} (Err (generate_unwritten e)) Outside
    → IsErrOf {T = Unit {0}} (Err e) store.Outside
unwritten_outside store.Outside none is = refl
unwritten_outside store.Memory none is = absurd (cc is)
unwritten_outside (store.Limit reached most) none is = absurd (cc is)
unwritten_outside (store.Schema line kind) none is = absurd none
unwritten_outside (store.Line input line kind) none is = absurd none

-- the texts that are made are no reason
pub of_no_text : (T : Type 0) (p : Params) (m : Making) (e : StoreError) → MadeAreRead m
    → WhyUnfilled {T = T} event_fields p (made_texts m) (Err e) → IsOfNoText e
of_no_text T p m store.Outside read why = tt
of_no_text T p m store.Memory read why = tt
of_no_text T p m (store.Limit reached most) read why = tt
of_no_text T p m (store.Schema line kind) read why = why
of_no_text T p m (store.Line input line kind) read why = not_sound event_fields (made_texts m) input line kind read.sound why.fails.first

module _ {V : Type 0} (order : V → List ℕ) (p : Params) (m : Making) (read : MadeAreRead m) where
  -- why it isn't filled, and what is left then
  pub unfilled_leaves : (T : Type 0) (commits : List ℕ) (e : StoreError) (held : Option Held)
      → WhyUnfilled {T = T} event_fields p (made_texts m) (Err e) → FillLeaves event_fields p (made_texts m) held (Err e)
      → WriteLeaves order p m commits held (Err (generate_unwritten e))
  unfilled_leaves T commits store.Outside held why (h, is, inl begins) = (h, is, inl begins)
  unfilled_leaves T commits store.Outside held why (h, is, inr never) = (h, is, inr (inl never))
  unfilled_leaves T commits store.Memory held why left = left
  unfilled_leaves T commits (store.Limit reached most) held why left = (made_passes p m read reached most why, left)
  unfilled_leaves T commits (store.Schema line kind) held why left = absurd why
  unfilled_leaves T commits (store.Line input line kind) held why left =
      absurd (not_sound event_fields (made_texts m) input line kind read.sound why.fails.first)

  module _ (t : Table) (book : BookData) (old new : DiskState) where
    turn : (bytes : List ℕ) → IsStored p event_fields (made_texts m) (commit_order book) bytes
        → IsMade p m (commit_order book) bytes
    turn bytes stored = made_stored p m read (commit_order book) bytes stored

    -- it is closed
    pub closed_made : (made : V) → order made ≡ commit_order book → ClosesFile t p book old new (Ok tt)
        → ClosesMade order t p m book old new (Ok made)
    closed_made made order-is closes = record {
      left = λ h is filled.
          let left = closes.left event_fields (made_texts m) h is filled in
          let crash = closes.crash event_fields (made_texts m) h is filled in (
            (order-is, (left.0, left.1, (turn left.0.image left.2.0, left.2.1))),
            (crash.0, crash.1, (or_as _ _ crash.0.log turn crash.2.0, λ bytes may. turn bytes (crash.2.1 bytes may))),
          );
      order_kept = closes.order;
      failed = λ is. absurd (cc is);
    }

    unclosed_leaves : (e : StoreError) → CloseLeaves event_fields p (made_texts m) (commit_order book) new.held (Err e)
        → WriteLeaves order p m (commit_order book) new.held (Err (generate_unwritten e))
    unclosed_leaves store.Outside (h, is, inl begins) = (h, is, inl begins)
    unclosed_leaves store.Outside (h, is, inr stored) = (h, is, inr (inr (turn h.image stored.0, stored.1)))
    unclosed_leaves store.Memory left = left
    unclosed_leaves (store.Limit reached most) (passes, left) = (made_passes p m read reached most passes, left)
    unclosed_leaves (store.Schema line kind) left = absurd left
    unclosed_leaves (store.Line input line kind) left = absurd left

    unclosed_crash : (e : StoreError) (log : List Step)
        → CrashLeaves (IsStored p event_fields (made_texts m) (commit_order book)) log (Err e) → IsOfNoText e
        → MadeCrash {V = V} (IsMade p m (commit_order book)) log (Err (generate_unwritten e))
    unclosed_crash store.Outside log leaves none = or_as _ _ log turn leaves
    unclosed_crash store.Memory log leaves none = or_unfinished (IsMade p m (commit_order book)) log leaves
    unclosed_crash (store.Limit reached most) log leaves none = leaves
    unclosed_crash (store.Schema line kind) log leaves none = absurd none
    unclosed_crash (store.Line input line kind) log leaves none = absurd none

    -- or it isn't
    pub unclosed_made : (e : StoreError) → ClosesFile t p book old new (Err e)
        → ClosesMade order t p m book old new (Err (generate_unwritten e))
    unclosed_made e closes = record {
      left = λ h is filled.
          let crash = closes.crash event_fields (made_texts m) h is filled in (
            unclosed_leaves e (closes.left event_fields (made_texts m) h is filled),
            (crash.0, crash.1, unclosed_crash e crash.0.log crash.2 closes.no_text),
          );
      order_kept = closes.order;
      failed = λ is. closes.failed (unwritten_outside {V = V} e closes.no_text is);
    }

-- memory is wanting for its order
pub unordered_made : {V : Type 0} (order : V → List ℕ) (p : Params) (m : Making) (t : Table) (book : BookData) (old new : DiskState)
    → new ≡ old → ClosesMade order t p m book old new (Err Memory)
unordered_made order p m t book old new same = record {
  left = λ h is filled. (
    (h, held_same h is, shut_open h.image filled.shut),
    (h, held_same h is, or_unfinished (IsMade p m (commit_order book)) h.log filled.unfinished),
  );
  order_kept = λ h is. (h, held_same h is, λ shut kept. kept);
  failed = λ is. absurd (cc is);
}
  where
    held_same : (h : Held) → old.held ≡ Some h → new.held ≡ Some h
    held_same h is = subst (λ (d : DiskState). d.held ≡ Some h) (sym same) is

-- where the sources of a file didn't fail, its disk did
pub unfilled_failed : {V T : Type 0} (e : StoreError) (faults : ℕ) (failed : Type 0) → (failed → ⊥) → IsOfNoText e
    → (IsErrOf {T = T} (Err e) store.Outside → (0 < faults) ⊎ failed) → IsErrOf {T = V} (Err (generate_unwritten e)) Outside → 0 < faults
unfilled_failed {V} store.Outside faults failed none text fails is = elim (fails refl) [ inl some ↦ some | inr bad ↦ absurd (none bad) ]
unfilled_failed store.Memory faults failed none text fails is = absurd (cc is)
unfilled_failed (store.Limit reached most) faults failed none text fails is = absurd (cc is)
unfilled_failed (store.Schema line kind) faults failed none text fails is = absurd text
unfilled_failed (store.Line input line kind) faults failed none text fails is = absurd text

-- what is said of the fields is said of these
pub fills_made : (fields : List MemberData) (p : Params) (begun : Held) (sources sources' : List SourceState) (old new : DiskState)
    (r : Result (BookData × Table) StoreError) → fields ≡ event_fields → FillsFile fields p begun sources sources' old new r
    → FillsFile event_fields p begun sources sources' old new r
fills_made fields p begun sources sources' old new r is fills =
    subst (λ (f : List MemberData). FillsFile f p begun sources sources' old new r) is fills

-- and of an answer that is this error of it
pub err_fails : (X : Type 0) (r : Result (BookData × Table) StoreError) (e : StoreError) → r ≡ Err e → (IsErrOf r store.Outside → X)
    → IsErrOf {T = BookData × Table} (Err e) store.Outside → X
err_fails X r e is fails outside =
    fails (subst (λ (o : Result (BookData × Table) StoreError). IsErrOf o store.Outside) (sym is) outside)

-- a file that isn't filled
pub unfilled_made : {V : Type 0} (order : V → List ℕ) (p : Params) (m : Making) (e : StoreError) (r : Result (BookData × Table) StoreError)
    (sources sources' : List SourceState) (old new : DiskState) → MadeAreRead m → r ≡ Err e
    → FillsFile event_fields p nothing_held sources sources' old new r → TellTexts sources (made_texts m) → (SomeFailed sources' → ⊥)
    → WritesMade order p m old new (Err (generate_unwritten e))
unfilled_made {V} order p m e r sources sources' old new read is fills texts none =
    let why = err_why event_fields p (made_texts m) r e is (fills.why (made_texts m) texts) in
    record {
      commits = [];
      left = λ held.
          unfilled_leaves order p m read (Unit {0}) [] e new.held why
          (err_left event_fields p (made_texts m) new.held r e is (fills.left (made_texts m) texts held));
      order_kept = fills.order;
      crash = λ held.
          let left = fills.crash held in
          (left.0, left.1, crash_open V (IsMade p m []) left.0.log (generate_unwritten e) left.2);
      failed =
          unfilled_failed e new.faults (SomeFailed sources') none (of_no_text (Unit {0}) p m e read why)
          (err_fails ((0 < new.faults) ⊎ SomeFailed sources') r e is fills.failed);
    }
