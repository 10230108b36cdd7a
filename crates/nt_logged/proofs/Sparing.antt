-- What the steps of a writer leave alone.
use Rattle.std.proofs.Common.{ℕ, zero, suc, ◌+◌, ◌≤◌, List, [], ◌∷◌, ◌++◌, length, subst}
use Rattle.std.proofs.Common.{inl, inr, arith, Option, Some}
use Rattle.std.specs.Prelude.{Contains}
use Rattle.std.specs.List.{AllByRecursion}
use Rattle.nt_outside.specs.Log.{Step, Write, FailedWrite, Append, FailedAppend, Reserve, Settle, Sync}
use Rattle.nt_machine.specs.Spans.{Span}
use Rattle.nt_machine.proofs.Histories.{AllByRecursion-append}
use Rattle.nt_logged.specs.Stands.{IsBeside, StandOnceSettled}
use Rattle.nt_logged.specs.Tails.{range_steps, end_after_step, end_after_steps, with_reserved, with_all_reserved, IsTailStep, IsTail}
use Rattle.nt_logged.specs.Stands.{LieApart}
use Rattle.nt_logged.specs.Spares.{SparesPlace}

pub all_among : {A : Type 0} (P : A → Type 0) (xs : List A) (x : A) → AllByRecursion P xs → Contains xs x → P x
all_among P [] x all (k, less, at) = absurd (omega (arith, less))
all_among P (y ∷ ys) x all (zero, less, at) = subst P at all.0
all_among P (y ∷ ys) x all (suc k, less, at) = all_among P ys x all.1 (k, omega (arith, less), at)

-- all reserved ranges lie beside a place
abbrev pub AreApart : ℕ → ℕ → List Span → Type 0
AreApart at n spans = AllByRecursion (λ (s : Span). LieApart at n s.start s.len) spans

-- and end within the file
abbrev pub AreInside : ℕ → List Span → Type 0
AreInside end spans = AllByRecursion (λ (s : Span). s.start + s.len ≤ end) spans

pub inside-later : (end more : ℕ) (spans : List Span) → end ≤ more → AreInside end spans → AreInside more spans
inside-later end more [] le h = tt
inside-later end more (s ∷ spans) le h = (omega (arith, le, h.0), inside-later end more spans le h.1)

pub inside-step : (end : ℕ) (spans : List Span) (step : Step) → IsTailStep end spans step → AreInside end spans
    → AreInside (end_after_step end step) (with_reserved spans step)
inside-step end spans (Write at bytes) is h = absurd is
inside-step end spans (FailedWrite at bytes) is h = absurd is
inside-step end spans (Append bytes) is h = inside-later end (end + length bytes) spans (omega arith) h
inside-step end spans (FailedAppend len) is h = inside-later end (end + len) spans (omega arith) h
inside-step end spans (Reserve start len) is h =
    AllByRecursion-append (λ (s : Span). s.start + s.len ≤ end + len) spans (record { start = start; len = len } ∷ [])
    (inside-later end (end + len) spans (omega arith) h) (omega (arith, is), tt)
inside-step end spans (Settle start len bytes) is h = h
inside-step end spans Sync is h = absurd is

pub inside-steps : (end : ℕ) (spans : List Span) (steps : List Step) → IsTail end spans steps → AreInside end spans
    → AreInside (end_after_steps end steps) (with_all_reserved spans steps)
inside-steps end spans [] is h = h
inside-steps end spans (step ∷ steps) is h =
    inside-steps (end_after_step end step) (with_reserved spans step) steps is.1 (inside-step end spans step is.0 h)

-- the steps behind others
pub tail-split : (end : ℕ) (spans : List Span) (before after : List Step) → IsTail end spans (before ++ after)
    → IsTail end spans before × IsTail (end_after_steps end before) (with_all_reserved spans before) after
tail-split end spans [] after is = (tt, is)
tail-split end spans (step ∷ before) after is =
    let rest = tail-split (end_after_step end step) (with_reserved spans step) before after is.1 in
    ((is.0, rest.0), rest.1)

-- places below the end that lie beside all reserved ranges are spared
pub spares_all : (at n end : ℕ) (spans : List Span) (steps : List Step) → at + n ≤ end → AreApart at n spans → IsTail end spans steps
    → AllByRecursion (SparesPlace at n) steps
spares_all at n end spans [] low apart is = tt
spares_all at n end spans (Write place bytes ∷ steps) low apart is = absurd is.0
spares_all at n end spans (FailedWrite place bytes ∷ steps) low apart is = absurd is.0
spares_all at n end spans (Append bytes ∷ steps) low apart is =
    (tt, spares_all at n (end + length bytes) spans steps (omega (arith, low)) apart is.1)
spares_all at n end spans (FailedAppend len ∷ steps) low apart is =
    (tt, spares_all at n (end + len) spans steps (omega (arith, low)) apart is.1)
spares_all at n end spans (Reserve start len ∷ steps) low apart is = (
  tt,
  spares_all at n (end + len) (spans ++ record { start = start; len = len } ∷ []) steps (omega (arith, low))
      (AllByRecursion-append (λ (s : Span). LieApart at n s.start s.len) spans (record { start = start; len = len } ∷ []) apart
      (inl (omega (arith, low, is.0)), tt)) is.1,
)
spares_all at n end spans (Settle start len bytes ∷ steps) low apart is = (
  all_among (λ (s : Span). LieApart at n s.start s.len) spans (record { start = start; len = len }) apart is.0.0,
  spares_all at n end spans steps low apart is.1,
)
spares_all at n end spans (Sync ∷ steps) low apart is = absurd is.0

-- ranges within the file lie beside what stands behind it
pub apart-behind : (end n : ℕ) (spans : List Span) → AreInside end spans → AreApart end n spans
apart-behind end n [] h = tt
apart-behind end n (s ∷ spans) h = (inr h.0, apart-behind end n spans h.1)

-- what was handed back is spared, if no later step of a range covers it
pub spared_settled : (start len end : ℕ) (spans : List Span) (steps : List Step) → IsTail end spans steps
    → AllByRecursion (IsBeside start len) (range_steps steps) → AllByRecursion (SparesPlace start len) steps
spared_settled start len end spans [] is h = tt
spared_settled start len end spans (Write place bytes ∷ steps) is h = absurd is.0
spared_settled start len end spans (FailedWrite place bytes ∷ steps) is h = absurd is.0
spared_settled start len end spans (Append bytes ∷ steps) is h =
    (tt, spared_settled start len (end + length bytes) spans steps is.1 h)
spared_settled start len end spans (FailedAppend more ∷ steps) is h =
    (tt, spared_settled start len (end + more) spans steps is.1 h)
spared_settled start len end spans (Reserve place more ∷ steps) is h =
    (tt, spared_settled start len (end + more) (spans ++ record { start = place; len = more } ∷ []) steps is.1 h.1)
spared_settled start len end spans (Settle place more bytes ∷ steps) is h =
    (h.0, spared_settled start len end spans steps is.1 h.1)
spared_settled start len end spans (Sync ∷ steps) is h = absurd is.0

-- of the steps behind a range that was handed back
pub stand_behind : (end : ℕ) (spans : List Span) (before after : List Step) (start len : ℕ) (bytes : Option (List ℕ))
    → IsTail end spans before → StandOnceSettled (range_steps (before ++ Settle start len bytes ∷ after))
    → AllByRecursion (IsBeside start len) (range_steps after)
stand_behind end spans [] after start len bytes is h = h.0
stand_behind end spans (Write place more ∷ before) after start len bytes is h = absurd is.0
stand_behind end spans (FailedWrite place more ∷ before) after start len bytes is h = absurd is.0
stand_behind end spans (Append more ∷ before) after start len bytes is h =
    stand_behind (end + length more) spans before after start len bytes is.1 h
stand_behind end spans (FailedAppend more ∷ before) after start len bytes is h =
    stand_behind (end + more) spans before after start len bytes is.1 h
stand_behind end spans (Reserve place more ∷ before) after start len bytes is h =
    stand_behind (end + more) (spans ++ record { start = place; len = more } ∷ []) before after start len bytes is.1 h.1
stand_behind end spans (Settle place more told ∷ before) after start len bytes is h =
    stand_behind end spans before after start len bytes is.1 h.1
stand_behind end spans (Sync ∷ before) after start len bytes is h = absurd is.0

pub settled_spared : (place : ℕ) (before after : List Step) (start len : ℕ) (bytes : List ℕ)
    → IsTail place [] (before ++ Settle start len (Some bytes) ∷ after)
    → StandOnceSettled (range_steps (before ++ Settle start len (Some bytes) ∷ after)) → AllByRecursion (SparesPlace start len) after
settled_spared place before after start len bytes is h =
    let split = tail-split place [] before (Settle start len (Some bytes) ∷ after) is in
    spared_settled start len (end_after_steps place before) (with_all_reserved [] before) after split.1.1
    (stand_behind place [] before after start len (Some bytes) split.0 h)

pub appended_spared : (place : ℕ) (before after : List Step) (bytes : List ℕ) → IsTail place [] (before ++ Append bytes ∷ after)
    → AllByRecursion (SparesPlace (end_after_steps place before) (length bytes)) after
appended_spared place before after bytes is =
    let split = tail-split place [] before (Append bytes ∷ after) is in
    let end = end_after_steps place before in
    spares_all end (length bytes) (end + length bytes) (with_all_reserved [] before) after (omega arith)
    (apart-behind end (length bytes) (with_all_reserved [] before) (inside-steps place [] before split.0 tt)) split.1.1

pub front_spared : (place : ℕ) (steps : List Step) → IsTail place [] steps → AllByRecursion (SparesPlace 0 place) steps
front_spared place steps is = spares_all 0 place place [] steps (omega arith) tt is
