-- A file that is begun, and what the ranges of contexts leave of it.
use Rattle.std.proofs.Common.{◌≡◌, inl, inr, ap, sym, subst, refl, ℕ, suc, ◌+◌, ◌<◌, List, [], ◌∷◌, ◌++◌, length, take, drop, map}
use Rattle.std.proofs.Common.{◌∙◌, append_assoc, arith}
use Rattle.std.specs.List.{AllByRecursion}
use Rattle.std.proofs.lemmas.List.{append-nil, length-append, length-map, length-take, map-append}
use Rattle.nt_lists.specs.Places.{put_at}
use Rattle.nt_outside.specs.Log.{Step, Write, FailedWrite, Append, FailedAppend, Reserve, Settle, Sync}
use Rattle.nt_outside.specs.Held.{Held}
use Rattle.nt_outside.specs.Order.{BeginsOpen, MayAllFollow, FirstByteLast}
use Rattle.nt_outside.specs.Reads.{Known, exactly, settled, unknown, after_step, known_from, known_of, IsKnown}
use Rattle.nt_container.specs.Spelling.{begun}
use Rattle.nt_grammar.specs.Table.{Table}
use Rattle.nt_machine.specs.Spans.{Span}
use Rattle.nt_machine.specs.Told.{DiskStep, ReserveRange, SettleRange, IsFrom, log_of}
use Rattle.nt_machine.proofs.Standing.{starts}
use Rattle.nt_logged.specs.Stands.{IsBehind}
use Rattle.nt_logged.specs.Steps.{logged_step}
use Rattle.nt_logged.specs.Tails.{range_steps, IsTail}
use Rattle.nt_layout.specs.Headers.{header_blob}
use Rattle.nt_close.specs.Steps.{begun_whole}
use Rattle.nt_close.specs.Laws.{IsShut}
use Rattle.nt_close.proofs.FirstByte.{begins_shut}
use Rattle.nt_dealing.specs.Dealt.{FillsBehind}
use Rattle.nt_store.specs.Writing.{as_begun}

-- each byte of a file that is begun is told
pub begun_known : (t : Table) → IsKnown (as_begun t).log (as_begun t).image
begun_known t = sym (map-append exactly (begun 0 0 0) (header_blob t))

no_failed_append : (t : Table) (n : ℕ) → (as_begun t).log ≡ FailedAppend n ∷ [] → ⊥
no_failed_append t n is = cc

-- its first byte is 0
begun_shut : (t : Table) → IsShut (as_begun t).image
begun_shut t = elim (begins_shut (header_blob t) (as_begun t) (begun_whole refl)) [
  | inl shut ↦ shut
  | inr torn ↦ absurd (no_failed_append t torn.0 torn.1)
]

shut_begins : (rest image : List ℕ) → take (suc (length rest)) image ≡ 0 ∷ rest → IsShut image
shut_begins rest [] front = absurd (cc front)
shut_begins rest (byte ∷ image) front =
    let zero-is : byte ≡ 0 = cc in
    (image, ap (λ (b : ℕ). b ∷ image) zero-is)

-- so is that of a file with the same front
shut_front : (front image : List ℕ) → IsShut front → take (length front) image ≡ front → IsShut image
shut_front front image shut same =
    shut_begins shut.0 image (subst (λ (l : List ℕ). take (length l) image ≡ l) shut.1 same)

-- and then it can't pass for finished
pub shut_open : (image : List ℕ) → IsShut image → BeginsOpen image
shut_open image shut = subst BeginsOpen (sym shut.1) refl

-- bytes behind a file that is shut
pub some_shut : (image : List ℕ) → IsShut image → 0 < length image
some_shut image shut = subst (λ (l : List ℕ). 0 < length l) (sym shut.1) (omega arith)

-- and of a file that is begun some are told
pub begun_some : (t : Table) → 0 < length (known_of (as_begun t).log)
begun_some t =
    let long = ap (λ (l : List Known). length l) (begun_known t) ∙ length-map (as_begun t).image exactly in
    omega (arith, long, some_shut (as_begun t).image (begun_shut t))

-- the ranges of contexts leave the front of a file that is begun
pub filled_shut : (t : Table) (begin : ℕ) (new : Held) → FillsBehind begin (as_begun t) new → IsShut new.image
filled_shut t begin new fills = shut_front (as_begun t).image new.image (begun_shut t) (fills.front (begun_known t))

ranges_behind : (place : ℕ) (log : List DiskStep) → IsFrom place log → AllByRecursion (IsBehind place) (map logged_step log)
ranges_behind place [] from = tt
ranges_behind place (ReserveRange start len ∷ log) from = (from.0, ranges_behind place log from.1)
ranges_behind place (SettleRange start len bytes ∷ log) from = (from.0, ranges_behind place log from.1)

known-push : (log : List Step) (known : List Known) (step : Step)
    → known_from known (log ++ step ∷ []) ≡ after_step (known_from known log) step
known-push [] known step = refl
known-push (s ∷ log) known step = known-push log (after_step known s) step

-- bytes that are told of stay told of when more come behind them, or others in the place of those behind the first
some-behind : (known more : List Known) → 0 < length known → 0 < length (known ++ more)
some-behind known more some = omega (arith, some, length-append known more)

some-put : (known items : List Known) (at : ℕ) → 0 < at → 0 < length known → 0 < length (put_at known at items)
some-put known items at behind some =
    let long : length (put_at known at items) ≡ length (take at known ++ items) + length (drop (at + length items) known) =
    length-append (take at known ++ items) (drop (at + length items) known) in
    omega (arith, behind, some, long, length-append (take at known) items, length-take at known)

-- steps of a writer on a file that has bytes
tail_follows : (before : List Step) (place end : ℕ) (spans : List Span) (steps : List Step) → 0 < place
    → 0 < length (known_of before) → IsTail end spans steps
    → AllByRecursion (IsBehind place) (range_steps steps) → MayAllFollow before steps
tail_follows before place end spans [] some told is behind = tt
tail_follows before place end spans (Write at bytes ∷ steps) some told is behind = absurd is.0
tail_follows before place end spans (FailedWrite at bytes ∷ steps) some told is behind = absurd is.0
tail_follows before place end spans (Append bytes ∷ steps) some told is behind = (
  λ none. absurd (omega (arith, told, ap (λ (l : List Known). length l) none)),
  tail_follows (before ++ Append bytes ∷ []) place (end + length bytes) spans steps some
      (subst (λ (l : List Known). 0 < length l) (sym (known-push before [] (Append bytes)))
      (some-behind (known_of before) (map exactly bytes) told)) is.1 behind,
)
tail_follows before place end spans (FailedAppend len ∷ steps) some told is behind = (
  tt,
  tail_follows (before ++ FailedAppend len ∷ []) place (end + len) spans steps some
      (subst (λ (l : List Known). 0 < length l) (sym (known-push before [] (FailedAppend len)))
      (some-behind (known_of before) (unknown len) told)) is.1 behind,
)
tail_follows before place end spans (Reserve start len ∷ steps) some told is behind = (
  λ first. absurd (omega (arith, some, behind.0, first)),
  tail_follows (before ++ Reserve start len ∷ []) place (end + len) (spans ++ record { start = start; len = len } ∷ []) steps some
      (subst (λ (l : List Known). 0 < length l) (sym (known-push before [] (Reserve start len)))
      (some-behind (known_of before) (unknown len) told)) is.1 behind.1,
)
tail_follows before place end spans (Settle start len bytes ∷ steps) some told is behind = (
  λ first. absurd (omega (arith, some, behind.0, first)),
  tail_follows (before ++ Settle start len bytes ∷ []) place end spans steps some
      (subst (λ (l : List Known). 0 < length l) (sym (known-push before [] (Settle start len bytes)))
      (some-put (known_of before) (settled len bytes) start (omega (arith, some, behind.0)) told)) is.1 behind.1,
)
tail_follows before place end spans (Sync ∷ steps) some told is behind = absurd is.0

all_follow : (before log more : List Step) → MayAllFollow before log → MayAllFollow (before ++ log) more → MayAllFollow before (log ++ more)
all_follow before [] more first next = subst (λ (l : List Step). MayAllFollow l more) (append-nil before) next
all_follow before (step ∷ log) more first next = (
  first.0,
  all_follow (before ++ step ∷ []) log more first.1 (subst (λ (l : List Step). MayAllFollow l more) (sym (append_assoc before
      (step ∷ []) log)) next),
)

-- ranges and page lists behind the first byte keep the order of the steps
pub filled_order : (begin : ℕ) (old new : Held) → 0 < begin → 0 < length (known_of old.log) → FillsBehind begin old new
    → FirstByteLast old.log → FirstByteLast new.log
filled_order begin old new some told fills order =
    let logged = fills.gains.is_log in
    subst FirstByteLast (sym fills.gains.log)
    (all_follow [] old.log fills.gains.steps order
    (tail_follows old.log begin begin [] fills.gains.steps some told logged.tail
    (subst (λ (l : List Step). AllByRecursion (IsBehind begin) l) (sym logged.ranges)
    (ranges_behind begin (log_of fills.history) (starts begin fills.history fills.legal)))))
