-- What is read where the steps of a writer cover nothing.
use Rattle.std.proofs.Common.{◌≡◌, ◌∙◌, ap, sym, refl, subst, ℕ, zero, suc, ◌+◌, ◌≤◌, ◌==◌, Bool, true, false, List, [], ◌∷◌, ◌++◌}
use Rattle.std.proofs.Common.{length, map}
use Rattle.std.proofs.Common.{take, drop, Option, Some, None, eqb-true, arith}
use Rattle.std.specs.Prelude.{◌&&◌, ◌||◌}
use Rattle.std.specs.List.{AllByRecursion}
use Rattle.std.proofs.lemmas.List.{length-append, length-map, length-replicate}
use Rattle.nt_lists.specs.Places.{put_at}
use Rattle.nt_lists.proofs.Places.{put_at-there}
use Rattle.nt_outside.specs.Log.{Step, Write, FailedWrite, Append, FailedAppend, Reserve, Settle, Sync}
use Rattle.nt_outside.specs.Reads.{Known, exactly, settled, unknown, allows, all_allowed, after_step, known_from, known_of, Reads, IsKnown}
use Rattle.nt_machine.specs.Spans.{Span}
use Rattle.nt_machine.specs.Legal.{AreAsLong}
use Rattle.nt_logged.specs.Stands.{StandOnceSettled}
use Rattle.nt_logged.specs.Tails.{range_steps, end_after_step, end_after_steps, with_reserved, with_all_reserved, IsTailStep, IsTail}
use Rattle.nt_lists.specs.Parts.{StandAt}
use Rattle.nt_logged.specs.Stands.{LieApart}
use Rattle.nt_logged.specs.Spares.{SparesPlace}
use Rattle.nt_logged.proofs.Pieces.{piece_front, piece_beside, length-put}
use Rattle.nt_logged.proofs.Sparing.{all_among, AreInside, inside-step, inside-steps, tail-split, settled_spared, appended_spared}
use Rattle.nt_logged.proofs.Sparing.{front_spared}

-- ---- what is known at a place

length-settled : (len : ℕ) (bytes : Option (List ℕ)) → AreAsLong bytes len → length (settled len bytes) ≡ len
length-settled len None is = length-replicate {A = Known} len _
length-settled len (Some bytes) is = length-map bytes exactly ∙ is

-- the bytes at a place are known to be these
pub record TellsAt (known : List Known) (at : ℕ) (bytes : List ℕ) : Type 0 where
  pub inside : at + length bytes ≤ length known
  pub are : take (length bytes) (drop at known) ≡ map exactly bytes

range_inside : (end start len : ℕ) (spans : List Span) (bytes : Option (List ℕ)) → AreInside end spans
    → IsTailStep end spans (Settle start len bytes)
    → start + len ≤ end
range_inside end start len spans bytes inside is =
    all_among (λ (s : Span). s.start + s.len ≤ end) spans (record { start = start; len = len }) inside is.0

known-length : (end : ℕ) (spans : List Span) (known : List Known) (step : Step) → AreInside end spans → IsTailStep end spans step
    → length known ≡ end
    → length (after_step known step) ≡ end_after_step end step
known-length end spans known (Write at bytes) inside is long = absurd is
known-length end spans known (FailedWrite at bytes) inside is long = absurd is
known-length end spans known (Append bytes) inside is long =
    omega (arith, long, length-append known (map exactly bytes), length-map bytes exactly)
known-length end spans known (FailedAppend len) inside is long =
    omega (arith, long, length-append known (unknown len), length-replicate {A = Known} len Known.Anything)
known-length end spans known (Reserve start len) inside is long =
    omega (arith, long, length-append known (unknown len), length-replicate {A = Known} len Known.Anything)
known-length end spans known (Settle start len bytes) inside is long =
    let wide = length-settled len bytes is.1 in
    let low = range_inside end start len spans bytes inside is in
    length-put known (settled len bytes) start (omega (arith, wide, low, long)) ∙ long
known-length end spans known Sync inside is long = absurd is

tells-grown : (known more : List Known) (at : ℕ) (bytes : List ℕ) → TellsAt known at bytes → TellsAt (known ++ more) at bytes
tells-grown known more at bytes tells = record {
  inside = let low = tells.inside in omega (arith, low, length-append known more);
  are = piece_front at (length bytes) known more tells.inside ∙ tells.are;
}

tells-step : (end : ℕ) (spans : List Span) (known : List Known) (step : Step) (at : ℕ) (bytes : List ℕ) → AreInside end spans
    → IsTailStep end spans step → length known ≡ end → SparesPlace at (length bytes) step
    → TellsAt known at bytes → TellsAt (after_step known step) at bytes
tells-step end spans known (Write place more) at bytes inside is long spares tells = absurd is
tells-step end spans known (FailedWrite place more) at bytes inside is long spares tells = absurd is
tells-step end spans known (Append more) at bytes inside is long spares tells = tells-grown known (map exactly more) at bytes tells
tells-step end spans known (FailedAppend len) at bytes inside is long spares tells = tells-grown known (unknown len) at bytes tells
tells-step end spans known (Reserve start len) at bytes inside is long spares tells = tells-grown known (unknown len) at bytes tells
tells-step end spans known (Settle start len told) at bytes inside is long spares tells =
    let wide = length-settled len told is.1 in
    let low = range_inside end start len spans told inside is in
    let within : start + length (settled len told) ≤ length known = omega (arith, wide, low, long) in
    let apart : LieApart at (length bytes) start (length (settled len told)) =
    subst (λ (n : ℕ). LieApart at (length bytes) start n) (sym wide) spares in
    record {
      inside = let first = tells.inside in omega (arith, first, length-put known (settled len told) start within);
      are = piece_beside at (length bytes) start known (settled len told) within apart ∙ tells.are;
    }
tells-step end spans known Sync at bytes inside is long spares tells = absurd is

tells-steps : (end : ℕ) (spans : List Span) (known : List Known) (steps : List Step) (at : ℕ) (bytes : List ℕ) → AreInside end spans
    → IsTail end spans steps → length known ≡ end → AllByRecursion (SparesPlace at (length bytes)) steps
    → TellsAt known at bytes → TellsAt (known_from known steps) at bytes
tells-steps end spans known [] at bytes inside is long spares tells = tells
tells-steps end spans known (step ∷ steps) at bytes inside is long spares tells =
    tells-steps (end_after_step end step) (with_reserved spans step) (after_step known step) steps at bytes
    (inside-step end spans step is.0 inside) is.1 (known-length end spans known step inside is.0 long) spares.1
    (tells-step end spans known step at bytes inside is.0 long spares.0 tells)

pub length-steps : (end : ℕ) (spans : List Span) (known : List Known) (steps : List Step) → AreInside end spans → IsTail end spans steps
    → length known ≡ end → length (known_from known steps) ≡ end_after_steps end steps
length-steps end spans known [] inside is long = long
length-steps end spans known (step ∷ steps) inside is long =
    length-steps (end_after_step end step) (with_reserved spans step) (after_step known step) steps (inside-step end spans step is.0 inside)
    is.1 (known-length end spans known step inside is.0 long)

-- ---- what is read

and_parts : (a b : Bool) → (a && b) ≡ true → (a ≡ true) × (b ≡ true)
and_parts true b h = (refl, h)
and_parts false b h = cc

or_none : (a : Bool) → (a || false) ≡ true → a ≡ true
or_none true h = refl
or_none false h = h

read_front : (bytes : List ℕ) (known : List Known) (image : List ℕ) → take (length bytes) known ≡ map exactly bytes
    → all_allowed known image ≡ true → take (length bytes) image ≡ bytes
read_front [] known image are reads = refl
read_front (x ∷ xs) [] image are reads = cc
read_front (x ∷ xs) (k ∷ known) [] are reads = cc
read_front (x ∷ xs) (k ∷ known) (y ∷ image) are reads =
    let first : k ≡ exactly x = cc in
    let rest : take (length xs) known ≡ map exactly xs = cc in
    let parts = and_parts (allows k y) (all_allowed known image) reads in
    let here : ((x == y) || false) ≡ true = sym (ap (λ (one : Known). allows one y) first) ∙ parts.0 in
    let same : x ≡ y = eqb-true x y (or_none (x == y) here) in
    ap (λ (l : List ℕ). y ∷ l) (read_front xs known image rest parts.1) ∙ ap (λ (z : ℕ). z ∷ xs) (sym same)

read_at : (at : ℕ) (bytes : List ℕ) (known : List Known) (image : List ℕ) → take (length bytes) (drop at known) ≡ map exactly bytes
    → all_allowed known image ≡ true → take (length bytes) (drop at image) ≡ bytes
read_at zero bytes known image are reads = read_front bytes known image are reads
read_at (suc at) [] known image are reads = refl
read_at (suc at) (x ∷ xs) [] image are reads = cc
read_at (suc at) (x ∷ xs) (k ∷ known) [] are reads = cc
read_at (suc at) (x ∷ xs) (k ∷ known) (y ∷ image) are reads =
    read_at at (x ∷ xs) known image are (and_parts (allows k y) (all_allowed known image) reads).1

pub known-append : (known : List Known) (one two : List Step) → known_from known (one ++ two) ≡ known_from (known_from known one) two
known-append known [] two = refl
known-append known (step ∷ one) two = known-append (after_step known step) one two

-- what is told behind a step stays told, where no later step covers it
told-on : (log before after : List Step) (step : Step) (at : ℕ) (bytes : List ℕ)
    → IsTail (length (known_of log)) [] (before ++ step ∷ after) → AllByRecursion (SparesPlace at (length bytes)) after
    → TellsAt (after_step (known_from (known_of log) before) step) at bytes
    → TellsAt (known_of (log ++ (before ++ step ∷ after))) at bytes
told-on log before after step at bytes is spares tells =
    let start = known_of log in
    let split = tail-split (length start) [] before (step ∷ after) is in
    let inside = inside-steps (length start) [] before split.0 tt in
    let long = length-steps (length start) [] start before tt split.0 refl in
    let end = end_after_steps (length start) before in
    let spans = with_all_reserved [] before in
    let known = known_from start before in
    let last = tells-steps (end_after_step end step) (with_reserved spans step) (after_step known step) after at bytes
    (inside-step end spans step split.1.0 inside) split.1.1 (known-length end spans known step inside split.1.0 long) spares tells in
    let whole : known_of (log ++ (before ++ step ∷ after)) ≡ known_from (after_step known step) after =
    known-append [] log (before ++ step ∷ after) ∙ known-append start before (step ∷ after) in
    subst (λ (l : List Known). TellsAt l at bytes) (sym whole) last

front_at : {A : Type 0} (xs ys : List A) → take (length ys) (drop (length xs) (xs ++ ys)) ≡ ys
front_at [] [] = refl
front_at [] (y ∷ ys) = ap (λ (l : List _). y ∷ l) (front_at [] ys)
front_at (x ∷ xs) ys = front_at xs ys

pub appended_told : (log before after : List Step) (bytes : List ℕ)
    → IsTail (length (known_of log)) [] (before ++ Append bytes ∷ after)
    → TellsAt (known_of (log ++ (before ++ Append bytes ∷ after))) (end_after_steps (length (known_of log)) before) bytes
appended_told log before after bytes is =
    let start = known_of log in
    let split = tail-split (length start) [] before (Append bytes ∷ after) is in
    let known = known_from start before in
    let long : length known ≡ end_after_steps (length start) before = length-steps (length start) [] start before tt split.0 refl in
    let tells : TellsAt (known ++ map exactly bytes) (end_after_steps (length start) before) bytes = record {
      inside = omega (arith, long, length-append known (map exactly bytes), length-map bytes exactly);
      are = ap (λ (n : ℕ). take (length bytes) (drop n (known ++ map exactly bytes))) (sym long)
          ∙ (ap (λ (n : ℕ). take n (drop (length known) (known ++ map exactly bytes))) (sym (length-map bytes exactly))
          ∙ front_at known (map exactly bytes));
    } in
    told-on log before after (Append bytes) (end_after_steps (length start) before) bytes is
    (appended_spared (length start) before after bytes is) tells

pub appended_read : (log before after : List Step) (bytes image : List ℕ)
    → IsTail (length (known_of log)) [] (before ++ Append bytes ∷ after)
    → Reads (log ++ (before ++ Append bytes ∷ after)) image
    → StandAt image (end_after_steps (length (known_of log)) before) bytes
appended_read log before after bytes image is reads =
    read_at (end_after_steps (length (known_of log)) before) bytes (known_of (log ++ (before ++ Append bytes ∷ after))) image
    (appended_told log before after bytes is).are reads

pub settled_told : (log before after : List Step) (start len : ℕ) (bytes : List ℕ)
    → IsTail (length (known_of log)) [] (before ++ Settle start len (Some bytes) ∷ after)
    → StandOnceSettled (range_steps (before ++ Settle start len (Some bytes) ∷ after))
    → TellsAt (known_of (log ++ (before ++ Settle start len (Some bytes) ∷ after))) start bytes
settled_told log before after start len bytes is once =
    let place = length (known_of log) in
    let split = tail-split place [] before (Settle start len (Some bytes) ∷ after) is in
    let known = known_from (known_of log) before in
    let long = length-steps place [] (known_of log) before tt split.0 refl in
    let inside = inside-steps place [] before split.0 tt in
    let low = range_inside (end_after_steps place before) start len (with_all_reserved [] before) (Some bytes) inside split.1.0 in
    let same : length bytes ≡ len = split.1.0.1 in
    let within : start + length (map exactly bytes) ≤ length known = omega (arith, long, low, same, length-map bytes exactly) in
    let tells : TellsAt (put_at known start (map exactly bytes)) start bytes = record {
      inside = omega (arith, within, length-put known (map exactly bytes) start within, length-map bytes exactly);
      are = ap (λ (n : ℕ). take n (drop start (put_at known start (map exactly bytes)))) (sym (length-map bytes exactly))
          ∙ put_at-there known (map exactly bytes) start (omega (arith, within));
    } in
    told-on log before after (Settle start len (Some bytes)) start bytes is
    (subst (λ (n : ℕ). AllByRecursion (SparesPlace start n) after) (sym same)
    (settled_spared place before after start len bytes is once)) tells

pub settled_read : (log before after : List Step) (start len : ℕ) (bytes image : List ℕ)
    → IsTail (length (known_of log)) [] (before ++ Settle start len (Some bytes) ∷ after)
    → StandOnceSettled (range_steps (before ++ Settle start len (Some bytes) ∷ after))
    → Reads (log ++ (before ++ Settle start len (Some bytes) ∷ after)) image
    → StandAt image start bytes
settled_read log before after start len bytes image is once reads =
    read_at start bytes (known_of (log ++ (before ++ Settle start len (Some bytes) ∷ after))) image
    (settled_told log before after start len bytes is once).are reads

pub front_told : (log steps : List Step) (front : List ℕ) → IsKnown log front → IsTail (length front) [] steps
    → TellsAt (known_of (log ++ steps)) 0 front
front_told log steps front known is =
    let long : length (known_of log) ≡ length front = ap (λ (l : List Known). length l) known ∙ length-map front exactly in
    let all : take (length front) (drop 0 (known_of log)) ≡ map exactly front =
    ap (λ (l : List Known). take (length front) l) known
    ∙ (ap (λ (n : ℕ). take n (map exactly front)) (sym (length-map front exactly)) ∙ front_at {A = Known} [] (map exactly front)) in
    let tells = tells-steps (length front) [] (known_of log) steps 0 front tt is long (front_spared (length front) steps is)
    (record { inside = omega (arith, long); are = all }) in
    subst (λ (l : List Known). TellsAt l 0 front) (sym (known-append [] log steps)) tells

pub front_read : (log steps : List Step) (front image : List ℕ) → IsKnown log front → IsTail (length front) [] steps
    → Reads (log ++ steps) image
    → take (length front) image ≡ front
front_read log steps front image known is reads =
    read_at 0 front (known_of (log ++ steps)) image (front_told log steps front known is).are reads
