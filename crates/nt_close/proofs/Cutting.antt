-- What a crash leaves of a file that is being closed, by its parts.
use Rattle.std.proofs.Common.{◌≡◌, ◌∙◌, ap, sym, subst, ℕ, suc, ◌+◌, List, [], ◌∷◌, ◌++◌, length, drop, map, arith, append_assoc}
use Rattle.std.proofs.lemmas.List.{map-append, length-map}
use Rattle.nt_lists.specs.Places.{put_at}
use Rattle.nt_lists.proofs.Fronts.{drop_front}
use Rattle.nt_outside.specs.Log.{Step, Write, FailedWrite, Append, FailedAppend}
use Rattle.nt_outside.specs.Held.{Held, written, synced}
use Rattle.nt_outside.specs.Reads.{Known, exactly, IsKnown}
use Rattle.nt_outside.specs.Crash.{crash_of, MayLeave}
use Rattle.nt_close.specs.Steps.{first_byte, IsClosedSoFar, closed_partly, torn_tail, torn_front, not_kept_shut, torn_first, not_kept_open}
use Rattle.nt_close.specs.Steps.{closed_whole, shut_on, closed_on}
use Rattle.nt_cuts.proofs.Opening.{known_of-push, done, torn-cut, open-cut, done-cut}
use Rattle.nt_cuts.specs.Shut.{StaysShut}
use Rattle.nt_cuts.proofs.Orders.{shut-push, Cut, cut-shut}

put_over : {A : Type 0} (x : A) (old new rest : List A) → length old ≡ length new → put_at (x ∷ (old ++ rest)) 1 new ≡ x ∷ (new ++ rest)
put_over {A = A} x old new rest same =
    let place : 1 + length new ≡ suc (length old) = omega arith in
    ap (λ (n : ℕ). x ∷ (new ++ drop n (x ∷ (old ++ rest)))) place ∙ ap (λ (l : List A). x ∷ (new ++ l)) (drop_front old rest)

-- a file is shut: a tail stands behind its body, and a front in the place of its room behind the first byte
shut-known : (room body tail front : List ℕ) (log : List Step) → length room ≡ length front → IsKnown log (0 ∷ (room ++ body))
    → IsKnown ((log ++ Append tail ∷ []) ++ Write 1 front ∷ []) (0 ∷ (front ++ (body ++ tail)))
shut-known room body tail front log same is =
    let grown : IsKnown (log ++ Append tail ∷ []) (0 ∷ (room ++ (body ++ tail))) =
    known_of-push log (Append tail)
    ∙ (ap (λ (k : List Known). k ++ map exactly tail) is
    ∙ (sym (map-append exactly (0 ∷ (room ++ body)) tail) ∙ ap (λ (l : List ℕ). map exactly (0 ∷ l)) (append_assoc room body tail))) in
    let parts : map exactly (room ++ (body ++ tail)) ≡ map exactly room ++ map exactly (body ++ tail) =
    map-append exactly room (body ++ tail) in
    let long : length (map exactly room) ≡ length (map exactly front) =
    length-map room exactly ∙ (same ∙ sym (length-map front exactly)) in
    known_of-push (log ++ Append tail ∷ []) (Write 1 front)
    ∙ (ap (λ (k : List Known). put_at k 1 (map exactly front)) (grown ∙ ap (λ (k : List Known). exactly 0 ∷ k) parts)
    ∙ (put_over (exactly 0) (map exactly room) (map exactly front) (map exactly (body ++ tail)) long
    ∙ ap (λ (k : List Known). exactly 0 ∷ k) (sym (map-append exactly front (body ++ tail)))))

module _ (room body tail front : List ℕ) (h : Held) (same : length room ≡ length front) (is : IsKnown h.log (0 ∷ (room ++ body))) where
  abbrev shut_log : List Step
  shut_log = (h.log ++ Append tail ∷ []) ++ Write 1 front ∷ []

  -- what stands behind the first byte then
  abbrev rest : List ℕ
  rest = front ++ (body ++ tail)

  -- the finished file of these parts
  abbrev pub IsClosedFile : List ℕ → Type 0
  IsClosedFile bytes = bytes ≡ 0x72 ∷ (front ++ (body ++ tail))

  known : IsKnown shut_log (0 ∷ rest)
  known = shut-known room body tail front h.log same is

  pub closed-only : (bytes : List ℕ) → MayLeave (crash_of (closed_on tail front h).log) bytes → IsClosedFile bytes
  closed-only bytes may = done shut_log rest known bytes may

  module _ (shut : StaysShut h.log) where
    grown-shut : StaysShut (h.log ++ Append tail ∷ [])
    grown-shut = shut-push h.log (Append tail) shut tt

    front-shut : StaysShut shut_log
    front-shut = shut-push (h.log ++ Append tail ∷ []) (Write 1 front) grown-shut (omega arith)

    shut-as : (log left : List Step) → left ≡ log → StaysShut log → Cut IsClosedFile left
    shut-as log left e stays = subst (λ (l : List Step). Cut IsClosedFile l) (sym e) (cut-shut IsClosedFile log stays)

    cut-as : (now left : Held) → left ≡ now → Cut IsClosedFile now.log → Cut IsClosedFile left.log
    cut-as now left e cut = subst (λ (x : Held). Cut IsClosedFile x.log) (sym e) cut

    -- wherever closing came
    pub closed-cut : (left : Held) → IsClosedSoFar tail front h left → Cut IsClosedFile left.log
    closed-cut left (closed_partly (torn_tail torn)) =
        let last = FailedAppend (length torn.junk) in
        shut-as (h.log ++ last ∷ []) left.log torn.log (shut-push h.log last shut tt)
    closed-cut left (closed_partly (torn_front torn)) =
        let grown = h.log ++ Append tail ∷ [] in
        shut-as (grown ++ FailedWrite 1 front ∷ []) left.log torn.log
        (shut-push grown (FailedWrite 1 front) grown-shut (omega arith))
    closed-cut left (closed_partly (not_kept_shut e)) = cut-as (shut_on tail front h) left e (cut-shut IsClosedFile shut_log front-shut)
    closed-cut left (closed_partly (torn_first torn)) =
        subst (λ (l : List Step). Cut IsClosedFile l) (sym torn.log) (torn-cut shut_log rest known front-shut)
    closed-cut left (closed_partly (not_kept_open e)) =
        cut-as (written 0 first_byte (synced (shut_on tail front h))) left e (open-cut shut_log rest known front-shut)
    closed-cut left (closed_whole e) = cut-as (closed_on tail front h) left e (done-cut shut_log rest known front-shut)
