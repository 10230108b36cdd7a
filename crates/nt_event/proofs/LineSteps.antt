-- A line, a part at a time.
use Rattle.std.proofs.Common.{◌≡◌, ℕ, ◌+◌, ◌-◌, ◌<◌, ◌≤◌, ◌⊎◌, inl, inr, List, [], ◌∷◌, ◌++◌, length, get_or, take, drop, min, Option, None}
use Rattle.std.proofs.Common.{Some, refl, sym, ap, ◌∙◌, subst, arith, length-append, append_assoc, length-take-le}
use Rattle.std.specs.Prelude.{Err}
use Rattle.std.specs.List.{slice_range}
use Rattle.std.proofs.lemmas.Bool.{eq-eqb, eqb-true, cases_lt}
use Rattle.std.proofs.lemmas.List.{get_or-take, get_or_append_left, get_or-append_right, take-append-drop, take_more, drop-drop, drop-take}
use Rattle.std.proofs.lemmas.List.{length-take}
use Rattle.std.specs.Io.KnownBytes.{Consumes, prepend_known}
use Rattle.std.proofs.KnownBytes.{Consumes-trans}
use Rattle.memchr.specs.Find.{Nowhere, NoneBefore, Passes, is_byte}
use Rattle.nt_event.specs.Limits.{max_line, max_number}
use Rattle.nt_event.specs.Lines.{LinesState, HasNoLf, HasMore, IsNextLine, GivesLine}
use Rattle.nt_event.specs.LineParts.{TakesMore, TakesPart, IsTooMany}
use Rattle.nt_event.specs.declared.lines.Line.{Line}
use Rattle.nt_event.specs.declared.lines.LineError.{LineError}
use Rattle.nt_event.specs.declared.lines.LineError.TheVariants.{Fault, TooLong, Memory}

-- known bytes that stand in front are taken from there
pub front_taken : (known : Option (List ℕ)) (whole front rest : List ℕ) → whole ≡ front ++ rest
    → Consumes (prepend_known whole known) (prepend_known rest known) front
front_taken None whole front rest e = tt
front_taken (Some xs) whole front rest e = ap (λ l. l ++ xs) e ∙ append_assoc front rest xs

-- all of them
pub all_taken : (known : Option (List ℕ)) (bs : List ℕ) → Consumes (prepend_known bs known) known bs
all_taken None bs = tt
all_taken (Some xs) bs = refl

-- before the first LF there is none
no_lf-take : (hay : List ℕ) (count : ℕ) → count ≤ length hay → Nowhere (Passes (is_byte 10) hay) 0 count → HasNoLf (take count hay)
no_lf-take hay count le none k lt e =
    let below : k < count = omega (arith, lt, length-take-le count hay le) in
    none k (omega arith) below (eq-eqb (get_or hay k 0) 10 (sym (get_or-take count hay k 0 below) ∙ e))

pub no_lf-append : (a b : List ℕ) → HasNoLf a → HasNoLf b → HasNoLf (a ++ b)
no_lf-append a b ha hb k lt e = go (cases_lt k (length a))
  where
    go : (k < length a) ⊎ (length a ≤ k) → ⊥
    go (inl h) = ha k h (sym (get_or_append_left a b 0 k h) ∙ e)
    go (inr h) = hb (k - length a) (omega (arith, lt, length-append a b, h)) (sym (get_or-append_right a b (length a) k 0 refl h) ∙ e)

-- ---- what is ready

pub too_many : (known : Option (List ℕ)) (hay before : List ℕ) (count : ℕ) → count ≤ length hay
    → Nowhere (Passes (is_byte 10) hay) 0 count → max_line < length before + count → IsTooMany (prepend_known hay known) before
too_many known hay before count le none many = record {
  front = take count hay;
  begins = record {
    rest = prepend_known (drop count hay) known;
    taken = front_taken known hay (take count hay) (drop count hay) (sym (take-append-drop count hay));
  };
  one_line = no_lf-take hay count le none;
  many = omega (arith, many, length-take-le count hay le);
}

-- the bytes up to the first LF, the LF, and what is behind it
split_at_lf : (piece : List ℕ) (at end count : ℕ) → count < length (slice_range piece at end)
    → get_or (slice_range piece at end) count 0 ≡ 10
    → slice_range piece at end ≡ (take count (slice_range piece at end) ++ 10 ∷ []) ++ slice_range piece (at + (count + 1)) end
split_at_lf piece at end count lt is =
    let hay = slice_range piece at end in
    let few : length hay ≡ min (end - at) (length (drop at piece)) = length-take (end - at) (drop at piece) in
    let width : end - at ≡ (count + 1) + (end - (at + (count + 1))) = omega (arith, few, lt) in
    let back : drop (count + 1) hay ≡ slice_range piece (at + (count + 1)) end =
    ap (λ n. drop (count + 1) (take n (drop at piece))) width ∙ drop-take (count + 1) (end - (at + (count + 1))) (drop at piece)
    ∙ ap (take (end - (at + (count + 1)))) (drop-drop (count + 1) at piece) in
    sym (take-append-drop (count + 1) hay) ∙ ap (λ l. l ++ drop (count + 1) hay)
    (take_more hay count 0 lt ∙ ap (λ b. take count hay ++ b ∷ []) is) ∙ ap (λ l. (take count hay ++ 10 ∷ []) ++ l) back

pub taken_to_lf : (known : Option (List ℕ)) (piece : List ℕ) (at end count : ℕ) → count < length (slice_range piece at end)
    → get_or (slice_range piece at end) count 0 ≡ 10
    → Consumes (prepend_known (slice_range piece at end) known) (prepend_known (slice_range piece (at + (count + 1)) end) known)
    (take count (slice_range piece at end) ++ 10 ∷ [])
taken_to_lf known piece at end count lt is = front_taken known (slice_range piece at end)
    (take count (slice_range piece at end) ++ 10 ∷ []) (slice_range piece (at + (count + 1)) end) (split_at_lf piece at end count lt is)

pub no_lf-before : (hay : List ℕ) (count : ℕ) → NoneBefore (Passes (is_byte 10) hay) 0 (length hay) count → HasNoLf (take count hay)
no_lf-before hay count h = no_lf-take hay count (omega (arith, h.high)) h.before

pub lf_at : (hay : List ℕ) (count : ℕ) → Passes (is_byte 10) hay count → get_or hay count 0 ≡ 10
lf_at hay count h = eqb-true (get_or hay count 0) 10 h

-- ---- lines

pub more_left : (a b : Option (List ℕ)) (known : Option (List ℕ)) (bytes ready : List ℕ) → Consumes a b bytes
    → b ≡ prepend_known ready known → 0 < length ready → HasMore a
more_left a b known bytes ready h e some = record {
  front = bytes ++ ready;
  begins = record {
    rest = known;
    taken = Consumes-trans a b known bytes ready h
        (subst (λ o. Consumes o known ready) (sym e) (all_taken known ready));
  };
  some = omega (arith, some, length-append bytes ready);
}

pub gives_err : (A C D : LinesState) (e : LineError) (bytes after : List ℕ) → C.number ≡ A.number → Consumes A.left C.left bytes
    → HasNoLf bytes → TakesPart C D bytes after (Err e) → GivesLine A D (Err e)
gives_err A C D Fault bytes after n h one p = absurd p
gives_err A C D Memory bytes after n h one p = tt
gives_err A C D (TooLong line) bytes after n h one p = (
  p.0 ∙ ap (λ m. m + 1) n,
  inl (record {
    front = bytes ++ p.1.front;
    begins = record { rest = p.1.begins.rest; taken = Consumes-trans A.left C.left p.1.begins.rest bytes p.1.front h p.1.begins.taken };
    one_line = no_lf-append bytes p.1.front one p.1.one_line;
    many = omega (arith, p.1.many, length-append bytes p.1.front);
  }),
)

pub next_line : (A C D E : LinesState) (line : Line) (bytes after : List ℕ) → A.number < max_number → Consumes A.left C.left bytes
    → HasNoLf bytes → TakesMore C D bytes after (10 ∷ []) → E.left ≡ D.left → E.number ≡ A.number + 1 → line.number ≡ A.number + 1
    → line.bytes ≡ after → IsNextLine A E line
next_line A C D E line bytes after room h one p left counted number same =
    let whole : bytes ++ (p.part ++ 10 ∷ []) ≡ line.bytes ++ 10 ∷ [] = sym (append_assoc bytes p.part (10 ∷ []))
    ∙ ap (λ l. l ++ 10 ∷ []) (sym (same ∙ p.grown)) in
    record {
      ends = inl (subst (λ l. Consumes A.left E.left l) whole
          (subst (λ o. Consumes A.left o (bytes ++ (p.part ++ 10 ∷ []))) (sym left)
          (Consumes-trans A.left C.left D.left bytes (p.part ++ 10 ∷ []) h p.taken)));
      one_line = subst HasNoLf (sym (same ∙ p.grown)) (no_lf-append bytes p.part one p.one_line);
      fits = omega (arith, p.few, ap (λ (l : List ℕ). length l) same);
      number = (number, omega (arith, number, room));
      counted = counted ∙ sym number;
    }
