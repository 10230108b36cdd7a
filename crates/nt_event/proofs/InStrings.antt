-- Inside a JSON string.
use Rattle.std.proofs.Common.{◌≡◌, ℕ, ◌+◌, ◌*◌, ◌<◌, ◌≤◌, ◌==◌, ◌&&◌, Bool, true, false, cond, List, [], ◌∷◌, ◌++◌, length, drop, get_or}
use Rattle.std.proofs.Common.{Option, Some, None, IfSome, option_and_then, refl, sym, ap, ◌∙◌, arith, subst, append_assoc}
use Rattle.std.proofs.lemmas.Bool.{ne_eqb, le-ltb, false≢true, and_parts}
use Rattle.std.proofs.lemmas.List.{drop_more, append-nil}
use Rattle.std.proofs.lemmas.List.Folds.{drop_split}
use Rattle.std.specs.List.{slice_range}
use Rattle.std.specs.Char.{digit_value, is_digit, encode_utf8}
use Rattle.json.specs.Word.{is_operator, is_space}
use Rattle.json.specs.Text.{code_unit, short_escape, is_high_surrogate, is_low_surrogate, surrogate_pair, content, plain, after_backslash}
use Rattle.json.specs.Text.{after_u, after_high, prepend}
use Rattle.json.specs.Lex.{Lexeme, Mode, lex, lex_byte, between, in_string, in_escape, operator, space, other}
use Rattle.nt_event.specs.Plain.{Plain, AllPlain, StandsFor, EscapeStands, EndsString}
use Rattle.nt_event.specs.Standing.{StandsFrom}

pub prepend-prepend : (a b : List ℕ) (r : Option (List ℕ)) → prepend a (prepend b r) ≡ prepend (a ++ b) r
prepend-prepend a b None = refl
prepend-prepend a b (Some s) = ap Some (sym (append_assoc a b s))

pub prepend-nil : (r : Option (List ℕ)) → prepend [] r ≡ r
prepend-nil None = refl
prepend-nil (Some s) = refl

-- ---- bytes that stand for themselves

stays_inside : (o s : Bool) (x : ℕ) (r : List ℕ) (k : Mode → List Lexeme)
    → lex_byte in_string (cond o operator (cond s space other)) x r k ≡ k in_string
stays_inside true s x r k = refl
stays_inside false true x r k = refl
stays_inside false false x r k = refl

lexed-inside : (x : ℕ) (r : List ℕ) → (x ≡ 34 → ⊥) → (x ≡ 92 → ⊥) → lex in_string (x ∷ r) ≡ lex in_string r
unfolding lex
lexed-inside x r q b = rw (ne_eqb x 34 q, ne_eqb x 92 b) (stays_inside (is_operator x) (is_space x) x r (λ m. lex m r))

read-plain : (x : ℕ) (r : List ℕ) → Plain x → content plain (x ∷ r) ≡ prepend (x ∷ []) (content plain r)
unfolding content
read-plain x r h = rw (ne_eqb x 34 h.no_quote, ne_eqb x 92 h.no_slash, le-ltb x 32 h.low)

run-read : (s r : List ℕ) → AllPlain s → content plain (s ++ r) ≡ prepend s (content plain r)
run-read [] r h = sym (prepend-nil (content plain r))
run-read (x ∷ s) r h = read-plain x (s ++ r) h.0 ∙ ap (prepend (x ∷ [])) (run-read s r h.1) ∙ prepend-prepend (x ∷ []) s (content plain r)

run-lexed : (s r : List ℕ) → AllPlain s → lex in_string (s ++ r) ≡ lex in_string r
run-lexed [] r h = refl
run-lexed (x ∷ s) r h = lexed-inside x (s ++ r) h.0.no_quote h.0.no_slash ∙ run-lexed s r h.1

pub run-stands : (t : List ℕ) (at end : ℕ) → at ≤ end → AllPlain (slice_range t at end) → StandsFor (slice_range t at end) t at end
run-stands t at end le h =
    let s = slice_range t at end in
    let parts = drop_split t at end le in
    record {
      read = ap (content plain) parts ∙ run-read s (drop end t) h;
      lexed = ap (lex in_string) parts ∙ run-lexed s (drop end t) h;
      past = le;
    }

-- ---- quotes and backslashes

quote-read : (r : List ℕ) → content plain (34 ∷ r) ≡ Some []
unfolding content
quote-read r = refl

quote-lexed : (r : List ℕ) → lex in_string (34 ∷ r) ≡ lex between r
unfolding lex
quote-lexed r = refl

slash-read : (r : List ℕ) → content plain (92 ∷ r) ≡ content after_backslash r
unfolding content
slash-read r = refl

slash-lexed : (r : List ℕ) → lex in_string (92 ∷ r) ≡ lex in_escape r
unfolding lex
slash-lexed r = refl

escape-lexed : (x : ℕ) (r : List ℕ) → lex in_escape (x ∷ r) ≡ lex in_string r
unfolding lex
escape-lexed x r = refl

pub string-ends : (s t : List ℕ) (at stop end : ℕ) → StandsFor s t at stop → StandsFrom (34 ∷ []) t stop end → EndsString s t at end
string-ends s t at stop end h close = record {
  read = h.read ∙ ap (prepend s) (ap (content plain) close.part_is ∙ quote-read (drop end t)) ∙ ap Some (append-nil s);
  lexed = h.lexed ∙ ap (lex in_string) close.part_is ∙ quote-lexed (drop end t);
  past = omega (arith, h.past, close.some);
  within = close.within;
}

pub then-run : (s u t : List ℕ) (at i stop : ℕ) → StandsFor s t at i → StandsFor u t i stop → StandsFor (s ++ u) t at stop
then-run s u t at i stop h g = record {
  read = h.read ∙ ap (prepend s) g.read ∙ prepend-prepend s u (content plain (drop stop t));
  lexed = h.lexed ∙ g.lexed;
  past = omega (arith, h.past, g.past);
}

pub then-escape : (s u t : List ℕ) (at stop next end : ℕ) → StandsFor s t at stop → StandsFrom (92 ∷ []) t stop next
    → EscapeStands after_backslash in_escape u t next end → StandsFor (s ++ u) t at end
then-escape s u t at stop next end h slash e = record {
  read = h.read ∙ ap (prepend s) (ap (content plain) slash.part_is ∙ slash-read (drop next t) ∙ e.read)
      ∙ prepend-prepend s u (content plain (drop end t));
  lexed = h.lexed ∙ ap (lex in_string) slash.part_is ∙ slash-lexed (drop next t) ∙ e.lexed;
  past = omega (arith, h.past, slash.some, e.past);
}

-- ---- what an escape stands for

four : (d : List ℕ) (i : ℕ) → i + 4 ≤ length d → drop i d ≡ get_or d i 0 ∷ get_or d (i + 1) 0 ∷ get_or d (i + 2) 0 ∷ get_or d (i + 3) 0 ∷
    drop (i + 4) d
four d i h =
    let more : (j k : ℕ) → k ≡ j + 1 → j < length d → drop j d ≡ get_or d j 0 ∷ drop k d = λ j k e l. drop_more d j 0 l
    ∙ ap (λ n. get_or d j 0 ∷ drop n d) (sym e) in
    more i (i + 1) refl (omega arith) ∙ ap (λ l. get_or d i 0 ∷ l)
    (more (i + 1) (i + 2) (omega arith) (omega arith) ∙ ap (λ l. get_or d (i + 1) 0 ∷ l)
    (more (i + 2) (i + 3) (omega arith) (omega arith)
    ∙ ap (λ l. get_or d (i + 2) 0 ∷ l) (more (i + 3) (i + 4) (omega arith) (omega arith))))

is_hex : (x : ℕ) → is_digit x 16 ≡ true → (x ≡ 34 → ⊥) × (x ≡ 92 → ⊥)
is_hex x h = (λ e. false≢true (subst (λ y. is_digit y 16 ≡ true) e h), λ e. false≢true (subst (λ y. is_digit y 16 ≡ true) e h))

-- the code unit of four hex digits
unit_digits : (a b c d u : ℕ) → code_unit a b c d ≡ Some u
    → (is_digit a 16 ≡ true) × (is_digit b 16 ≡ true) × (is_digit c 16 ≡ true) × (is_digit d 16 ≡ true)
unfolding code_unit
unit_digits a b c d u h = go (is_digit a 16 && is_digit b 16 && is_digit c 16 && is_digit d 16) refl h
  where
    go : (t : Bool) → (is_digit a 16 && is_digit b 16 && is_digit c 16 && is_digit d 16) ≡ t
        → cond t (Some (digit_value a * 4096 + digit_value b * 256 + digit_value c * 16 + digit_value d)) None ≡ Some u
        → (is_digit a 16 ≡ true) × (is_digit b 16 ≡ true) × (is_digit c 16 ≡ true) × (is_digit d 16 ≡ true)
    go true e h =
        let p = and_parts (is_digit a 16 && is_digit b 16 && is_digit c 16) (is_digit d 16) e in
        let q = and_parts (is_digit a 16 && is_digit b 16) (is_digit c 16) p.0 in
        let r = and_parts (is_digit a 16) (is_digit b 16) q.0 in
        (r.0, r.1, q.1, p.1)
    go false e h = cc

unit-lexed : (t : List ℕ) (i u : ℕ) → i + 4 ≤ length t
    → code_unit (get_or t i 0) (get_or t (i + 1) 0) (get_or t (i + 2) 0) (get_or t (i + 3) 0) ≡ Some u
    → lex in_string (drop i t) ≡ lex in_string (drop (i + 4) t)
unit-lexed t i u within h =
    let p = unit_digits _ _ _ _ u h in
    let a = is_hex _ p.0 in
    let b = is_hex _ p.1 in
    let c = is_hex _ p.2 in
    let d = is_hex _ p.3 in
    ap (lex in_string) (four t i within) ∙ lexed-inside _ _ a.0 a.1 ∙ lexed-inside _ _ b.0 b.1 ∙ lexed-inside _ _ c.0 c.1
    ∙ lexed-inside _ _ d.0 d.1

content-after_u : (d : List ℕ) (i : ℕ) → i + 4 ≤ length d → content after_u (drop i d)
    ≡ option_and_then (λ u. cond (is_high_surrogate u) (content (after_high u) (drop (i + 4) d))
    (cond (is_low_surrogate u) None (prepend (encode_utf8 u) (content plain (drop (i + 4) d)))))
    (code_unit (get_or d i 0) (get_or d (i + 1) 0) (get_or d (i + 2) 0) (get_or d (i + 3) 0))
unfolding content
content-after_u d i h = ap (content after_u) (four d i h)

pub unit-stands : (t : List ℕ) (i u : ℕ) → i + 4 ≤ length t
    → code_unit (get_or t i 0) (get_or t (i + 1) 0) (get_or t (i + 2) 0) (get_or t (i + 3) 0) ≡ Some u
    → is_high_surrogate u ≡ false → is_low_surrogate u ≡ false → EscapeStands after_u in_string (encode_utf8 u) t i (i + 4)
unit-stands t i u within is high low = record {
  read = content-after_u t i within ∙ rw (is, high, low) refl;
  lexed = unit-lexed t i u within is;
  past = omega arith;
  within = within;
}

pub high-then : (t s : List ℕ) (i u end : ℕ) → i + 4 ≤ length t
    → code_unit (get_or t i 0) (get_or t (i + 1) 0) (get_or t (i + 2) 0) (get_or t (i + 3) 0) ≡ Some u
    → is_high_surrogate u ≡ true → EscapeStands (after_high u) in_string s t (i + 4) end → EscapeStands after_u in_string s t i end
high-then t s i u end within is high h = record {
  read = content-after_u t i within ∙ rw (is, high) h.read;
  lexed = unit-lexed t i u within is ∙ h.lexed;
  past = omega (arith, h.past);
  within = h.within;
}

content-after_high : (d : List ℕ) (i high : ℕ) → i + 6 ≤ length d → get_or d i 0 ≡ 92 → get_or d (i + 1) 0 ≡ 117
    → content (after_high high) (drop i d)
    ≡ option_and_then (λ l. cond (is_low_surrogate l) (prepend (encode_utf8 (surrogate_pair high l)) (content plain (drop (i + 6) d))) None)
    (code_unit (get_or d (i + 2) 0) (get_or d (i + 2 + 1) 0) (get_or d (i + 2 + 2) 0) (get_or d (i + 2 + 3) 0))
unfolding content
content-after_high d i high h slash u =
    let two : i + 1 + 1 ≡ i + 2 = omega arith in
    let six : i + 2 + 4 ≡ i + 6 = omega arith in
    let last = four d (i + 2) (omega arith) ∙ ap
    (λ n. get_or d (i + 2) 0 ∷ get_or d (i + 2 + 1) 0 ∷ get_or d (i + 2 + 2) 0 ∷ get_or d (i + 2 + 3) 0 ∷ drop n d) six in
    ap (content (after_high high)) (drop_more d i 0 (omega arith)
    ∙ ap (λ l. get_or d i 0 ∷ l) (drop_more d (i + 1) 0 (omega arith)
    ∙ ap (λ l. get_or d (i + 1) 0 ∷ l) (ap (λ n. drop n d) two ∙ last)))
    ∙ rw (slash, u) refl

pub low-stands : (t : List ℕ) (i high low : ℕ) → i + 6 ≤ length t → get_or t i 0 ≡ 92 → get_or t (i + 1) 0 ≡ 117
    → code_unit (get_or t (i + 2) 0) (get_or t (i + 2 + 1) 0) (get_or t (i + 2 + 2) 0) (get_or t (i + 2 + 3) 0) ≡ Some low
    → is_low_surrogate low ≡ true
    → EscapeStands (after_high high) in_string (encode_utf8 (surrogate_pair high low)) t i (i + 6)
low-stands t i high low within slash u is low_half =
    let first : i < length t = omega arith in
    let second : i + 1 < length t = omega arith in
    let two : i + 1 + 1 ≡ i + 2 = omega arith in
    let six : i + 2 + 4 ≡ i + 6 = omega arith in
    record {
      read = content-after_high t i high within slash u ∙ rw (is, low_half) refl;
      lexed = ap (lex in_string) (drop_more t i 0 first ∙ ap (λ x. x ∷ drop (i + 1) t) slash) ∙ slash-lexed (drop (i + 1) t)
          ∙ ap (lex in_escape) (drop_more t (i + 1) 0 second) ∙ escape-lexed (get_or t (i + 1) 0) (drop (i + 1 + 1) t)
          ∙ ap (λ n. lex in_string (drop n t)) two ∙ unit-lexed t (i + 2) low (omega arith) is ∙ ap (λ n. lex in_string (drop n t)) six;
      past = omega arith;
      within = within;
    }

content-after_backslash : (d : List ℕ) (i : ℕ) → i < length d → content after_backslash (drop i d)
    ≡ cond (get_or d i 0 == 117) (content after_u (drop (i + 1) d))
    (option_and_then (λ c. prepend (c ∷ []) (content plain (drop (i + 1) d))) (short_escape (get_or d i 0)))
unfolding content
content-after_backslash d i h = ap (content after_backslash) (drop_more d i 0 h)

pub unicode-stands : (t s : List ℕ) (i end : ℕ) → i < length t → get_or t i 0 ≡ 117 → EscapeStands after_u in_string s t (i + 1) end
    → EscapeStands after_backslash in_escape s t i end
unicode-stands t s i end lt is h = record {
  read = content-after_backslash t i lt ∙ rw is h.read;
  lexed = ap (lex in_escape) (drop_more t i 0 lt) ∙ escape-lexed (get_or t i 0) (drop (i + 1) t) ∙ h.lexed;
  past = omega (arith, h.past);
  within = h.within;
}

pub short-stands : (t s : List ℕ) (i c : ℕ) → i < length t → (get_or t i 0 ≡ 117 → ⊥) → short_escape (get_or t i 0) ≡ Some c → s ≡ c ∷ []
    → EscapeStands after_backslash in_escape s t i (i + 1)
short-stands t s i c lt no_u is one = record {
  read = content-after_backslash t i lt ∙ rw (ne_eqb (get_or t i 0) 117 no_u, is, one) refl;
  lexed = ap (lex in_escape) (drop_more t i 0 lt) ∙ escape-lexed (get_or t i 0) (drop (i + 1) t);
  past = omega arith;
  within = omega arith;
}

pub ascii-encoded : (c : ℕ) → c < 128 → encode_utf8 c ≡ c ∷ []
unfolding encode_utf8
ascii-encoded c h = grind arith

pub some-then : {A : Type 0} (o : Option A) (P Q : A → Type 0) → ((a : A) → P a → Q a) → IfSome o P → IfSome o Q
some-then None P Q f h = tt
some-then (Some a) P Q f h = f a h

pub nothing-stands : (t : List ℕ) (at : ℕ) → StandsFor [] t at at
nothing-stands t at = record { read = sym (prepend-nil (content plain (drop at t))); lexed = refl; past = omega arith }
