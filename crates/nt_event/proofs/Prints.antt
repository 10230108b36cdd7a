-- What is appended, a piece at a time.
use Rattle.std.proofs.Common.{arith, take, take-take, length-append, length, ◌≡◌, ℕ, ◌≤◌, List, [], ◌∷◌, ◌++◌, Bool, true, false}
use Rattle.std.proofs.Common.{if◌then◌else◌, refl, sym, ap, ◌∙◌, subst, append_assoc, append-nil, drop, get_or, ◌<◌, ◌+◌}
use Rattle.std.proofs.lemmas.List.{take-append-le, length-take, drop_more, drop_all}
use Rattle.std.specs.Str.{IsUtf8, is_utf8}
use Rattle.std.proofs.lemmas.Str.{is_utf8-from_IsUtf8, IsUtf8-from_is_utf8}
use Rattle.hex.specs.Hex.{encode_lower}
use Rattle.json.specs.Print.{escape, escape_byte, quoted}
use Rattle.std.specs.List.{slice_range}
use Rattle.std.proofs.lemmas.List.Folds.{drop_split}
use Rattle.std.proofs.lemmas.List.Concat.{flat_map-append}
use Rattle.nt_event.specs.Plain.{AllPlain}
use Rattle.nt_event.proofs.Plain.{plain-escape}
use Rattle.serde_json.specs.Data.{string}
use Rattle.serde_json.specs.Written.{compact_text}
use Rattle.nt_event.specs.Json.{text_data, hex_data}

take-self : (o : List ℕ) → take (length o) o ≡ o
take-self [] = refl
take-self (x ∷ o) = ap (λ l. x ∷ l) (take-self o)

-- what stands in front stays, where more is put behind
pub front-then : (a b c more : List ℕ) → take (length a) b ≡ a → take (length (b ++ more)) c ≡ b ++ more → take (length a) c ≡ a
front-then a b c more h k =
    let within : length a ≤ length b = omega (arith, ap length h, length-take (length a) b) in
    let n = length a in
    sym (take-take n (length (b ++ more)) c (omega (arith, within, length-append b more))) ∙ ap (take n) k
    ∙ take-append-le n b more within ∙ h

pub kept-on : (o a d more : List ℕ) → a ≡ o ++ more → take (length a) d ≡ a → take (length o) d ≡ o
kept-on o a d more h k = front-then o o d more (take-self o) (subst (λ l. take (length l) d ≡ l) h k)

-- two pieces and an end
pub three_put : (o a b c x e y q : List ℕ) → a ≡ o ++ x → b ≡ a ++ e → c ≡ b ++ y → x ++ (e ++ y) ≡ q → c ≡ o ++ q
three_put o a b c x e y q h g k t = k ∙ ap (λ l. l ++ y) (g ∙ ap (λ l. l ++ e) h) ∙ append_assoc (o ++ x) e y ∙ append_assoc o x (e ++ y)
    ∙ ap (λ l. o ++ l) t

pub two_put : (o a b x e q : List ℕ) → a ≡ o ++ x → b ≡ a ++ e → x ++ e ≡ q → b ≡ o ++ q
two_put o a b x e q h g t = g ∙ ap (λ l. l ++ e) h ∙ append_assoc o x e ∙ ap (λ l. o ++ l) t

pub utf8_text : (s : List ℕ) → IsUtf8 s → quoted s ≡ compact_text (text_data s)
utf8_text s u = ap (λ b. compact_text (if b then string s else hex_data s)) (sym (is_utf8-from_IsUtf8 s u))

not_utf8 : (s : List ℕ) (b : Bool) → is_utf8 s ≡ b → (IsUtf8 s → ⊥) → b ≡ false
not_utf8 s true e n = absurd (n (IsUtf8-from_is_utf8 s e))
not_utf8 s false e n = refl

hex_form : (s : List ℕ) → 123 ∷ 34 ∷ 104 ∷ 101 ∷ 120 ∷ 34 ∷ 58 ∷ (quoted (encode_lower s) ++ 125 ∷ []) ≡ compact_text (hex_data s)
unfolding escape_byte
hex_form s = refl

pub not_utf8_text : (s : List ℕ) → (IsUtf8 s → ⊥) → compact_text (hex_data s) ≡ compact_text (text_data s)
not_utf8_text s n = ap (λ b. compact_text (if b then string s else hex_data s)) (sym (not_utf8 s (is_utf8 s) refl n))

pub hex_put : (s o a b c : List ℕ) → a ≡ o ++ 123 ∷ 34 ∷ 104 ∷ 101 ∷ 120 ∷ 34 ∷ 58 ∷ [] → b ≡ a ++ quoted (encode_lower s)
    → c ≡ b ++ 125 ∷ [] → c ≡ o ++ compact_text (hex_data s)
hex_put s o a b c h g k = three_put o a b c (123 ∷ 34 ∷ 104 ∷ 101 ∷ 120 ∷ 34 ∷ 58 ∷ []) (quoted (encode_lower s)) (125 ∷ [])
    (compact_text (hex_data s)) h g k (hex_form s)

-- ---- runs of bytes that stand for themselves

escape-run : (d : List ℕ) (i stop : ℕ) → i ≤ stop → AllPlain (slice_range d i stop)
    → escape (drop i d) ≡ slice_range d i stop ++ escape (drop stop d)
escape-run d i stop le h =
    let s = slice_range d i stop in
    ap escape (drop_split d i stop le) ∙ flat_map-append escape_byte s (drop stop d)
    ∙ ap (λ l. l ++ escape (drop stop d)) (plain-escape s h)

pub run-put : (d o w a : List ℕ) (i stop : ℕ) → i ≤ stop → AllPlain (slice_range d i stop) → o ++ escape (drop i d) ≡ w
    → a ≡ o ++ slice_range d i stop → a ++ escape (drop stop d) ≡ w
run-put d o w a i stop le h so is =
    ap (λ l. l ++ escape (drop stop d)) is ∙ append_assoc o (slice_range d i stop) (escape (drop stop d))
    ∙ ap (λ l. o ++ l) (sym (escape-run d i stop le h)) ∙ so

pub byte-put : (d a w b : List ℕ) (stop : ℕ) → stop < length d → a ++ escape (drop stop d) ≡ w → b ≡ a ++ escape_byte (get_or d stop 0)
    → b ++ escape (drop (stop + 1) d) ≡ w
byte-put d a w b stop lt so is =
    ap (λ l. l ++ escape (drop (stop + 1) d)) is ∙ append_assoc a (escape_byte (get_or d stop 0)) (escape (drop (stop + 1) d))
    ∙ ap (λ l. a ++ escape l) (sym (drop_more d stop 0 lt)) ∙ so

pub all-put : (d a w : List ℕ) (stop : ℕ) → stop ≡ length d → a ++ escape (drop stop d) ≡ w → a ≡ w
all-put d a w stop is so = sym (append-nil a) ∙ ap (λ l. a ++ escape l) (sym (drop_all stop d (omega (arith, is)))) ∙ so
