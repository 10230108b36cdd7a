-- The text of a number, by its digits in a word.
use Rattle.std.proofs.Common.{◌≡◌, ℕ, ◌+◌, ◌-◌, ◌*◌, ◌/◌, ◌%◌, ◌^◌, ◌<◌, ◌≤◌, List, [], ◌∷◌, ◌++◌, take, refl, sym, ap, ◌∙◌}
use Rattle.std.proofs.Common.{inl, inr, arith, eq-zero-or-pos, append_assoc, append-nil, decimal}
use Rattle.std.specs.Int.{to_le_bytes, w64}
use Rattle.std.proofs.lemmas.Fmt.{decimal_digit, decimal_step}
use Rattle.nt_print.specs.Digits.{last_digits, digit_bytes}

-- ---- digits as a list, the first in front

abbrev pub AreDigits : List ℕ → Type 0
AreDigits [] = Unit {0}
AreDigits (d ∷ ds) = (d < 10) × AreDigits ds

-- the number that they spell behind another
abbrev pub spelled : ℕ → List ℕ → ℕ
spelled v [] = v
spelled v (d ∷ ds) = spelled (v * 10 + d) ds

-- their text
abbrev pub digit_text : List ℕ → List ℕ
digit_text [] = []
digit_text (d ∷ ds) = (48 + d) ∷ digit_text ds

-- they as the bytes of a word, the first as the lowest
abbrev pub bytes_word : List ℕ → ℕ
bytes_word [] = 0
bytes_word (b ∷ bs) = b + 256 * bytes_word bs

spelled-le : (ds : List ℕ) (v : ℕ) → v ≤ spelled v ds
spelled-le [] v = omega arith
spelled-le (d ∷ ds) v = omega (arith, spelled-le ds (v * 10 + d))

-- one more digit behind others
decimal-more : (v d : ℕ) → 0 < v → d < 10 → v * 10 + d < 2 ^ 64 → decimal (v * 10 + d) ≡ decimal v ++ (48 + d) ∷ []
decimal-more v d some lt fits =
    let front : (v * 10 + d) / 10 ≡ v = omega (arith, lt) in
    let last : (v * 10 + d) % 10 ≡ d = omega (arith, lt) in
    decimal_step (v * 10 + d) (omega (arith, some)) fits
    ∙ (ap (λ m. decimal m ++ (48 + (v * 10 + d) % 10) ∷ []) front ∙ ap (λ m. decimal v ++ (48 + m) ∷ []) last)

-- more digits behind others
decimal-spelled : (ds : List ℕ) (v : ℕ) → 0 < v → AreDigits ds → spelled v ds < 2 ^ 64
    → decimal (spelled v ds) ≡ decimal v ++ digit_text ds
decimal-spelled [] v some lts fits = sym (append-nil (decimal v))
decimal-spelled (d ∷ ds) v some lts fits =
    let below : v * 10 + d < 2 ^ 64 = omega (arith, spelled-le ds (v * 10 + d), fits) in
    decimal-spelled ds (v * 10 + d) (omega (arith, some)) lts.1 fits
    ∙ (ap (λ l. l ++ digit_text ds) (decimal-more v d some lts.0 below) ∙ append_assoc (decimal v) ((48 + d) ∷ []) (digit_text ds))

-- digits of which the first isn't zero
decimal-first : (d : ℕ) (ds : List ℕ) (n : ℕ) → 0 < d → AreDigits (d ∷ ds) → n ≡ spelled d ds → n < 2 ^ 64
    → decimal n ≡ digit_text (d ∷ ds)
decimal-first d ds n some lts is fits =
    ap decimal is
    ∙ (decimal-spelled ds d some lts.1 (omega (arith, is, fits)) ∙ ap (λ l. l ++ digit_text ds) (decimal_digit d lts.0))

-- ---- a short number and its mark as the bytes of a word

-- both parts of a list
cons : (a b : ℕ) (l m : List ℕ) → a ≡ b → l ≡ m → a ∷ l ≡ b ∷ m
cons a b l m first rest = ap (λ n. n ∷ l) first ∙ ap (λ k. b ∷ k) rest

-- the bytes of a word are those that it was made of
bytes-eight : (a b c d e f g h n : ℕ) → a < 256 → b < 256 → c < 256 → d < 256 → e < 256 → f < 256 → g < 256 → h < 256
    → n ≡ bytes_word (a ∷ b ∷ c ∷ d ∷ e ∷ f ∷ g ∷ h ∷ []) → to_le_bytes w64 n ≡ a ∷ b ∷ c ∷ d ∷ e ∷ f ∷ g ∷ h ∷ []
bytes-eight a b c d e f g h n pa pb pc pd pe pf pg ph is =
    let t7 : n / 72057594037927936 ≡ h = omega (arith, is, pa, pb, pc, pd, pe, pf, pg) in
    let t6 : n / 281474976710656 ≡ g + 256 * h = omega (arith, is, pa, pb, pc, pd, pe, pf) in
    let t5 : n / 1099511627776 ≡ f + 256 * (g + 256 * h) = omega (arith, is, pa, pb, pc, pd, pe) in
    let t4 : n / 4294967296 ≡ e + 256 * (f + 256 * (g + 256 * h)) = omega (arith, is, pa, pb, pc, pd) in
    let t3 : n / 16777216 ≡ bytes_word (d ∷ e ∷ f ∷ g ∷ h ∷ []) = omega (arith, is, pa, pb, pc) in
    let t2 : n / 65536 ≡ bytes_word (c ∷ d ∷ e ∷ f ∷ g ∷ h ∷ []) = omega (arith, is, pa, pb) in
    let t1 : n / 256 ≡ bytes_word (b ∷ c ∷ d ∷ e ∷ f ∷ g ∷ h ∷ []) = omega (arith, is, pa) in
    cons _ _ _ _ (omega (arith, is, pa)) (cons _ _ _ _ (omega (arith, t1, pb)) (cons _ _ _ _ (omega (arith, t2, pc))
    (cons _ _ _ _ (omega (arith, t3, pd)) (cons _ _ _ _ (omega (arith, t4, pe)) (cons _ _ _ _ (omega (arith, t5, pf))
    (cons _ _ _ _ (omega (arith, t6, pg)) (cons _ _ _ _ (omega (arith, t7, ph)) refl)))))))

-- the text of a mark and a word of digits from which so many in front were shifted out
abbrev kept_text : ℕ → ℕ → ℕ → ℕ → List ℕ
kept_text w m none count = take count (to_le_bytes w64 (w / 2 ^ (8 * none) * 256 + m))

-- the bytes of a mark and of others behind it
marked-bytes : (m w p q r s t u v : ℕ) → m < 256 → p < 256 → q < 256 → r < 256 → s < 256 → t < 256 → u < 256 → v < 256
    → w ≡ bytes_word (p ∷ q ∷ r ∷ s ∷ t ∷ u ∷ v ∷ []) → to_le_bytes w64 (w * 256 + m) ≡ m ∷ p ∷ q ∷ r ∷ s ∷ t ∷ u ∷ v ∷ []
marked-bytes m w p q r s t u v pm pp pq pr ps pt pu pv is =
    bytes-eight m p q r s t u v (w * 256 + m) pm pp pq pr ps pt pu pv (omega (arith, is))

-- as many are shifted out as are zeros in front
kept-at : (w m none k : ℕ) (count : ℕ → ℕ) (t : List ℕ) → none ≡ k → kept_text w m k (count k) ≡ t → kept_text w m none (count none) ≡ t
kept-at w m none k count t is text = ap (λ j. kept_text w m j (count j)) is ∙ text

-- of three digits, those from the first on that isn't zero, or the last
small-digits : (m a b c n w none : ℕ) → m < 256 → AreDigits (a ∷ b ∷ c ∷ []) → n ≡ spelled a (b ∷ c ∷ [])
    → w ≡ bytes_word ((48 + a) ∷ (48 + b) ∷ (48 + c) ∷ 32 ∷ []) → (n < 10 → none ≡ 2) → (10 ≤ n → n < 100 → none ≡ 1) → (100 ≤ n → none ≡ 0)
    → kept_text w m none (4 - none) ≡ m ∷ decimal n
small-digits m a b c n w none pm (pa, (pb, (pc, _))) number word units tens hundreds =
    let fits : n < 2 ^ 64 = omega (arith, number, pa, pb, pc) in
    let ba : 48 + a < 256 = omega (arith, pa) in
    let bb : 48 + b < 256 = omega (arith, pb) in
    let bc : 48 + c < 256 = omega (arith, pc) in
    let blank : 32 < 256 = omega arith in
    let nil : 0 < 256 = omega arith in
    elim (eq-zero-or-pos a) [
      | inr g ↦
          kept-at w m none 0 (λ k. 4 - k) _ (hundreds (omega (arith, number, g)))
          (ap (take 4) (marked-bytes m (w / 2 ^ (8 * 0)) (48 + a) (48 + b) (48 + c) 32 0 0 0 pm ba bb bc blank nil nil nil
          (omega (arith, word)))
          ∙ ap (λ l. m ∷ l) (sym (decimal-first a (b ∷ c ∷ []) n g (pa, (pb, (pc, tt))) number fits)))
      | inl za ↦
          elim (eq-zero-or-pos b) [
            | inr g ↦
                kept-at w m none 1 (λ k. 4 - k) _ (tens (omega (arith, number, g)) (omega (arith, number, za, pb, pc)))
                (ap (take 3) (marked-bytes m (w / 2 ^ (8 * 1)) (48 + b) (48 + c) 32 0 0 0 0 pm bb bc blank nil nil nil nil
                (omega (arith, word, pa)))
                ∙ ap (λ l. m ∷ l) (sym (decimal-first b (c ∷ []) n g (pb, (pc, tt)) (omega (arith, number, za)) fits)))
            | inl zb ↦
                kept-at w m none 2 (λ k. 4 - k) _ (units (omega (arith, number, za, zb, pc)))
                (ap (take 2) (marked-bytes m (w / 2 ^ (8 * 2)) (48 + c) 32 0 0 0 0 0 pm bc blank nil nil nil nil nil
                (omega (arith, word, pa, pb)))
                ∙ ap (λ l. m ∷ l) (sym (ap decimal (omega (arith, number, za, zb)) ∙ decimal_digit c pc)))
          ]
    ]

-- the digits of a number below a million
abbrev six_digits : ℕ → List ℕ
six_digits n =
    n / 10 / 10 / 10 / 10 / 10 % 10 ∷ n / 10 / 10 / 10 / 10 % 10 ∷ n / 10 / 10 / 10 % 10 ∷ n / 10 / 10 % 10 ∷ n / 10 % 10 ∷ n % 10 ∷ []

are-digits : (n : ℕ) → AreDigits (six_digits n)
are-digits n = (omega arith, (omega arith, (omega arith, (omega arith, (omega arith, (omega arith, tt))))))

-- they spell it, also behind another
spelled-six : (n q : ℕ) → n < 1000000 → spelled q (six_digits n) ≡ q * 1000000 + n
spelled-six n q lt = omega (arith, lt)

pub small-text : (m n w none : ℕ) → m < 256 → n < 1000 → w ≡ digit_bytes 3 n + 540028976
    → (n < 10 → none ≡ 2) → (10 ≤ n → n < 100 → none ≡ 1) → (100 ≤ n → none ≡ 0)
    → take (4 - none) (to_le_bytes w64 (w / 2 ^ (8 * none) * 256 + m)) ≡ m ∷ decimal n
small-text m n w none pm lt is units tens hundreds =
    small-digits m (n / 10 / 10 % 10) (n / 10 % 10) (n % 10) n w none pm (omega arith, (omega arith, (omega arith, tt)))
    (omega (arith, lt)) (omega (arith, is)) units tens hundreds

-- ---- more digits behind others, three or six at a time

-- the last three digits of a number, from the word that they stand in
pub three-text : (n w : ℕ) → w ≡ digit_bytes 3 n + 540028976 → take 3 (to_le_bytes w64 w) ≡ last_digits 3 n
three-text n w is =
    ap (take 3) (bytes-eight (48 + n / 10 / 10 % 10) (48 + n / 10 % 10) (48 + n % 10) 32 0 0 0 0 w (omega arith) (omega arith) (omega arith)
    (omega arith) (omega arith) (omega arith) (omega arith) (omega arith) (omega (arith, is)))

-- the last six digits are three and three
three-three : (n : ℕ) → last_digits 3 (n / 1000) ++ last_digits 3 (n % 1000) ≡ last_digits 6 n
three-three n =
    cons _ _ _ _ (omega arith) (cons _ _ _ _ (omega arith) (cons _ _ _ _ (omega arith) (cons _ _ _ _ (omega arith)
    (cons _ _ _ _ (omega arith) (cons _ _ _ _ (omega arith) refl)))))

pub six-put : (p a b : List ℕ) (n : ℕ) → a ≡ p ++ last_digits 3 (n / 1000) → b ≡ a ++ last_digits 3 (n % 1000)
    → b ≡ p ++ last_digits 6 n
six-put p a b n front back =
    back ∙ (ap (λ l. l ++ last_digits 3 (n % 1000)) front
    ∙ (append_assoc p (last_digits 3 (n / 1000)) (last_digits 3 (n % 1000)) ∙ ap (λ l. p ++ l) (three-three n)))

-- three more digits
decimal-thousand : (n : ℕ) → 1000 ≤ n → n < 2 ^ 64 → decimal (n / 1000) ++ last_digits 3 (n % 1000) ≡ decimal n
decimal-thousand n lo hi =
    let q = n / 1000 in
    let r = n % 1000 in
    let is : spelled q (r / 10 / 10 % 10 ∷ r / 10 % 10 ∷ r % 10 ∷ []) ≡ n = omega arith in
    sym (decimal-spelled (r / 10 / 10 % 10 ∷ r / 10 % 10 ∷ r % 10 ∷ []) q (omega (arith, lo))
    (omega arith, (omega arith, (omega arith, tt))) (omega (arith, is, hi))) ∙ ap decimal is

pub short-put : (o a b : List ℕ) (m n : ℕ) → 1000 ≤ n → n < 2 ^ 32 → a ≡ o ++ m ∷ decimal (n / 1000)
    → b ≡ a ++ last_digits 3 (n % 1000) → b ≡ o ++ m ∷ decimal n
short-put o a b m n lo hi front back =
    back ∙ (ap (λ l. l ++ last_digits 3 (n % 1000)) front
    ∙ (append_assoc o (m ∷ decimal (n / 1000)) (last_digits 3 (n % 1000))
    ∙ ap (λ l. o ++ m ∷ l) (decimal-thousand n lo (omega (arith, hi)))))

-- six more digits
decimal-million : (n : ℕ) → 1000000 ≤ n → n < 2 ^ 64 → decimal (n / 1000000) ++ last_digits 6 (n % 1000000) ≡ decimal n
decimal-million n lo hi =
    let q = n / 1000000 in
    let r = n % 1000000 in
    let is : spelled q (six_digits r) ≡ n = spelled-six r q (omega arith) ∙ omega arith in
    sym (decimal-spelled (six_digits r) q (omega (arith, lo)) (are-digits r) (omega (arith, is, hi))) ∙ ap decimal is

pub long-put : (o a b : List ℕ) (m n : ℕ) → 1000000 ≤ n → n < 2 ^ 64 → a ≡ o ++ m ∷ decimal (n / 1000000)
    → b ≡ a ++ last_digits 6 (n % 1000000) → b ≡ o ++ m ∷ decimal n
long-put o a b m n lo hi front back =
    back ∙ (ap (λ l. l ++ last_digits 6 (n % 1000000)) front
    ∙ (append_assoc o (m ∷ decimal (n / 1000000)) (last_digits 6 (n % 1000000)) ∙ ap (λ l. o ++ m ∷ l) (decimal-million n lo hi)))
