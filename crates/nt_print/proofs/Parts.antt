-- Lists of integers that are printed a part at a time.
use Rattle.std.proofs.Common.{inl, inr}
use Rattle.std.proofs.Common.{◌≡◌, ℕ, ℤ, pos, suc, ◌+◌, ◌-◌, ◌*◌, ◌/◌, ◌<◌, ◌≤◌, Bool, true, List, [], ◌∷◌, ◌++◌, ltb, length}
use Rattle.std.proofs.Common.{map, take, drop, sym, ap, ◌∙◌, refl, subst, arith, append_assoc, append-nil}
use Rattle.std.specs.List.{slice_range}
use Rattle.std.proofs.lemmas.List.{map-append, take-append-drop, take-append-le, drop-drop, take-take, drop-take}
use Rattle.std.proofs.lemmas.List.{length-map, length-append, length-drop, length-take-le}
use Rattle.std.proofs.lemmas.Bool.{lt-ltb, le-ltb, cases_lt}
use Rattle.nt_column.proofs.Numbers.{length-numbers, numbers-range}
use Rattle.serde_json.specs.Written.{compact_text, items_text}
use Rattle.nt_types.specs.TreeData.{num}
use Rattle.nt_event.specs.Json.{data_of, datas_of, line_of}
use Rattle.nt_column.specs.Elements.{Element, numbers}
use Rattle.nt_trees.specs.Integers.{integer_of}
use Rattle.nt_print.specs.Integers.{integer_trees, integers_text, AreBelow}
use Rattle.nt_print.specs.Marks.{end_of}
use Rattle.nt_print.proofs.Arrays.{kept-more, kept-self}

-- some integers stand behind what was there, and with these others, behind a mark, all do
pub record IsPut (old new : List ℕ) (mark : ℕ) (left : List ℤ) (whole : List ℕ) : Type 0 where
  pub text : new ++ integers_text mark left ≡ old ++ whole
  pub kept : take (length old) new ≡ old

-- before the first
pub IsPut-none : (old : List ℕ) (mark : ℕ) (zs : List ℤ) → IsPut old old mark zs (integers_text mark zs)
IsPut-none old mark zs = record { text = refl; kept = kept-self old }

-- after one more
pub IsPut-next : (old new next : List ℕ) (mark : ℕ) (z : ℤ) (left rest : List ℤ) (whole : List ℕ) → left ≡ z ∷ rest
    → IsPut old new mark left whole → next ≡ new ++ mark ∷ compact_text (data_of (num z)) → IsPut old next 44 rest whole
IsPut-next old new next mark z left rest whole is b value =
    let piece = mark ∷ compact_text (data_of (num z)) in
    let others = integers_text 44 rest in
    record {
      text = ap (λ l. l ++ others) value
          ∙ append_assoc new piece others
          ∙ ap (λ zs. new ++ integers_text mark zs) (sym is) ∙ b.text;
      kept = subst (λ l. take (length old) l ≡ old) (sym value) (kept-more old new piece b.kept);
    }

-- texts of a part and of the rest
behind-append : (xs ys : List ℤ) → integers_text 44 (xs ++ ys) ≡ integers_text 44 xs ++ integers_text 44 ys
behind-append [] ys = refl
behind-append (x ∷ xs) ys =
    let t = 44 ∷ compact_text (data_of (num x)) in
    ap (λ l. t ++ l) (behind-append xs ys) ∙ sym (append_assoc t (integers_text 44 xs) (integers_text 44 ys))

text-append : (mark : ℕ) (xs ys : List ℤ) → 0 < length xs → integers_text mark (xs ++ ys) ≡ integers_text mark xs ++ integers_text 44 ys
text-append mark [] ys some = absurd (omega (arith, some))
text-append mark (x ∷ xs) ys some =
    let t = mark ∷ compact_text (data_of (num x)) in
    ap (λ l. t ++ l) (behind-append xs ys) ∙ sym (append_assoc t (integers_text 44 xs) (integers_text 44 ys))

-- after one more part
pub IsPut-part : (old new next : List ℕ) (mark : ℕ) (part left rest : List ℤ) (whole : List ℕ) → left ≡ part ++ rest → 0 < length part
    → IsPut old new mark left whole → next ≡ new ++ integers_text mark part → IsPut old next 44 rest whole
IsPut-part old new next mark part left rest whole is some b value =
    let piece = integers_text mark part in
    let others = integers_text 44 rest in
    record {
      text = ap (λ l. l ++ others) value
          ∙ append_assoc new piece others
          ∙ ap (λ l. new ++ l) (sym (text-append mark part rest some))
          ∙ ap (λ zs. new ++ integers_text mark zs) (sym is) ∙ b.text;
      kept = subst (λ l. take (length old) l ≡ old) (sym value) (kept-more old new piece b.kept);
    }

-- after the last
pub IsPut-all : (old new : List ℕ) (mark : ℕ) (left : List ℤ) (whole : List ℕ) → left ≡ [] → IsPut old new mark left whole
    → new ≡ old ++ whole
IsPut-all old new mark left whole none b =
    sym (append-nil new) ∙ ap (λ zs. new ++ integers_text mark zs) (sym none) ∙ b.text

-- numbers from a place on are those of a part and of the others
range-split : (ns : List ℕ) (a b c : ℕ) → a ≤ b → b ≤ c → slice_range ns a c ≡ slice_range ns a b ++ slice_range ns b c
range-split ns a b c first second =
    let all : (b - a) + (c - b) ≡ c - a = omega arith in
    let next : a + (b - a) ≡ b = omega arith in
    let rest : drop (b - a) (drop a ns) ≡ drop b ns = drop-drop (b - a) a ns ∙ ap (λ n. drop n ns) next in
    sym (ap (λ n. take n (drop a ns)) all)
    ∙ (sym (take-append-drop (b - a) (take ((b - a) + (c - b)) (drop a ns)))
    ∙ (ap (λ l. l ++ drop (b - a) (take ((b - a) + (c - b)) (drop a ns))) (take-take (b - a) ((b - a) + (c - b)) (drop a ns) (omega arith))
    ∙ ap (λ l. slice_range ns a b ++ l) (drop-take (b - a) (c - b) (drop a ns) ∙ ap (take (c - b)) rest)))

-- and so are their integers
pub read-more : (f : ℕ → ℤ) (ns : List ℕ) (a b c : ℕ) → a ≤ b → b ≤ c
    → map f (slice_range ns a c) ≡ map f (slice_range ns a b) ++ map f (slice_range ns b c)
read-more f ns a b c first second =
    ap (map f) (range-split ns a b c first second) ∙ map-append f (slice_range ns a b) (slice_range ns b c)

-- eight words have an integer
pub eight-some : {A : Type 0} (n : A → ℕ) (f : ℕ → ℤ) (ws : List A) (i : ℕ) → i < length ws / 8
    → 0 < length (map f (map n (slice_range ws (8 * i) (8 * i + 8))))
eight-some n f ws i lt =
    let part = slice_range ws (8 * i) (8 * i + 8) in
    let len : length part ≡ (8 * i + 8) - 8 * i = length-take-le ((8 * i + 8) - 8 * i) (drop (8 * i) ws)
    (omega (arith, lt, length-drop (8 * i) ws)) in
    omega (arith, length-map (map n part) f, length-map part n, len)

-- the integers of some words from a place on are those of eight and of the others
pub eight-more : {A : Type 0} (n : A → ℕ) (f : ℕ → ℤ) (ws : List A) (i : ℕ)
    → map f (map n (drop (8 * i) ws)) ≡ map f (map n (slice_range ws (8 * i) (8 * i + 8))) ++ map f (map n (drop (8 * (i + 1)) ws))
eight-more {A = A} n f ws i =
    let few : (8 * i + 8) - 8 * i ≡ 8 = omega arith in
    let place : 8 * i + 8 ≡ 8 * (i + 1) = omega arith in
    let rest : drop 8 (drop (8 * i) ws) ≡ drop (8 * (i + 1)) ws = drop-drop 8 (8 * i) ws ∙ ap (λ k. drop k ws) place in
    let part : take 8 (drop (8 * i) ws) ≡ slice_range ws (8 * i) (8 * i + 8) = ap (λ k. take k (drop (8 * i) ws)) (sym few) in
    let split : drop (8 * i) ws ≡ slice_range ws (8 * i) (8 * i + 8) ++ drop (8 * (i + 1)) ws =
    sym (take-append-drop 8 (drop (8 * i) ws)) ∙ ap (λ l. l ++ drop 8 (drop (8 * i) ws)) part
    ∙ ap (λ l. slice_range ws (8 * i) (8 * i + 8) ++ l) rest in
    ap (λ l. map f (map n l)) split
    ∙ ap (map f) (map-append n (slice_range ws (8 * i) (8 * i + 8)) (drop (8 * (i + 1)) ws))
    ∙ map-append f (map n (slice_range ws (8 * i) (8 * i + 8))) (map n (drop (8 * (i + 1)) ws))

-- numbers below one are below a larger
pub below-more : (a b : ℕ) (ns : List ℕ) → a ≤ b → AreBelow a ns → AreBelow b ns
below-more a b [] le below = tt
below-more a b (n ∷ ns) le below = (omega (arith, le, below.0), below-more a b ns le below.1)

-- numbers that stand for themselves
pub integers-below : (bits : ℕ) (signed : Bool) (end : ℕ) (ns : List ℕ) → ((n : ℕ) → n < end → integer_of bits signed n ≡ pos n)
    → AreBelow end ns → map pos ns ≡ map (integer_of bits signed) ns
integers-below bits signed end [] same below = refl
integers-below bits signed end (n ∷ ns) same below =
    ap (λ z. z ∷ map pos ns) (sym (same n below.0))
    ∙ ap (λ zs. integer_of bits signed n ∷ zs) (integers-below bits signed end ns same below.1)

-- ---- a whole array

items-put : (bits : ℕ) (signed : Bool) (ns : List ℕ)
    → items_text true (datas_of (integer_trees bits signed ns)) ≡ integers_text 44 (map (integer_of bits signed) ns) ++ 93 ∷ []
items-put bits signed [] = refl
items-put bits signed (n ∷ ns) =
    let t = 44 ∷ compact_text (data_of (num (integer_of bits signed n))) in
    ap (λ l. t ++ l) (items-put bits signed ns)
    ∙ sym (append_assoc t (integers_text 44 (map (integer_of bits signed) ns)) (93 ∷ []))

-- the array of some integers: their texts and its end
pub line-ended : (bits : ℕ) (signed : Bool) (ns : List ℕ) (later : Bool) → later ≡ ltb 0 (length ns)
    → integers_text 91 (map (integer_of bits signed) ns) ++ end_of later ≡ line_of (integer_trees bits signed ns)
line-ended bits signed [] later is = ap end_of is
line-ended bits signed (n ∷ ns) later is =
    let t = 91 ∷ compact_text (data_of (num (integer_of bits signed n))) in
    let some : later ≡ true = is ∙ lt-ltb 0 (length (n ∷ ns)) (omega arith) in
    ap (λ b. integers_text 91 (map (integer_of bits signed) (n ∷ ns)) ++ end_of b) some
    ∙ (append_assoc t (integers_text 44 (map (integer_of bits signed) ns)) (93 ∷ []) ∙ ap (λ l. t ++ l) (sym (items-put bits signed ns)))

-- ---- numbers that are read

map-self : (xs : List ℕ) → map (λ (m : ℕ). m) xs ≡ xs
map-self [] = refl
map-self (x ∷ xs) = ap (λ (l : List ℕ). x ∷ l) (map-self xs)

-- after a part that was read
pub IsPut-read : (old new next : List ℕ) (mark : ℕ) (f : ℕ → ℤ) (ns words read : List ℕ) (at n to : ℕ) (whole : List ℕ)
    → IsPut old new mark (map f (slice_range ns at to)) whole → 0 < n → at + n ≤ to → to ≤ length ns
    → take n read ≡ slice_range ns at (at + n) → words ≡ take n read
    → next ≡ new ++ integers_text mark (map f (map (λ (m : ℕ). m) words))
    → IsPut old next 44 (map f (slice_range ns (at + n) to)) whole
IsPut-read old new next mark f ns words read at n to whole b some within room is front value =
    let part : List ℕ = slice_range ns at (at + n) in
    let same : map f (map (λ (m : ℕ). m) words) ≡ map f part = ap (map f) (map-self words ∙ (front ∙ is)) in
    let len : length part ≡ at + n - at = length-take-le (at + n - at) (drop at ns) (omega (arith, length-drop at ns, within, room)) in
    IsPut-part old new next mark (map f part) (map f (slice_range ns at to)) (map f (slice_range ns (at + n) to)) whole
    (read-more f ns at (at + n) to (omega arith) within) (omega (arith, length-map part f, len, some)) b
    (value ∙ ap (λ zs. new ++ integers_text mark zs) same)

-- whether there are numbers of a part
some-later : (from to n : ℕ) → from ≤ to → n ≡ to - from → ltb from to ≡ ltb 0 n
some-later from to n order is = elim (cases_lt from to) [
  | inl l ↦ lt-ltb from to l ∙ sym (lt-ltb 0 n (omega arith))
  | inr r ↦ le-ltb from to r ∙ sym (le-ltb 0 n (omega arith))
]

-- after all numbers of a part
pub IsPut-read_all : (old new : List ℕ) (first mark bits : ℕ) (signed : Bool) (es : List Element) (from to at : ℕ) → to ≤ at
    → IsPut old new mark (map (integer_of bits signed) (slice_range (numbers es) at to))
    (integers_text first (map (integer_of bits signed) (slice_range (numbers es) from to)))
    → new ≡ old ++ integers_text first (map (integer_of bits signed) (numbers (slice_range es from to)))
IsPut-read_all old new first mark bits signed es from to at behind b =
    let integer : ℕ → ℤ = integer_of bits signed in
    let none : to - at ≡ 0 = omega arith in
    let nothing : map integer (slice_range (numbers es) at to) ≡ [] = ap (λ n. map integer (take n (drop at (numbers es)))) none in
    let all : List ℕ = integers_text first (map integer (slice_range (numbers es) from to)) in
    IsPut-all old new mark (map integer (slice_range (numbers es) at to)) all nothing b
    ∙ ap (λ (l : List ℕ). old ++ integers_text first (map integer l)) (sym (numbers-range es from to))

-- a mark, all numbers of a part, and an end
pub line-put : (old a b next : List ℕ) (mark bits : ℕ) (signed : Bool) (es : List Element) (from to : ℕ) → from ≤ to → to ≤ length es
    → a ≡ old ++ mark ∷ [] → b ≡ a ++ integers_text 91 (map (integer_of bits signed) (numbers (slice_range es from to)))
    → next ≡ b ++ end_of (ltb from to)
    → next ≡ old ++ mark ∷ line_of (integer_trees bits signed (numbers (slice_range es from to)))
line-put old a b next mark bits signed es from to order within begun items is =
    let ns : List ℕ = numbers (slice_range es from to) in
    let text : List ℕ = integers_text 91 (map (integer_of bits signed) ns) in
    let later : Bool = ltb from to in
    let len : length ns ≡ to - from =
    length-numbers (slice_range es from to) ∙ length-take-le (to - from) (drop from es) (omega (arith, length-drop from es, within)) in
    is
    ∙ (ap (λ (l : List ℕ). l ++ end_of later) items
    ∙ (append_assoc a text (end_of later)
    ∙ (ap (λ (l : List ℕ). l ++ (text ++ end_of later)) begun
    ∙ (append_assoc old (mark ∷ []) (text ++ end_of later)
    ∙ ap (λ (l : List ℕ). old ++ mark ∷ l) (line-ended bits signed ns later (some-later from to (length ns) order len))))))

-- ---- room that is written to

-- what stands behind so many bytes
pub take-behind : (p q : List ℕ) (c : ℕ) → take (length p + c) (p ++ q) ≡ p ++ take c q
take-behind [] q c =
    let none : 0 + c ≡ c = omega arith in
    ap (λ n. take n q) none
take-behind (x ∷ p) q c =
    let more : length (x ∷ p) + c ≡ suc (length p + c) = omega arith in
    ap (λ n. take n (x ∷ (p ++ q))) more ∙ ap (λ l. x ∷ l) (take-behind p q c)

-- bytes behind others of which only the first few count
pub few-placed : (p room bytes text : List ℕ) (at c : ℕ) → length p ≡ at → c ≤ 8 → take (at + 8) room ≡ p ++ bytes → take c bytes ≡ text
    → take (at + c) room ≡ p ++ text
few-placed p room bytes text at c len few is front =
    let place : at + c ≡ length p + c = omega (arith, len) in
    sym (take-take (at + c) (at + 8) room (omega (arith, few)))
    ∙ (ap (take (at + c)) is ∙ (ap (λ n. take n (p ++ bytes)) place ∙ (take-behind p bytes c ∙ ap (λ l. p ++ l) front)))

-- what was there, room that was written to, and more, cut behind so many bytes
pub room-cut : (o all room post rest text : List ℕ) (n len c : ℕ) → take len all ≡ o → length o ≡ len → len + c ≤ n → c ≤ length room
    → take c room ≡ text → take (len + c) (take n ((take len all ++ (room ++ post)) ++ rest)) ≡ o ++ text
room-cut o all room post rest text n len c front count most within is =
    let whole = o ++ (room ++ post) in
    let place : len + c ≡ length o + c = omega (arith, count) in
    let enough : len + c ≤ length whole = omega (arith, count, within, length-append o (room ++ post), length-append room post) in
    ap (λ l. take (len + c) (take n ((l ++ (room ++ post)) ++ rest))) front
    ∙ (take-take (len + c) n (whole ++ rest) most
    ∙ (take-append-le (len + c) whole rest enough
    ∙ (ap (λ k. take k whole) place
    ∙ (take-behind o (room ++ post) c ∙ ap (λ l. o ++ l) (take-append-le c room post within ∙ is)))))
