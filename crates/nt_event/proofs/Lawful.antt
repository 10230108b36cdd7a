-- The line of an entry is the entry.
use Rattle.std.proofs.Common.{◌≡◌, ℕ, zero, suc, ◌-◌, ◌^◌, ◌<◌, ◌≤◌, ℤ, pos, negsuc, nat_lt, List, [], ◌∷◌, length, Bool, true, false, refl}
use Rattle.std.proofs.Common.{arith, decimal, if◌then◌else◌, ◌||◌}
use Rattle.std.specs.Prelude.{Ok}
use Rattle.std.specs.Str.{IsUtf8, IsAscii, is_utf8}
use Rattle.std.proofs.Math.Pow.{pow_mono}
use Rattle.std.proofs.lemmas.Bool.{and_parts, false≢true, ltb-true}
use Rattle.std.proofs.lemmas.Bool.Decides.{nat_tests}
use Rattle.std.proofs.lemmas.Fmt.{IsAscii-decimal}
use Rattle.std.proofs.lemmas.Str.{IsUtf8-from_ascii, IsUtf8-append, IsUtf8-from_is_utf8}
use Rattle.std.proofs.lemmas.Str.Ascii.{IsAscii-nil, IsAscii-cons}
use Rattle.std.proofs.Common.{codes}
use Rattle.json.specs.Print.{quoted}
use Rattle.hex.specs.Hex.{encode_lower, lower_digits}
use Rattle.json.proofs.Printed.Utf8.{are_ascii, IsUtf8-are_ascii, IsUtf8-quoted, IsUtf8-boolean}
use Rattle.serde_json.specs.Data.{string}
use Rattle.serde_json.specs.Written.{compact_text, items_text, number_text, comma_if}
use Rattle.nt_types.specs.ShapeData.{ShapeData, ShapesData, MembersData, MemberData, no_kinds, kind, no_parts, part, kinds_list, parts_of}
use Rattle.nt_types.specs.ShapeData as kinds
use Rattle.nt_types.specs.Spelling.{IsType, AreKinds, AreMoreKinds, AreParts, AreMoreParts, is_width}
use Rattle.nt_types.specs.Rules.{AreFields}
use Rattle.nt_types.specs.TreeData.{TreeData, TreesData, flag, num, text, items, parts, pick, nothing, no_trees, tree, trees_of}
use Rattle.nt_types.specs.TreeData.{is_nothing}
use Rattle.nt_types.specs.Fits.{is_int, fits, all_trees, fit_parts, fit_kinds, fits_one}
use Rattle.nt_types.specs.TreeBytes.{HasBytes, AllHaveBytes}
use Rattle.nt_event.specs.Json.{data_of, datas_of, num_data, hex_data, line_of, InWord, InRange, AllInRange}
use Rattle.nt_event.specs.Entry.{entry_of}
use Rattle.nt_event.specs.Limits.{max_line}
use Rattle.nt_event.proofs.Fast.{compact_entry}
use Rattle.hex.proofs.HexLemmas.{IsAscii-encode_with}

-- ---- numbers of a width are numbers of a word

narrow : (bits : ℕ) → is_width bits ≡ true → bits ≤ 64
narrow bits h = grind (arith, nat_tests)

int_range : (bits : ℕ) (signed : Bool) (z : ℤ) → bits ≤ 64 → is_int bits signed z ≡ true → InWord z
int_range bits false (pos n) w h = omega (arith, ltb-true n (2 ^ bits) h, pow_mono w)
int_range bits false (negsuc n) w h = absurd (false≢true h)
int_range bits true (pos n) w h = let less : bits - 1 ≤ 64 = omega arith in omega (arith, ltb-true n (2 ^ (bits - 1)) h, pow_mono less)
int_range bits true (negsuc n) w h = let less : bits - 1 ≤ 63 = omega arith in omega (arith, ltb-true n (2 ^ (bits - 1)) h, pow_mono less)

more_kinds : (ks : ShapesData) (within : Bool) → AreKinds within ks → AreMoreKinds within ks
more_kinds no_kinds within h = absurd h
more_kinds (kind k ks) within h = h

more_parts : (ps : MembersData) → AreParts ps → AreMoreParts ps
more_parts no_parts h = absurd h
more_parts (part n k ps) h = h

one_tag : (ks : ShapesData) (tag : ℕ) (v : TreeData) → fits_one ks tag v ≡ true → tag ≤ length (kinds_list ks)
one_tag no_kinds tag v h = absurd (false≢true h)
one_tag (kind k ks) zero v h = absurd (false≢true h)
one_tag (kind k ks) (suc zero) v h = omega arith
one_tag (kind k ks) (suc (suc n)) v h = let e = one_tag ks (suc n) v h in omega (arith, e)

all_range : (k : ShapeData) (vs : TreesData) → ((v : TreeData) → fits k v ≡ true → HasBytes v → InRange v) → all_trees (fits k) vs ≡ true
    → AllHaveBytes vs → AllInRange vs
all_range k no_trees each h b = tt
all_range k (tree v vs) each h b = let p = and_parts (fits k v) (all_trees (fits k) vs) h in (each v p.0 b.0, all_range k vs each p.1 b.1)

maybe_range : (fit : Bool) (v : TreeData) → (fit ≡ true → InRange v) → (is_nothing v || fit) ≡ true → InRange v
maybe_range fit nothing each h = tt
maybe_range fit _ each h = each h

mutual
  range : (k : ShapeData) (within : Bool) (v : TreeData) → IsType within k → fits k v ≡ true → HasBytes v → InRange v
  range kinds.bool within (flag b) t h y = tt
  range kinds.char within (num z) t h y = int_range 8 false z (omega arith) h
  range kinds.byte within (num z) t h y = int_range 8 false z (omega arith) h
  range (kinds.int bits signed) within (num z) t h y = int_range bits signed z (narrow bits t) h
  range kinds.text within (text s) t h y = y
  range (kinds.list k) within (items vs) t h y = all_range k vs (λ v e b. range k within v t e b) h y
  range (kinds.maybe k) within v t h y = maybe_range (fits k v) v (λ e. range k true v t.1 e y) h
  range (kinds.fields ps) within (parts vs) t h y = parts_range ps vs (more_parts ps t.2) h y
  range (kinds.tuple ks) within (parts vs) t h y = kinds_range ks within vs (more_kinds ks within t) h y
  range (kinds.choice ks) within nothing t h y = tt
  range (kinds.choice ks) within (pick tag v) t h y =
      let few = one_tag ks tag v h in (omega (arith, few, t.0), one_range ks true tag v (more_kinds ks true t.1) h y)
  range _ within _ t h y = absurd (false≢true h)

  parts_range : (ps : MembersData) (vs : TreesData) → AreMoreParts ps → fit_parts ps vs ≡ true → AllHaveBytes vs → AllInRange vs
  parts_range no_parts no_trees t h y = tt
  parts_range no_parts (tree v vs) t h y = absurd (false≢true h)
  parts_range (part n k ps) no_trees t h y = absurd (false≢true h)
  parts_range (part n k ps) (tree v vs) t h y = let p = and_parts (fits k v) (fit_parts ps vs) h in
      (range k false v t.1 p.0 y.0, parts_range ps vs t.2 p.1 y.1)

  kinds_range : (ks : ShapesData) (within : Bool) (vs : TreesData) → AreMoreKinds within ks → fit_kinds ks vs ≡ true → AllHaveBytes vs
      → AllInRange vs
  kinds_range no_kinds within no_trees t h y = tt
  kinds_range no_kinds within (tree v vs) t h y = absurd (false≢true h)
  kinds_range (kind k ks) within no_trees t h y = absurd (false≢true h)
  kinds_range (kind k ks) within (tree v vs) t h y = let p = and_parts (fits k v) (fit_kinds ks vs) h in
      (range k within v t.0 p.0 y.0, kinds_range ks within vs t.1 p.1 y.1)

  one_range : (ks : ShapesData) (within : Bool) (tag : ℕ) (v : TreeData) → AreMoreKinds within ks → fits_one ks tag v ≡ true → HasBytes v
      → InRange v
  one_range no_kinds within tag v t h y = absurd (false≢true h)
  one_range (kind k ks) within zero v t h y = absurd (false≢true h)
  one_range (kind k ks) within (suc zero) v t h y = range k within v t.0 h y
  one_range (kind k ks) within (suc (suc n)) v t h y = one_range ks within (suc n) v t.1 h y

-- ---- a line is UTF-8

ascii_then : (x : ℕ) (xs : List ℕ) → x < 128 → IsUtf8 xs → IsUtf8 (x ∷ xs)
ascii_then x xs h u = IsUtf8-append (x ∷ []) xs (IsUtf8-from_ascii (x ∷ []) one) u
  where
    one : IsAscii (x ∷ [])
    one zero = h
    one (suc i) = omega arith

ascii_of : (xs : List ℕ) → are_ascii xs ≡ true → IsAscii xs
ascii_of [] h = IsAscii-nil
ascii_of (x ∷ xs) h = let p = and_parts (nat_lt x 128) (are_ascii xs) h in IsAscii-cons x xs (ltb-true x 128 p.0) (ascii_of xs p.1)

number_utf8 : (z : ℤ) → InWord z → IsUtf8 (number_text (num_data z))
number_utf8 (pos n) h = IsUtf8-from_ascii _ (IsAscii-decimal n h)
number_utf8 (negsuc n) h = ascii_then 45 _ (omega arith) (IsUtf8-from_ascii _ (IsAscii-decimal (suc n) (omega (arith, h))))

text_utf8 : (b : Bool) (s : List ℕ) → is_utf8 s ≡ b → IsUtf8 (compact_text (if b then string s else hex_data s))
text_utf8 true s h = IsUtf8-quoted s (IsUtf8-from_is_utf8 s h)
text_utf8 false s h =
    let digits = IsUtf8-from_ascii (encode_lower s) (IsAscii-encode_with lower_digits s (ascii_of lower_digits refl)) in
    ascii_then 123 _ (omega arith) (IsUtf8-append (quoted (codes "hex")) _
    (IsUtf8-quoted (codes "hex") (IsUtf8-are_ascii (codes "hex") refl))
    (ascii_then 58 _ (omega arith) (IsUtf8-append (quoted (encode_lower s)) _ (IsUtf8-quoted (encode_lower s) digits)
    (IsUtf8-are_ascii (125 ∷ []) refl))))

comma_utf8 : (b : Bool) → IsUtf8 (comma_if b)
comma_utf8 true = IsUtf8-are_ascii _ refl
comma_utf8 false = IsUtf8-are_ascii _ refl

mutual
  utf8 : (v : TreeData) → InRange v → IsUtf8 (compact_text (data_of v))
  utf8 (flag b) h = IsUtf8-boolean b
  utf8 (num z) h = number_utf8 z h
  utf8 (text s) h = text_utf8 (is_utf8 s) s refl
  utf8 (items vs) h = ascii_then 91 _ (omega arith) (all_utf8 false vs h)
  utf8 (parts vs) h = ascii_then 91 _ (omega arith) (all_utf8 false vs h)
  utf8 (pick tag v) h =
      ascii_then 91 _ (omega arith) (IsUtf8-append (decimal tag) _ (IsUtf8-from_ascii _ (IsAscii-decimal tag (omega (arith, h.0))))
      (ascii_then 44 _ (omega arith) (IsUtf8-append (compact_text (data_of v)) _ (utf8 v h.1) (IsUtf8-are_ascii _ refl))))
  utf8 nothing h = IsUtf8-are_ascii _ refl

  all_utf8 : (later : Bool) (vs : TreesData) → AllInRange vs → IsUtf8 (items_text later (datas_of vs))
  all_utf8 later no_trees h = IsUtf8-are_ascii _ refl
  all_utf8 later (tree v vs) h = IsUtf8-append (comma_if later) _ (comma_utf8 later)
      (IsUtf8-append (compact_text (data_of v)) _ (utf8 v h.0) (all_utf8 true vs h.1))

pub line_is_read_back : (ps : List MemberData) (ts : List TreeData) → AreFields ps → fit_parts (parts_of ps) (trees_of ts) ≡ true
    → AllHaveBytes (trees_of ts) → length (line_of (trees_of ts)) ≤ max_line
    → entry_of (parts_of ps) (line_of (trees_of ts)) ≡ Ok (trees_of ts)
line_is_read_back ps ts rules fit bytes few =
    let inside = parts_range (parts_of ps) (trees_of ts) rules.rules fit bytes in
    compact_entry ps ts (line_of (trees_of ts)) few (ascii_then 91 _ (omega arith) (all_utf8 false (trees_of ts) inside)) fit inside
    (omega (arith, rules.shallow)) refl
