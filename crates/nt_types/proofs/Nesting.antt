-- The depth of a type is seen in its text.
use Rattle.std.proofs.Common.{ℕ, List, [], ◌∷◌, ◌++◌, ◌≡◌, ◌+◌, ◌-◌, ◌≤◌, refl, sym, ◌∙◌, ap, max, Bool, true, false, append_assoc}
use Rattle.std.proofs.Common.{append-nil, arith}
use Rattle.std.proofs.lemmas.Bool.Decides.{nat_tests}
use Rattle.std.specs.Prelude.{◌==◌, ◌||◌, ◌&&◌}
use Rattle.std.specs.List.{list_all}
use Rattle.nt_lists.proofs.Bools.{and_true}
use Rattle.nt_types.specs.ShapeData.{ShapeData, ShapesData, MembersData, bool, char, byte, int, text, list, maybe, fields, tuple, choice}
use Rattle.nt_types.specs.ShapeData.{no_kinds, kind, no_parts, part}
use Rattle.nt_types.specs.Words.{is_word_byte}
use Rattle.nt_types.specs.Lines.{most_open}
use Rattle.nt_types.specs.Spelling.{spell, spell_kinds, spell_more_kinds, spell_parts, spell_more_parts, depth, deepest_kind, deepest_part}
use Rattle.nt_types.specs.Spelling.{IsType, AreKinds, AreMoreKinds, AreParts, AreMoreParts}
use Rattle.nt_types.proofs.Spelled.{name_bytes, int_text}

-- how many constructs are open at the deepest place
abbrev mutual
  height : ShapeData → ℕ
  height bool = 0
  height char = 0
  height byte = 0
  height (int bits signed) = 0
  height text = 0
  height (list k) = height k + 1
  height (maybe k) = height k + 1
  height (fields ps) = parts_height ps + 1
  height (tuple ks) = kinds_height ks + 1
  height (choice ks) = kinds_height ks + 1

  kinds_height : ShapesData → ℕ
  kinds_height no_kinds = 0
  kinds_height (kind k ks) = max (height k) (kinds_height ks)

  parts_height : MembersData → ℕ
  parts_height no_parts = 0
  parts_height (part n k ps) = max (height k) (parts_height ps)

-- a word opens and ends nothing

no_bracket : (b : ℕ) → is_word_byte b ≡ true → (((b == 60) || (b == 123)) ≡ false) × (((b == 62) || (b == 125)) ≡ false)
no_bracket b e = (grind (arith, nat_tests), grind (arith, nat_tests))

nest_word : (w rest : List ℕ) (now most : ℕ) → list_all is_word_byte w ≡ true → most_open now most (w ++ rest) ≡ most_open now most rest
nest_word [] rest now most e = refl
nest_word (b ∷ w) rest now most e =
    let both : (is_word_byte b ≡ true) × (list_all is_word_byte w ≡ true) = and_true _ _ e in
    let none = no_bracket b both.0 in
    rw (none.0, none.1) (nest_word w rest now most both.1)

leaf_most : (now most : ℕ) (rest : List ℕ) → now ≤ most → most_open now most rest ≡ most_open now (max most (now + 0)) rest
leaf_most now most rest h = let e : max most (now + 0) ≡ most = omega arith in rw e refl

-- a construct ends
closed : (now most h : ℕ) (rest : List ℕ)
    → most_open (now + 1 - 1) (max (max most (now + 1)) (now + 1 + h)) rest ≡ most_open now (max most (now + (h + 1))) rest
closed now most h rest =
    let a : now + 1 - 1 ≡ now = omega arith in
    let b : max (max most (now + 1)) (now + 1 + h) ≡ max most (now + (h + 1)) = omega arith in
    rw (a, b) refl

-- one part after another
joined : (now most a b : ℕ) (rest : List ℕ)
    → most_open now (max (max most (now + a)) (now + b)) rest ≡ most_open now (max most (now + max a b)) rest
joined now most a b rest = let e : max (max most (now + a)) (now + b) ≡ max most (now + max a b) = omega arith in rw e refl

mutual
  nest : (k : ShapeData) (within : Bool) (now most : ℕ) (rest : List ℕ) → IsType within k → now ≤ most
      → most_open now most (spell k ++ rest) ≡ most_open now (max most (now + height k)) rest
  nest bool within now most rest t h = leaf_most now most rest h
  nest char within now most rest t h = leaf_most now most rest h
  nest byte within now most rest t h = leaf_most now most rest h
  nest (int bits signed) within now most rest t h = nest_word (spell (int bits signed)) rest now most (int_text bits signed t).1
      ∙ leaf_most now most rest h
  nest text within now most rest t h = leaf_most now most rest h
  nest (list k) within now most rest t h =
      rw (append_assoc (spell k) (62 ∷ []) rest)
      (nest k within (now + 1) (max most (now + 1)) (62 ∷ rest) t (omega arith) ∙ closed now most (height k) rest)
  nest (maybe k) within now most rest t h =
      rw (append_assoc (spell k) (62 ∷ []) rest)
      (nest k true (now + 1) (max most (now + 1)) (62 ∷ rest) t.1 (omega arith) ∙ closed now most (height k) rest)
  nest (fields ps) within now most rest t h =
      rw (append_assoc (spell_parts ps) (125 ∷ []) rest)
      (nest_parts ps (now + 1) (max most (now + 1)) (125 ∷ rest) t.2 (omega arith) ∙ closed now most (parts_height ps) rest)
  nest (tuple ks) within now most rest t h =
      rw (append_assoc (spell_kinds ks) (62 ∷ []) rest)
      (nest_kinds ks within (now + 1) (max most (now + 1)) (62 ∷ rest) t (omega arith) ∙ closed now most (kinds_height ks) rest)
  nest (choice ks) within now most rest t h =
      rw (append_assoc (spell_kinds ks) (62 ∷ []) rest)
      (nest_kinds ks true (now + 1) (max most (now + 1)) (62 ∷ rest) t.1 (omega arith) ∙ closed now most (kinds_height ks) rest)

  nest_kinds : (ks : ShapesData) (within : Bool) (now most : ℕ) (rest : List ℕ) → AreKinds within ks → now ≤ most
      → most_open now most (spell_kinds ks ++ rest) ≡ most_open now (max most (now + kinds_height ks)) rest
  nest_kinds no_kinds within now most rest t h = absurd t
  nest_kinds (kind k ks) within now most rest t h =
      rw (append_assoc (spell k) (spell_more_kinds ks) rest)
      (nest k within now most (spell_more_kinds ks ++ rest) t.0 h
      ∙ nest_more_kinds ks within now (max most (now + height k)) rest t.1 (omega arith)
      ∙ joined now most (height k) (kinds_height ks) rest)

  nest_more_kinds : (ks : ShapesData) (within : Bool) (now most : ℕ) (rest : List ℕ) → AreMoreKinds within ks → now ≤ most
      → most_open now most (spell_more_kinds ks ++ rest) ≡ most_open now (max most (now + kinds_height ks)) rest
  nest_more_kinds no_kinds within now most rest t h = leaf_most now most rest h
  nest_more_kinds (kind k ks) within now most rest t h =
      rw (append_assoc (spell k) (spell_more_kinds ks) rest)
      (nest k within now most (spell_more_kinds ks ++ rest) t.0 h
      ∙ nest_more_kinds ks within now (max most (now + height k)) rest t.1 (omega arith)
      ∙ joined now most (height k) (kinds_height ks) rest)

  nest_parts : (ps : MembersData) (now most : ℕ) (rest : List ℕ) → AreParts ps → now ≤ most
      → most_open now most (spell_parts ps ++ rest) ≡ most_open now (max most (now + parts_height ps)) rest
  nest_parts no_parts now most rest t h = absurd t
  nest_parts (part n k ps) now most rest t h =
      rw (append_assoc n (58 ∷ (spell k ++ spell_more_parts ps)) rest, append_assoc (spell k) (spell_more_parts ps) rest)
      (nest_word n (58 ∷ (spell k ++ (spell_more_parts ps ++ rest))) now most (name_bytes n t.0)
      ∙ nest k false now most (spell_more_parts ps ++ rest) t.1 h
      ∙ nest_more_parts ps now (max most (now + height k)) rest t.2 (omega arith) ∙ joined now most (height k) (parts_height ps) rest)

  nest_more_parts : (ps : MembersData) (now most : ℕ) (rest : List ℕ) → AreMoreParts ps → now ≤ most
      → most_open now most (spell_more_parts ps ++ rest) ≡ most_open now (max most (now + parts_height ps)) rest
  nest_more_parts no_parts now most rest t h = leaf_most now most rest h
  nest_more_parts (part n k ps) now most rest t h =
      rw (append_assoc n (58 ∷ (spell k ++ spell_more_parts ps)) rest, append_assoc (spell k) (spell_more_parts ps) rest)
      (nest_word n (58 ∷ (spell k ++ (spell_more_parts ps ++ rest))) now most (name_bytes n t.0)
      ∙ nest k false now most (spell_more_parts ps ++ rest) t.1 h
      ∙ nest_more_parts ps now (max most (now + height k)) rest t.2 (omega arith) ∙ joined now most (height k) (parts_height ps) rest)

-- the depth is one more than the height

mutual
  depth-height : (k : ShapeData) (within : Bool) → IsType within k → depth k ≡ height k + 1
  depth-height bool within t = refl
  depth-height char within t = refl
  depth-height byte within t = refl
  depth-height (int bits signed) within t = refl
  depth-height text within t = refl
  depth-height (list k) within t = ap (λ n. n + 1) (depth-height k within t)
  depth-height (maybe k) within t = ap (λ n. n + 1) (depth-height k true t.1)
  depth-height (fields ps) within t = ap (λ n. n + 1) (deepest_part-height ps t.2)
  depth-height (tuple ks) within t = ap (λ n. n + 1) (deepest_kind-height ks within t)
  depth-height (choice ks) within t = ap (λ n. n + 1) (deepest_kind-height ks true t.1)

  deepest_kind-height : (ks : ShapesData) (within : Bool) → AreKinds within ks → deepest_kind ks ≡ kinds_height ks + 1
  deepest_kind-height no_kinds within t = absurd t
  deepest_kind-height (kind k ks) within t =
      let a : depth k ≡ height k + 1 = depth-height k within t.0 in
      let b : max (height k + 1) (deepest_kind ks) ≡ max (height k) (kinds_height ks) + 1 = more_kind-height ks within (height k) t.1 in
      rw a b

  more_kind-height : (ks : ShapesData) (within : Bool) (h : ℕ) → AreMoreKinds within ks
      → max (h + 1) (deepest_kind ks) ≡ max h (kinds_height ks) + 1
  more_kind-height no_kinds within h t = omega arith
  more_kind-height (kind k ks) within h t =
      let a : depth k ≡ height k + 1 = depth-height k within t.0 in
      let b : max (height k + 1) (deepest_kind ks) ≡ max (height k) (kinds_height ks) + 1 = more_kind-height ks within (height k) t.1 in
      omega (arith, a, b)

  deepest_part-height : (ps : MembersData) → AreParts ps → deepest_part ps ≡ parts_height ps + 1
  deepest_part-height no_parts t = absurd t
  deepest_part-height (part n k ps) t =
      let a : depth k ≡ height k + 1 = depth-height k false t.1 in
      let b : max (height k + 1) (deepest_part ps) ≡ max (height k) (parts_height ps) + 1 = more_part-height ps (height k) t.2 in
      rw a b

  more_part-height : (ps : MembersData) (h : ℕ) → AreMoreParts ps → max (h + 1) (deepest_part ps) ≡ max h (parts_height ps) + 1
  more_part-height no_parts h t = omega arith
  more_part-height (part n k ps) h t =
      let a : depth k ≡ height k + 1 = depth-height k false t.1 in
      let b : max (height k + 1) (deepest_part ps) ≡ max (height k) (parts_height ps) + 1 = more_part-height ps (height k) t.2 in
      omega (arith, a, b)

-- the depth of a type is one more than the most constructs that are open in its text
pub most_open-spell : (k : ShapeData) → IsType false k → most_open 0 0 (spell k) + 1 ≡ depth k
most_open-spell k t =
    let most : most_open 0 0 (spell k) ≡ max 0 (0 + height k) = ap (most_open 0 0) (sym (append-nil (spell k)))
    ∙ nest k false 0 0 [] t (omega arith) in
    let deep : depth k ≡ height k + 1 = depth-height k false t in
    omega (arith, most, deep)
