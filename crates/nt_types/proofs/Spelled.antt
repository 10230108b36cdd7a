-- What is spelled is read.
use Rattle.std.proofs.Common.{ℕ, List, [], ◌∷◌, ◌++◌, ◌≡◌, ◌≤◌, refl, sym, ◌∙◌, ap, Bool, true, false, Option, Some, None, length}
use Rattle.std.proofs.Common.{append_assoc, append-nil, subst, arith, inl, inr}
use Rattle.std.proofs.lemmas.Bool.Decides.{nat_tests}
use Rattle.std.specs.Prelude.{◌⊎◌, option_and_then, nat_le, ◌&&◌, codes}
use Rattle.std.specs.List.{list_all}
use Rattle.nt_lists.proofs.Bools.{and_true}
use Rattle.nt_types.specs.ShapeData.{ShapeData, ShapesData, MembersData, MemberData, bool, char, byte, int, text, list, maybe, fields}
use Rattle.nt_types.specs.ShapeData.{tuple, choice, no_kinds, kind, no_parts, part, kinds_of, parts_of, kinds_list, parts_list}
use Rattle.nt_types.specs.Words.{is_word_byte, is_name, leaf}
use Rattle.nt_types.specs.Names.{names_differ}
use Rattle.nt_types.specs.Reading.{OpenData, in_list, in_maybe, at_name, in_member, in_tuple, in_choice, ReadingData, place_on, ended_on}
use Rattle.nt_types.specs.Reading.{read, read_kind}
use Rattle.nt_types.specs.Spelling.{spell, spell_more_kinds, spell_more_parts, is_width, IsType, AreKinds, AreMoreKinds, AreParts}
use Rattle.nt_types.specs.Spelling.{AreMoreParts}

-- what may follow a part
data IsEnd : List ℕ → Type 0 where
  at_end : IsEnd []
  at_comma : {bs : List ℕ} → IsEnd (44 ∷ bs)
  at_angle : {bs : List ℕ} → IsEnd (62 ∷ bs)
  at_brace : {bs : List ℕ} → IsEnd (125 ∷ bs)

abbrev inside : List OpenData → Bool → ReadingData
inside os within = record { stack = os; within = within; done = None }

-- what is read once a part has ended
abbrev after : List OpenData → Bool → ShapeData → List ℕ → Option ShapeData
after os within k [] = ended_on os k
after os within k (b ∷ bs) = option_and_then (λ t. read true t [] bs) (place_on true within os k b)

after_leaf : (os : List OpenData) (within : Bool) (w : List ℕ) (k : ShapeData) (rest : List ℕ) → leaf w ≡ Some k → IsEnd rest
    → read true (inside os within) w rest ≡ after os within k rest
after_leaf os within w k rest e at_end = rw e refl
after_leaf os within w k rest e at_comma = rw e refl
after_leaf os within w k rest e at_angle = rw e refl
after_leaf os within w k rest e at_brace = rw e refl

after_done : (os : List OpenData) (within : Bool) (k : ShapeData) (rest : List ℕ) → IsEnd rest
    → read true (record { stack = os; within = within; done = Some k }) [] rest ≡ after os within k rest
after_done os within k rest at_end = refl
after_done os within k rest at_comma = refl
after_done os within k rest at_angle = refl
after_done os within k rest at_brace = refl

-- a word is read whole
word_read : (s : ReadingData) (u w rest : List ℕ) → list_all is_word_byte w ≡ true → read true s u (w ++ rest) ≡ read true s (u ++ w) rest
word_read s u [] rest e = rw append-nil refl
word_read s u (b ∷ w) rest e =
    let both : (is_word_byte b ≡ true) × (list_all is_word_byte w ≡ true) = and_true _ _ e in
    rw both.0 (word_read s (u ++ b ∷ []) w rest both.1 ∙ ap (λ (l : List ℕ). read true s l rest) (append_assoc u (b ∷ []) w))

pub name_bytes : (n : List ℕ) → is_name n ≡ true → list_all is_word_byte n ≡ true
name_bytes [] e = cc
name_bytes (b ∷ bs) e = (and_true _ _ e).1

kinds_of-list : (ks : ShapesData) → kinds_of (kinds_list ks) ≡ ks
kinds_of-list no_kinds = refl
kinds_of-list (kind k ks) = ap (kind k) (kinds_of-list ks)

parts_of-list : (ps : MembersData) → parts_of (parts_list ps) ≡ ps
parts_of-list no_parts = refl
parts_of-list (part n k ps) = ap (part n k) (parts_of-list ps)

-- the name of a member is read, and the colon
member_read : (os : List OpenData) (acc : List MemberData) (n rest : List ℕ) → is_name n ≡ true
    → read true (inside (at_name acc ∷ os) false) [] (n ++ 58 ∷ rest) ≡ read true (inside (in_member acc n ∷ os) false) [] rest
member_read os acc n rest e = word_read (inside (at_name acc ∷ os) false) [] n (58 ∷ rest) (name_bytes n e) ∙ rw e refl

-- integers

pub width_cases : (bits : ℕ) → is_width bits ≡ true → (bits ≡ 8) ⊎ ((bits ≡ 16) ⊎ ((bits ≡ 32) ⊎ (bits ≡ 64)))
width_cases bits e = grind (arith, nat_tests)

abbrev pub IsIntText : Bool → ℕ → Type 0
IsIntText signed bits = (leaf (spell (int bits signed)) ≡ Some (int bits signed)) × (list_all is_word_byte (spell (int bits signed)) ≡ true)

int_text_8 : (signed : Bool) → IsIntText signed 8
int_text_8 true = (refl, refl)
int_text_8 false = (refl, refl)

int_text_16 : (signed : Bool) → IsIntText signed 16
int_text_16 true = (refl, refl)
int_text_16 false = (refl, refl)

int_text_32 : (signed : Bool) → IsIntText signed 32
int_text_32 true = (refl, refl)
int_text_32 false = (refl, refl)

int_text_64 : (signed : Bool) → IsIntText signed 64
int_text_64 true = (refl, refl)
int_text_64 false = (refl, refl)

int_text_cases : (bits : ℕ) (signed : Bool) → (bits ≡ 8) ⊎ ((bits ≡ 16) ⊎ ((bits ≡ 32) ⊎ (bits ≡ 64))) → IsIntText signed bits
int_text_cases bits signed (inl e) = subst (IsIntText signed) (sym e) (int_text_8 signed)
int_text_cases bits signed (inr (inl e)) = subst (IsIntText signed) (sym e) (int_text_16 signed)
int_text_cases bits signed (inr (inr (inl e))) = subst (IsIntText signed) (sym e) (int_text_32 signed)
int_text_cases bits signed (inr (inr (inr e))) = subst (IsIntText signed) (sym e) (int_text_64 signed)

pub int_text : (bits : ℕ) (signed : Bool) → is_width bits ≡ true → IsIntText signed bits
int_text bits signed e = int_text_cases bits signed (width_cases bits e)

-- what follows a part

end_kinds : (ks : ShapesData) (rest : List ℕ) → IsEnd (spell_more_kinds ks ++ 62 ∷ rest)
end_kinds no_kinds rest = at_angle
end_kinds (kind k ks) rest = at_comma

end_parts : (ps : MembersData) (rest : List ℕ) → IsEnd (spell_more_parts ps ++ 125 ∷ rest)
end_parts no_parts rest = at_brace
end_parts (part n k ps) rest = at_comma

few_tested : (n : ℕ) → n ≤ 100 → nat_le n 100 ≡ true
few_tested n h = grind (arith, nat_tests)

mutual
  spelled : (k : ShapeData) (os : List OpenData) (within : Bool) (rest : List ℕ) → IsType within k → IsEnd rest
      → read true (inside os within) [] (spell k ++ rest) ≡ after os within k rest
  spelled bool os within rest t e = after_leaf os within (codes "bool") bool rest refl e
  spelled char os within rest t e = after_leaf os within (codes "char") char rest refl e
  spelled byte os within rest t e = after_leaf os within (codes "byte") byte rest refl e
  spelled (int bits signed) os within rest t e =
      let facts = int_text bits signed t in
      word_read (inside os within) [] (spell (int bits signed)) rest facts.1
      ∙ after_leaf os within (spell (int bits signed)) (int bits signed) rest facts.0 e
  spelled text os within rest t e = after_leaf os within (codes "string") text rest refl e
  spelled (list k) os within rest t e =
      rw (append_assoc (spell k) (62 ∷ []) rest)
      (spelled k (in_list ∷ os) within (62 ∷ rest) t at_angle ∙ after_done os within (list k) rest e)
  spelled (maybe k) os within rest t e =
      rw (append_assoc (spell k) (62 ∷ []) rest)
      (spelled k (in_maybe within ∷ os) true (62 ∷ rest) t.1 at_angle ∙ rw t.0 (after_done os within (maybe k) rest e))
  spelled (fields ps) os within rest t e =
      subst (λ (v : Bool). read true (inside os v) [] (spell (fields ps) ++ rest) ≡ after os v (fields ps) rest) (sym t.0)
      (spelled_parts ps os rest t.1 t.2 e)
  spelled (tuple ks) os within rest t e = spelled_tuple ks os within rest t e
  spelled (choice ks) os within rest t e = spelled_choice ks os within rest t.0 t.1 e

  spelled_tuple : (ks : ShapesData) (os : List OpenData) (within : Bool) (rest : List ℕ) → AreKinds within ks → IsEnd rest
      → read true (inside os within) [] (spell (tuple ks) ++ rest) ≡ after os within (tuple ks) rest
  spelled_tuple no_kinds os within rest t e = absurd t
  spelled_tuple (kind k ks) os within rest t e =
      rw (append_assoc (spell k ++ spell_more_kinds ks) (62 ∷ []) rest, append_assoc (spell k) (spell_more_kinds ks) (62 ∷ rest))
      (spelled k (in_tuple [] ∷ os) within (spell_more_kinds ks ++ 62 ∷ rest) t.0 (end_kinds ks rest)
      ∙ spelled_more_tuple ks [] k os within rest t.1 e
      ∙ ap (λ (l : ShapesData). after os within (tuple (kind k l)) rest) (kinds_of-list ks))

  spelled_more_tuple : (ks : ShapesData) (acc : List ShapeData) (k : ShapeData) (os : List OpenData) (within : Bool) (rest : List ℕ)
      → AreMoreKinds within ks → IsEnd rest
      → after (in_tuple acc ∷ os) within k (spell_more_kinds ks ++ 62 ∷ rest) ≡ after os within
      (tuple (kinds_of (acc ++ k ∷ kinds_list ks))) rest
  spelled_more_tuple no_kinds acc k os within rest t e = after_done os within (tuple (kinds_of (acc ++ k ∷ []))) rest e
  spelled_more_tuple (kind k' ks) acc k os within rest t e =
      rw (append_assoc (spell k') (spell_more_kinds ks) (62 ∷ rest))
      (spelled k' (in_tuple (acc ++ k ∷ []) ∷ os) within (spell_more_kinds ks ++ 62 ∷ rest) t.0 (end_kinds ks rest)
      ∙ spelled_more_tuple ks (acc ++ k ∷ []) k' os within rest t.1 e
      ∙ ap (λ (l : List ShapeData). after os within (tuple (kinds_of l)) rest) (append_assoc acc (k ∷ []) (k' ∷ kinds_list ks)))

  spelled_choice : (ks : ShapesData) (os : List OpenData) (within : Bool) (rest : List ℕ) → length (kinds_list ks) ≤ 100 → AreKinds true ks
      → IsEnd rest
      → read true (inside os within) [] (spell (choice ks) ++ rest) ≡ after os within (choice ks) rest
  spelled_choice no_kinds os within rest few t e = absurd t
  spelled_choice (kind k ks) os within rest few t e =
      rw (append_assoc (spell k ++ spell_more_kinds ks) (62 ∷ []) rest, append_assoc (spell k) (spell_more_kinds ks) (62 ∷ rest))
      (spelled k (in_choice within [] ∷ os) true (spell_more_kinds ks ++ 62 ∷ rest) t.0 (end_kinds ks rest)
      ∙ spelled_more_choice ks [] k os within rest few t.1 e
      ∙ ap (λ (l : ShapesData). after os within (choice (kind k l)) rest) (kinds_of-list ks))

  spelled_more_choice : (ks : ShapesData) (acc : List ShapeData) (k : ShapeData) (os : List OpenData) (within : Bool) (rest : List ℕ)
      → length (acc ++ k ∷ kinds_list ks) ≤ 100 → AreMoreKinds true ks → IsEnd rest
      → after (in_choice within acc ∷ os) true k (spell_more_kinds ks ++ 62 ∷ rest) ≡ after os within
      (choice (kinds_of (acc ++ k ∷ kinds_list ks))) rest
  spelled_more_choice no_kinds acc k os within rest few t e =
      rw (few_tested (length (acc ++ k ∷ [])) few) (after_done os within (choice (kinds_of (acc ++ k ∷ []))) rest e)
  spelled_more_choice (kind k' ks) acc k os within rest few t e =
      let again : (acc ++ k ∷ []) ++ k' ∷ kinds_list ks ≡ acc ++ k ∷ k' ∷ kinds_list ks = append_assoc acc (k ∷ []) (k' ∷ kinds_list ks) in
      rw (append_assoc (spell k') (spell_more_kinds ks) (62 ∷ rest))
      (spelled k' (in_choice within (acc ++ k ∷ []) ∷ os) true (spell_more_kinds ks ++ 62 ∷ rest) t.0 (end_kinds ks rest)
      ∙ spelled_more_choice ks (acc ++ k ∷ []) k' os within rest (rw again few) t.1 e
      ∙ ap (λ (l : List ShapeData). after os within (choice (kinds_of l)) rest) again)

  spelled_parts : (ps : MembersData) (os : List OpenData) (rest : List ℕ) → names_differ (parts_list ps) ≡ true → AreParts ps → IsEnd rest
      → read true (inside os false) [] (spell (fields ps) ++ rest) ≡ after os false (fields ps) rest
  spelled_parts no_parts os rest differ t e = absurd t
  spelled_parts (part n k ps) os rest differ t e =
      rw (
        append_assoc (n ++ 58 ∷ (spell k ++ spell_more_parts ps)) (125 ∷ []) rest,
        append_assoc n (58 ∷ (spell k ++ spell_more_parts ps)) (125 ∷ rest),
        append_assoc (spell k) (spell_more_parts ps) (125 ∷ rest),
      )
      (member_read os [] n (spell k ++ (spell_more_parts ps ++ 125 ∷ rest)) t.0
      ∙ spelled k (in_member [] n ∷ os) false (spell_more_parts ps ++ 125 ∷ rest) t.1 (end_parts ps rest)
      ∙ spelled_more_parts ps [] n k os rest differ t.2 e
      ∙ ap (λ (l : MembersData). after os false (fields (part n k l)) rest) (parts_of-list ps))

  spelled_more_parts : (ps : MembersData) (acc : List MemberData) (n : List ℕ) (k : ShapeData) (os : List OpenData) (rest : List ℕ)
      → names_differ (acc ++ record { name = n; of = k } ∷ parts_list ps) ≡ true → AreMoreParts ps → IsEnd rest
      → after (in_member acc n ∷ os) false k (spell_more_parts ps ++ 125 ∷ rest) ≡ after os false
      (fields (parts_of (acc ++ record { name = n; of = k } ∷ parts_list ps))) rest
  spelled_more_parts no_parts acc n k os rest differ t e =
      rw differ (after_done os false (fields (parts_of (acc ++ record { name = n; of = k } ∷ []))) rest e)
  spelled_more_parts (part n' k' ps) acc n k os rest differ t e =
      let p : MemberData = record { name = n; of = k } in
      let q : MemberData = record { name = n'; of = k' } in
      let again : (acc ++ p ∷ []) ++ q ∷ parts_list ps ≡ acc ++ p ∷ q ∷ parts_list ps = append_assoc acc (p ∷ []) (q ∷ parts_list ps) in
      rw (append_assoc n' (58 ∷ (spell k' ++ spell_more_parts ps)) (125 ∷ rest), append_assoc (spell k') (spell_more_parts ps) (125 ∷ rest))
      (member_read os (acc ++ p ∷ []) n' (spell k' ++ (spell_more_parts ps ++ 125 ∷ rest)) t.0
      ∙ spelled k' (in_member (acc ++ p ∷ []) n' ∷ os) false (spell_more_parts ps ++ 125 ∷ rest) t.1 (end_parts ps rest)
      ∙ spelled_more_parts ps (acc ++ p ∷ []) n' k' os rest (rw again differ) t.2 e
      ∙ ap (λ (l : List MemberData). after os false (fields (parts_of l)) rest) again)

-- the text of a type is read as that type
pub read_kind-spell : (k : ShapeData) → IsType false k → read_kind (spell k) ≡ Some k
read_kind-spell k t = ap read_kind (sym (append-nil (spell k))) ∙ spelled k [] false [] t at_end
