-- Whether there is a kind is read the same where kinds aren't kept.
use Rattle.std.proofs.Common.{ℕ, List, [], ◌∷◌, ◌++◌, ◌≡◌, refl, sym, ◌∙◌, ap, Bool, true, false, Option, Some, None, length, map, cond}
use Rattle.std.specs.Prelude.{is_some, option_map, option_and_then, not, nat_le, ◌==◌, ◌&&◌, ◌||◌, codes}
use Rattle.std.specs.Str.{bytes_eq}
use Rattle.std.proofs.lemmas.List.{map-append, length-map}
use Rattle.nt_types.specs.ShapeData.{ShapeData, MemberData, bool, list, maybe, fields, tuple, choice, no_kinds, kinds_of, parts_of}
use Rattle.nt_types.specs.ShapeData.{takes_nothing}
use Rattle.nt_types.specs.Words.{is_word_byte, is_name, leaf}
use Rattle.nt_types.specs.Names.{are_new, names_differ}
use Rattle.nt_types.specs.Reading.{OpenData, in_list, in_maybe, at_name, in_member, in_tuple, in_choice, goes, ends, ReadingData, kind_kept}
use Rattle.nt_types.specs.Reading.{put, part_placed, place_on, within_after, started, opened, begin, named_on, named, ended_here, delimited}
use Rattle.nt_types.specs.Reading.{ended_on, read, read_kind, start}

-- a kind, a member, a construct and a state without what isn't kept
abbrev forget_kind : ShapeData → ShapeData
forget_kind k = kind_kept false k

abbrev forget_part : MemberData → MemberData
forget_part p = record { name = p.name; of = forget_kind p.of }

abbrev forget_construct : OpenData → OpenData
forget_construct in_list = in_list
forget_construct (in_maybe w) = in_maybe w
forget_construct (at_name ps) = at_name (map forget_part ps)
forget_construct (in_member ps n) = in_member (map forget_part ps) n
forget_construct (in_tuple ks) = in_tuple (map forget_kind ks)
forget_construct (in_choice w ks) = in_choice w (map forget_kind ks)

abbrev forget : ReadingData → ReadingData
forget s = record { stack = map forget_construct s.stack; within = s.within; done = option_map forget_kind s.done }

takes_nothing-forget : (k : ShapeData) → takes_nothing (forget_kind k) ≡ takes_nothing k
takes_nothing-forget k = cases (takes_nothing k)
  where
    cases : (c : Bool) → takes_nothing (cond c (choice no_kinds) bool) ≡ c
    cases true = refl
    cases false = refl

are_new-forget : (seen : List (List ℕ)) (ps : List MemberData) → are_new seen (map forget_part ps) ≡ are_new seen ps
are_new-forget seen [] = refl
are_new-forget seen (p ∷ ps) = rw (are_new-forget (p.name ∷ seen) ps) refl

-- a construct begins

begin_cases : (s : ReadingData) (c1 c2 c3 c4 c5 c6 : Bool)
    → option_map (opened (forget s))
    (cond c1 (cond c2 (Some (at_name [])) None)
    (cond c3 (Some in_list)
    (cond c4 (Some (in_maybe s.within)) (cond c5 (Some (in_tuple [])) (cond c6 (Some (in_choice s.within [])) None)))))
    ≡ option_map forget
    (option_map (opened s)
    (cond c1 (cond c2 (Some (at_name [])) None)
    (cond c3 (Some in_list)
    (cond c4 (Some (in_maybe s.within)) (cond c5 (Some (in_tuple [])) (cond c6 (Some (in_choice s.within [])) None))))))
begin_cases s true true c3 c4 c5 c6 = refl
begin_cases s true false c3 c4 c5 c6 = refl
begin_cases s false c2 true c4 c5 c6 = refl
begin_cases s false c2 false true c5 c6 = refl
begin_cases s false c2 false false true c6 = refl
begin_cases s false c2 false false false true = refl
begin_cases s false c2 false false false false = refl

begin_none : (s : ReadingData) (w : List ℕ) (b : ℕ)
    → option_map (opened (forget s)) (started s.within w b) ≡ option_map forget (option_map (opened s) (started s.within w b))
begin_none s w b =
    begin_cases s (b == 123) (bytes_eq w (codes "rec") && not s.within) (bytes_eq w (codes "vec")) (bytes_eq w (codes "opt"))
    (bytes_eq w (codes "tuple")) (bytes_eq w (codes "var"))

begin-forget : (stack : List OpenData) (within : Bool) (done : Option ShapeData) (w : List ℕ) (b : ℕ)
    → begin (forget (record { stack = stack; within = within; done = done })) w b ≡ option_map forget
    (begin (record { stack = stack; within = within; done = done }) w b)
begin-forget stack within None w b = begin_none (record { stack = stack; within = within; done = None }) w b
begin-forget stack within (Some k) w b = refl

-- a member is named

named_cases : (within : Bool) (ps : List MemberData) (os : List OpenData) (w : List ℕ) (c : Bool)
    → cond c (Some (record { stack = in_member (map forget_part ps) w ∷ map forget_construct os; within = within; done = None })) None
    ≡ option_map forget (cond c (Some (record { stack = in_member ps w ∷ os; within = within; done = None })) None)
named_cases within ps os w true = refl
named_cases within ps os w false = refl

named_on-forget : (within : Bool) (stack : List OpenData) (w : List ℕ)
    → named_on within (map forget_construct stack) w ≡ option_map forget (named_on within stack w)
named_on-forget within [] w = refl
named_on-forget within (in_list ∷ os) w = refl
named_on-forget within (at_name ps ∷ os) w = named_cases within ps os w (is_name w)
named_on-forget within (in_maybe v ∷ os) w = refl
named_on-forget within (in_member ps n ∷ os) w = refl
named_on-forget within (in_tuple ks ∷ os) w = refl
named_on-forget within (in_choice c ks ∷ os) w = refl

named-forget : (stack : List OpenData) (within : Bool) (done : Option ShapeData) (w : List ℕ)
    → named (forget (record { stack = stack; within = within; done = done })) w ≡ option_map forget
    (named (record { stack = stack; within = within; done = done }) w)
named-forget stack within None w = named_on-forget within stack w
named-forget stack within (Some k) w = refl

-- a part ends

leaf_cases : (o : Option ShapeData) → option_map (kind_kept false) o ≡ option_map forget_kind (option_map (kind_kept true) o)
leaf_cases None = refl
leaf_cases (Some k) = refl

settled-forget : (done : Option ShapeData) (w : List ℕ)
    → ended_here false (option_map forget_kind done) w ≡ option_map forget_kind (ended_here true done w)
settled-forget None w = leaf_cases (leaf w)
settled-forget (Some k) [] = refl
settled-forget (Some k) (b ∷ w) = refl

module _ (within : Bool) (os : List OpenData) where
  list_cases : (j k : ShapeData) (c : Bool)
      → option_map (part_placed false within in_list (map forget_construct os)) (cond c (Some (ends (list j))) None)
      ≡ option_map forget (option_map (part_placed true within in_list os) (cond c (Some (ends (list k))) None))
  list_cases j k true = refl
  list_cases j k false = refl

  maybe_cases : (w : Bool) (j k : ShapeData) (c : Bool)
      → option_map (part_placed false within (in_maybe w) (map forget_construct os)) (cond c (Some (ends (maybe j))) None)
      ≡ option_map forget (option_map (part_placed true within (in_maybe w) os) (cond c (Some (ends (maybe k))) None))
  maybe_cases w j k true = refl
  maybe_cases w j k false = refl

  fields_cases : (o : OpenData) (ps : List MemberData) (c d : Bool) → within_after (forget_construct o) within ≡ within_after o within →
      option_map (part_placed false within (forget_construct o) (map forget_construct os))
      (cond c (Some (goes (at_name (map forget_part ps)))) (cond d (Some (ends (fields (parts_of (map forget_part ps))))) None))
      ≡ option_map forget
      (option_map (part_placed true within o os) (cond c (Some (goes (at_name ps))) (cond d (Some (ends (fields (parts_of ps)))) None)))
  fields_cases o ps true d e = refl
  fields_cases o ps false true e = rw e refl
  fields_cases o ps false false e = refl

  tuple_cases : (ls ks : List ShapeData) (c d : Bool) →
      option_map (part_placed false within (in_tuple (map forget_kind ls)) (map forget_construct os))
      (cond c (Some (goes (in_tuple (map forget_kind ks)))) (cond d (Some (ends (tuple (kinds_of (map forget_kind ks))))) None))
      ≡ option_map forget
      (option_map (part_placed true within (in_tuple ls) os)
      (cond c (Some (goes (in_tuple ks))) (cond d (Some (ends (tuple (kinds_of ks)))) None)))
  tuple_cases ls ks true d = refl
  tuple_cases ls ks false true = refl
  tuple_cases ls ks false false = refl

  choice_cases : (w : Bool) (ls ks : List ShapeData) (c d : Bool) →
      option_map (part_placed false within (in_choice w (map forget_kind ls)) (map forget_construct os))
      (cond c (Some (goes (in_choice w (map forget_kind ks)))) (cond d (Some (ends (choice (kinds_of (map forget_kind ks))))) None))
      ≡ option_map forget
      (option_map (part_placed true within (in_choice w ls) os)
      (cond c (Some (goes (in_choice w ks))) (cond d (Some (ends (choice (kinds_of ks)))) None)))
  choice_cases w ls ks true d = refl
  choice_cases w ls ks false true = refl
  choice_cases w ls ks false false = refl

  put-forget : (o : OpenData) (k : ShapeData) (b : ℕ) →
      option_map (part_placed false within (forget_construct o) (map forget_construct os))
      (put (forget_construct o) (forget_kind k) b) ≡ option_map forget
      (option_map (part_placed true within o os) (put o k b))
  put-forget in_list k b = list_cases (forget_kind k) k (b == 62)
  put-forget (in_maybe w) k b =
      rw (takes_nothing-forget k) (maybe_cases w (forget_kind k) k ((b == 62) && not (takes_nothing k)))
  put-forget (at_name ps) k b = refl
  put-forget (in_member ps n) k b =
      let together : map forget_part ps ++ record { name = n; of = forget_kind k } ∷ []
      ≡ map forget_part (ps ++ record { name = n; of = k } ∷ []) = sym (map-append forget_part ps (record { name = n; of = k } ∷ [])) in
      rw (together, are_new-forget [] (ps ++ record { name = n; of = k } ∷ []))
      (fields_cases (in_member ps n) (ps ++ record { name = n; of = k } ∷ []) (b == 44)
      ((b == 125) && names_differ (ps ++ record { name = n; of = k } ∷ [])) refl)
  put-forget (in_tuple ks) k b =
      let together : map forget_kind ks ++ forget_kind k ∷ [] ≡ map forget_kind (ks ++ k ∷ []) = sym (map-append forget_kind ks (k ∷ [])) in
      rw together (tuple_cases ks (ks ++ k ∷ []) (b == 44) (b == 62))
  put-forget (in_choice w ks) k b =
      let together : map forget_kind ks ++ forget_kind k ∷ [] ≡ map forget_kind (ks ++ k ∷ []) = sym (map-append forget_kind ks (k ∷ [])) in
      rw (together, length-map (ks ++ k ∷ []) forget_kind)
      (choice_cases w ks (ks ++ k ∷ []) (b == 44) ((b == 62) && nat_le (length (ks ++ k ∷ [])) 100))

place_on-forget : (within : Bool) (stack : List OpenData) (k : ShapeData) (b : ℕ)
    → place_on false within (map forget_construct stack) (forget_kind k) b ≡ option_map forget (place_on true within stack k b)
place_on-forget within [] k b = refl
place_on-forget within (o ∷ os) k b = put-forget within os o k b

placed_cases : (stack : List OpenData) (within : Bool) (o : Option ShapeData) (b : ℕ)
    → option_and_then (λ k. place_on false within (map forget_construct stack) k b) (option_map forget_kind o) ≡ option_map forget
    (option_and_then (λ k. place_on true within stack k b) o)
placed_cases stack within None b = refl
placed_cases stack within (Some k) b = place_on-forget within stack k b

-- a byte of no word

delimited_cases : (a1 a2 x1 x2 y1 y2 : Option ReadingData) (c d : Bool) → a1 ≡ option_map forget a2 → x1 ≡ option_map forget x2
    → y1 ≡ option_map forget y2
    → cond c a1 (cond d x1 y1) ≡ option_map forget (cond c a2 (cond d x2 y2))
delimited_cases a1 a2 x1 x2 y1 y2 true d a x y = a
delimited_cases a1 a2 x1 x2 y1 y2 false true a x y = x
delimited_cases a1 a2 x1 x2 y1 y2 false false a x y = y

delimited-forget : (s : ReadingData) (w : List ℕ) (b : ℕ) → delimited false (forget s) w b ≡ option_map forget (delimited true s w b)
delimited-forget s w b = delimited_cases _ _ _ _ _ _ ((b == 60) || (b == 123)) (b == 58)
    (begin-forget s.stack s.within s.done w b) (named-forget s.stack s.within s.done w)
    (ap (option_and_then (λ k. place_on false s.within (map forget_construct s.stack) k b)) (settled-forget s.done w)
    ∙ placed_cases s.stack s.within (ended_here true s.done w) b)

-- all bytes

ended_cases : (stack : List OpenData) (o : Option ShapeData)
    → is_some (option_and_then (ended_on (map forget_construct stack)) (option_map forget_kind o)) ≡ is_some
    (option_and_then (ended_on stack) o)
ended_cases stack None = refl
ended_cases [] (Some k) = refl
ended_cases (o ∷ os) (Some k) = refl

after : (bs : List ℕ) (o : Option ReadingData) → ((t : ReadingData) → is_some (read false (forget t) [] bs) ≡ is_some (read true t [] bs))
    → is_some (option_and_then (λ t. read false t [] bs) (option_map forget o)) ≡ is_some (option_and_then (λ t. read true t [] bs) o)
after bs None h = refl
after bs (Some t) h = h t

byte_cases : (c : Bool) (x1 x2 y1 y2 : Option ShapeData) → is_some x1 ≡ is_some x2 → is_some y1 ≡ is_some y2
    → is_some (cond c x1 y1) ≡ is_some (cond c x2 y2)
byte_cases true x1 x2 y1 y2 x y = x
byte_cases false x1 x2 y1 y2 x y = y

read-forget : (s : ReadingData) (w bs : List ℕ) → is_some (read false (forget s) w bs) ≡ is_some (read true s w bs)
read-forget s w [] = rw (settled-forget s.done w) (ended_cases s.stack (ended_here true s.done w))
read-forget s w (b ∷ bs) = byte_cases (is_word_byte b) _ _ _ _ (read-forget s (w ++ b ∷ []) bs)
    (ap (λ (o : Option ReadingData). is_some (option_and_then (λ t. read false t [] bs) o)) (delimited-forget s w b)
    ∙ after bs (delimited true s w b) (λ t. read-forget t [] bs))

-- where kinds aren't kept, there is one exactly where the text spells one
pub is_some-read : (bytes : List ℕ) → is_some (read false start [] bytes) ≡ is_some (read_kind bytes)
is_some-read bytes = read-forget start [] bytes

-- in words of the answer
pub read_some : (bytes : List ℕ) (k : ShapeData) → read false start [] bytes ≡ Some k → is_some (read_kind bytes) ≡ true
read_some bytes k e = sym (is_some-read bytes) ∙ ap is_some e

pub read_none : (bytes : List ℕ) → read false start [] bytes ≡ None → read_kind bytes ≡ None
read_none bytes e = none (read_kind bytes) (sym (is_some-read bytes) ∙ ap is_some e)
  where
    none : (o : Option ShapeData) → is_some o ≡ false → o ≡ None
    none None e = refl
    none (Some k) e = cc
