-- A line as a name, blanks, a text and spaces.
use Rattle.std.proofs.Common.{ℕ, List, [], suc, ◌∷◌, ◌++◌, ◌≡◌, ◌+◌, ◌-◌, ◌<◌, refl, sym, ◌∙◌, ap, Bool, true, false, cond, Option, Some}
use Rattle.std.proofs.Common.{None, length, take, drop, arith, length-append}
use Rattle.std.proofs.lemmas.Bool.Decides.{nat_tests}
use Rattle.std.proofs.lemmas.List.{reverse-append, length-reverse, reverse-reverse, take-append-drop}
use Rattle.std.proofs.lemmas.List.Folds.{list_all-append, length-prefix_len}
use Rattle.std.specs.Prelude.{◌&&◌, reverse}
use Rattle.std.specs.List.{list_all, prefix_len}
use Rattle.nt_lists.proofs.Bools.{and_true, both_true}
use Rattle.nt_lists.proofs.Fronts.{take_front, drop_front}
use Rattle.nt_types.specs.Words.{is_word_byte, is_blank, is_space, is_name}
use Rattle.nt_types.specs.Lines.{split_line, split_at, begins_blank, type_text, trimmed}
use Rattle.nt_types.specs.LineSpelling.{IsLine}
use Rattle.nt_types.proofs.Spelled.{name_bytes}

all_prefix : (p : ℕ → Bool) (xs : List ℕ) → list_all p (take (prefix_len p xs) xs) ≡ true
all_prefix p [] = refl
all_prefix p (x ∷ xs) = cases (p x) refl (all_prefix p xs)
  where
    cases : (c : Bool) → p x ≡ c → list_all p (take (prefix_len p xs) xs) ≡ true
        → list_all p (take (cond c (1 + prefix_len p xs) 0) (x ∷ xs)) ≡ true
    cases true e h = let n : 1 + prefix_len p xs ≡ suc (prefix_len p xs) = omega arith in
        rw n (both_true (p x) (list_all p (take (prefix_len p xs) xs)) e h)
    cases false e h = refl

pub prefix_stops : (p : ℕ → Bool) (xs : List ℕ) (y : ℕ) (ys : List ℕ) → list_all p xs ≡ true → p y ≡ false
    → prefix_len p (xs ++ y ∷ ys) ≡ length xs
prefix_stops p [] y ys a n = rw n refl
prefix_stops p (x ∷ xs) y ys a n =
    let both : (p x ≡ true) × (list_all p xs ≡ true) = and_true _ _ a in
    let e : prefix_len p (xs ++ y ∷ ys) ≡ length xs = prefix_stops p xs y ys both.1 n in
    let f : 1 + prefix_len p (xs ++ y ∷ ys) ≡ suc (length xs) = omega (arith, e) in
    rw both.0 f

prefix_all : (p : ℕ → Bool) (xs : List ℕ) → list_all p xs ≡ true → prefix_len p xs ≡ length xs
prefix_all p [] a = refl
prefix_all p (x ∷ xs) a =
    let both : (p x ≡ true) × (list_all p xs ≡ true) = and_true _ _ a in
    let e : prefix_len p xs ≡ length xs = prefix_all p xs both.1 in
    let f : 1 + prefix_len p xs ≡ suc (length xs) = omega (arith, e) in
    rw both.0 f

all_reverse : (p : ℕ → Bool) (xs : List ℕ) → list_all p xs ≡ true → list_all p (reverse xs) ≡ true
all_reverse p [] a = refl
all_reverse p (x ∷ xs) a =
    let both : (p x ≡ true) × (list_all p xs ≡ true) = and_true _ _ a in
    let last : reverse (x ∷ xs) ≡ reverse xs ++ x ∷ [] = reverse-append (x ∷ []) xs in
    rw (last, list_all-append p (reverse xs) (x ∷ []))
    (both_true (list_all p (reverse xs)) (list_all p (x ∷ [])) (all_reverse p xs both.1) (both_true (p x) true both.0 refl))

-- a text and the spaces at its end
trimmed_of : (core spaces : List ℕ) → prefix_len is_space (reverse (core ++ spaces)) ≡ length spaces → trimmed (core ++ spaces) ≡ core
trimmed_of core spaces e =
    let n : length (core ++ spaces) - length spaces ≡ length core = rw length-append (omega arith) in
    rw (e, n) (take_front core spaces)

-- what is cut off at the end are spaces
trimmed_sound : (text : List ℕ) → (spaces : List ℕ) × (list_all is_space spaces ≡ true) × (text ≡ trimmed text ++ spaces)
trimmed_sound text =
    let back : List ℕ = reverse text in
    let p : ℕ = prefix_len is_space back in
    let core : List ℕ = reverse (drop p back) in
    let spaces : List ℕ = reverse (take p back) in
    let whole : text ≡ core ++ spaces = sym (reverse-reverse text) ∙ ap reverse (sym (take-append-drop p back))
    ∙ reverse-append (take p back) (drop p back) in
    let len : length spaces ≡ p = length-reverse (take p back) ∙ length-prefix_len is_space back in
    let same : prefix_len is_space (reverse (core ++ spaces)) ≡ length spaces =
    ap (λ (l : List ℕ). prefix_len is_space (reverse l)) (sym whole) ∙ sym len in (
      spaces,
      all_reverse is_space (take p back) (all_prefix is_space back),
      whole
          ∙ ap (λ (l : List ℕ). l ++ spaces) (sym (ap trimmed whole ∙ trimmed_of core spaces same)),
    )

chosen_pair : (c : Bool) (x y : List ℕ × List ℕ) → cond c (Some x) None ≡ Some y → (c ≡ true) × (x ≡ y)
chosen_pair true x y e = (refl, cc)
chosen_pair false x y e = cc

some_blank : (rest : List ℕ) → begins_blank rest ≡ true → 0 < length (take (prefix_len is_blank rest) rest)
some_blank [] e = cc
some_blank (b ∷ bs) e =
    let l : length (take (prefix_len is_blank (b ∷ bs)) (b ∷ bs)) ≡ prefix_len is_blank (b ∷ bs) = length-prefix_len is_blank (b ∷ bs) in
    rw l (rw e (omega arith))

pub split_at-sound : (line a rest name text : List ℕ) → line ≡ a ++ rest → split_at a rest ≡ Some (name, text) → IsLine line name text
split_at-sound line a rest name text whole e =
    let found : ((is_name a && begins_blank rest) ≡ true) × ((a, type_text rest) ≡ (name, text)) =
    chosen_pair (is_name a && begins_blank rest) (a, type_text rest) (name, text) e in
    let both : (is_name a ≡ true) × (begins_blank rest ≡ true) = and_true _ _ found.0 in
    let named : a ≡ name = ap (λ (x : List ℕ × List ℕ). x.0) found.1 in
    let typed : type_text rest ≡ text = ap (λ (x : List ℕ × List ℕ). x.1) found.1 in
    let m : ℕ = prefix_len is_blank rest in
    let end = trimmed_sound (drop m rest) in
    let cut : rest ≡ take m rest ++ (type_text rest ++ end.0) = sym (take-append-drop m rest)
    ∙ ap (λ (l : List ℕ). take m rest ++ l) end.2 in
    record {
      blanks = take m rest;
      spaces = end.0;
      is_name = rw (← named) both.0;
      some_blank = some_blank rest both.1;
      all_blank = all_prefix is_blank rest;
      all_space = end.1;
      whole = whole ∙ rw (← named, ← typed) (ap (λ (l : List ℕ). a ++ l) cut);
    }

-- where the name and a blank come first, the text and spaces follow
pub split_line-sound : (line name text : List ℕ) → split_line line ≡ Some (name, text) → IsLine line name text
split_line-sound line name text e =
    split_at-sound line (take (prefix_len is_word_byte line) line) (drop (prefix_len is_word_byte line) line) name text
    (sym (take-append-drop (prefix_len is_word_byte line) line)) e

-- a text that neither begins with a blank nor ends with a space
pub record IsCore (text : List ℕ) : Type 0 where
  pub first : ℕ
  pub later : List ℕ
  pub before : List ℕ
  pub last : ℕ
  pub begins : text ≡ first ∷ later
  pub ends : text ≡ before ++ last ∷ []
  pub no_blank : is_blank first ≡ false
  pub no_space : is_space last ≡ false

trimmed_core : (text spaces : List ℕ) → IsCore text → list_all is_space spaces ≡ true → trimmed (text ++ spaces) ≡ text
trimmed_core text spaces core all =
    trimmed_of text spaces
    (rw (reverse-append text spaces, turned)
    (prefix_stops is_space (reverse spaces) core.last (reverse core.before) (all_reverse is_space spaces all) core.no_space
    ∙ length-reverse spaces))
  where
    turned : reverse text ≡ core.last ∷ reverse core.before
    turned = ap reverse core.ends ∙ reverse-append core.before (core.last ∷ [])

type_text_core : (blanks text spaces : List ℕ) → list_all is_blank blanks ≡ true → IsCore text → list_all is_space spaces ≡ true
    → type_text (blanks ++ (text ++ spaces)) ≡ text
type_text_core blanks text spaces all core spaced =
    let stops : prefix_len is_blank (blanks ++ (text ++ spaces)) ≡ length blanks =
    rw core.begins (prefix_stops is_blank blanks core.first (core.later ++ spaces) all core.no_blank) in
    rw (stops, drop_front blanks (text ++ spaces)) (trimmed_core text spaces core spaced)

pub blank_ends_word : (b : ℕ) → is_blank b ≡ true → is_word_byte b ≡ false
blank_ends_word b e = grind (arith, nat_tests)

abbrev pub some_pair : List ℕ → List ℕ → Option (List ℕ × List ℕ)
some_pair name u = Some (name, u)

pub at_is : (c d : Bool) (name t text : List ℕ) → c ≡ true → d ≡ true → t ≡ text
    → cond {A = Option (List ℕ × List ℕ)} (c && d) (Some (name, t)) None ≡ Some (name, text)
at_is true true name t text e f same = ap (λ (u : List ℕ). some_pair name u) same
at_is true false name t text e f same = cc
at_is false d name t text e f same = cc

-- a name, blanks, a text and spaces are read so
pub split_line-is : (line name text : List ℕ) → IsLine line name text → IsCore text → split_line line ≡ Some (name, text)
split_line-is line name text l core = rw l.whole (cases l.blanks l.some_blank l.all_blank)
  where
    cases : (blanks : List ℕ) → 0 < length blanks → list_all is_blank blanks ≡ true
        → split_line (name ++ (blanks ++ (text ++ l.spaces))) ≡ Some (name, text)
    cases [] some all = absurd (omega arith)
    cases (b ∷ bs) some all =
        let both : (is_blank b ≡ true) × (list_all is_blank bs ≡ true) = and_true _ _ all in
        let stops : prefix_len is_word_byte (name ++ ((b ∷ bs) ++ (text ++ l.spaces))) ≡ length name =
        prefix_stops is_word_byte name b (bs ++ (text ++ l.spaces)) (name_bytes name l.is_name) (blank_ends_word b both.0) in
        rw (stops, take_front name ((b ∷ bs) ++ (text ++ l.spaces)), drop_front name ((b ∷ bs) ++ (text ++ l.spaces)))
        (at_is (is_name name) (is_blank b) name (type_text ((b ∷ bs) ++ (text ++ l.spaces))) text l.is_name both.0
        (type_text_core (b ∷ bs) text l.spaces all core l.all_space))
