-- A part that is put into a construct: the text and the rules go on.
use Rattle.std.proofs.Common.{ℕ, List, [], ◌∷◌, ◌++◌, ◌≡◌, ◌≤◌, refl, sym, ◌∙◌, ap, subst, Bool, true, false, cond, Some, None, length}
use Rattle.std.proofs.Common.{append_assoc, arith}
use Rattle.std.proofs.lemmas.Bool.Decides.{nat_tests}
use Rattle.std.specs.Prelude.{nat_le, not, ◌==◌, ◌&&◌, codes}
use Rattle.nt_lists.proofs.Bools.{and_true, not_true}
use Rattle.nt_lists.proofs.Variants.{some_is}
use Rattle.nt_types.specs.ShapeData.{ShapeData, MemberData, list, maybe, fields, tuple, choice, kinds_of, parts_of, takes_nothing}
use Rattle.nt_types.specs.Names.{names_differ}
use Rattle.nt_types.specs.Reading.{OpenData, in_list, in_maybe, at_name, in_member, in_tuple, in_choice, PlacedData, goes, ends, put}
use Rattle.nt_types.specs.Spelling.{spell, IsType, AreKinds}
use Rattle.nt_types.proofs.ReadText.{ended_parts, construct_text, GoodKinds, GoodConstruct, kinds_text, ended_kinds-snoc, parts_text}
use Rattle.nt_types.proofs.ReadText.{ended_parts-snoc, GoodKinds-snoc, AreKinds-snoc, GoodParts-snoc, AreParts-snoc, list_of-kinds}
use Rattle.nt_types.proofs.ReadText.{list_of-parts}

-- a part in a construct

abbrev placed_text : PlacedData → List ℕ
placed_text (goes o) = construct_text o
placed_text (ends k) = spell k

abbrev GoodPlaced : Bool → Bool → PlacedData → Type 0
GoodPlaced out within (goes o) = GoodConstruct o out within
GoodPlaced out within (ends k) = IsType out k

-- what a part and the byte after it make of a construct
abbrev pub IsPut : Bool → Bool → OpenData → ShapeData → ℕ → PlacedData → Type 0
IsPut out within o k b p = (placed_text p ≡ construct_text o ++ (spell k ++ b ∷ [])) × GoodPlaced out within p

pub byte_is : (b n : ℕ) → (b == n) ≡ true → b ≡ n
byte_is b n e = grind (arith, nat_tests)

list_put : (out within : Bool) (k : ShapeData) (b : ℕ) (p : PlacedData) (c : Bool) → (c ≡ true → b ≡ 62) → out ≡ within → IsType within k
    → cond c (Some (ends (list k))) None ≡ Some p → IsPut out within in_list k b p
list_put out within k b p true at same t e =
    subst (IsPut out within in_list k b) (some_is _ _ e) (rw (at refl) refl, subst (λ (v : Bool). IsType v k) (sym same) t)
list_put out within k b p false at same t e = cc

maybe_put : (out within w : Bool) (k : ShapeData) (b : ℕ) (p : PlacedData) (c : Bool)
    → (c ≡ true → (b ≡ 62) × (takes_nothing k ≡ false)) → GoodConstruct (in_maybe w) out within → IsType within k
    → cond c (Some (ends (maybe k))) None ≡ Some p → IsPut out within (in_maybe w) k b p
maybe_put out within w k b p true angle g t e =
    subst (IsPut out within (in_maybe w) k b) (some_is _ _ e)
    (rw ((angle refl).0) refl, ((angle refl).1, subst (λ (v : Bool). IsType v k) g.1 t))
maybe_put out within w k b p false angle g t e = cc

tuple_put : (out within : Bool) (ks : List ShapeData) (k : ShapeData) (b : ℕ) (p : PlacedData) (c d : Bool) → (c ≡ true → b ≡ 44)
    → (d ≡ true → b ≡ 62)
    → out ≡ within → GoodKinds within ks → IsType within k
    → cond c (Some (goes (in_tuple (ks ++ k ∷ [])))) (cond d (Some (ends (tuple (kinds_of (ks ++ k ∷ []))))) None) ≡ Some p
    → IsPut out within (in_tuple ks) k b p
tuple_put out within ks k b p true d comma angle same g t e =
    subst (IsPut out within (in_tuple ks) k b) (some_is _ _ e)
    (rw (comma refl, ended_kinds-snoc ks k) refl, (same, GoodKinds-snoc within ks k g t))
tuple_put out within ks k b p false true comma angle same g t e =
    subst (IsPut out within (in_tuple ks) k b) (some_is _ _ e) (
      rw (angle refl, kinds_text ks k) (simp append_assoc),
      subst (λ (v : Bool). AreKinds v (kinds_of (ks ++ k ∷ []))) (sym same) (AreKinds-snoc within ks k g t),
    )
tuple_put out within ks k b p false false comma angle same g t e = cc

choice_put : (out within w : Bool) (ks : List ShapeData) (k : ShapeData) (b : ℕ) (p : PlacedData) (c d : Bool) → (c ≡ true → b ≡ 44)
    → (d ≡ true → (b ≡ 62) × (length (ks ++ k ∷ []) ≤ 100)) → GoodConstruct (in_choice w ks) out within → IsType within k
    → cond c (Some (goes (in_choice w (ks ++ k ∷ [])))) (cond d (Some (ends (choice (kinds_of (ks ++ k ∷ []))))) None) ≡ Some p
    → IsPut out within (in_choice w ks) k b p
choice_put out within w ks k b p true d comma angle g t e =
    let inner : IsType true k = subst (λ (v : Bool). IsType v k) g.1 t in
    subst (IsPut out within (in_choice w ks) k b) (some_is _ _ e)
    (rw (comma refl, ended_kinds-snoc ks k) refl, (g.0, g.1, GoodKinds-snoc true ks k g.2 inner))
choice_put out within w ks k b p false true comma angle g t e =
    let inner : IsType true k = subst (λ (v : Bool). IsType v k) g.1 t in
    subst (IsPut out within (in_choice w ks) k b) (some_is _ _ e) (
      rw ((angle refl).0, kinds_text ks k) (simp append_assoc),
      (rw (list_of-kinds (ks ++ k ∷ [])) (angle refl).1, AreKinds-snoc true ks k g.2 inner),
    )
choice_put out within w ks k b p false false comma angle g t e = cc

regroup : (a n s : List ℕ) → (a ++ (n ++ 58 ∷ s)) ++ 125 ∷ [] ≡ (a ++ (n ++ 58 ∷ [])) ++ (s ++ 125 ∷ [])
regroup a n s = append_assoc a (n ++ 58 ∷ s) (125 ∷ [])
    ∙ ap (λ (l : List ℕ). a ++ l) (append_assoc n (58 ∷ s) (125 ∷ []) ∙ sym (append_assoc n (58 ∷ []) (s ++ 125 ∷ [])))
    ∙ sym (append_assoc a (n ++ 58 ∷ []) (s ++ 125 ∷ []))

regroup_comma : (a n s : List ℕ) → a ++ (n ++ 58 ∷ s) ≡ (a ++ (n ++ 58 ∷ [])) ++ s
regroup_comma a n s = ap (λ (l : List ℕ). a ++ l) (sym (append_assoc n (58 ∷ []) s)) ∙ sym (append_assoc a (n ++ 58 ∷ []) s)

fields_put : (out within : Bool) (ps : List MemberData) (n : List ℕ) (k : ShapeData) (b : ℕ) (p : PlacedData) (c d : Bool)
    → (c ≡ true → b ≡ 44)
    → (d ≡ true → (b ≡ 125) × (names_differ (ps ++ record { name = n; of = k } ∷ []) ≡ true)) → GoodConstruct (in_member ps n) out within
    → IsType within k
    → cond c (Some (goes (at_name (ps ++ record { name = n; of = k } ∷ []))))
    (cond d (Some (ends (fields (parts_of (ps ++ record { name = n; of = k } ∷ []))))) None) ≡ Some p → IsPut out within
    (in_member ps n) k b p
fields_put out within ps n k b p true d comma brace g t e =
    let q : MemberData = record { name = n; of = k } in
    let inner : IsType false k = subst (λ (v : Bool). IsType v k) g.1 t in
    subst (IsPut out within (in_member ps n) k b) (some_is _ _ e) (
      rw (comma refl, ended_parts-snoc ps q)
          (ap (λ (l : List ℕ). codes "rec{" ++ l) (regroup_comma (ended_parts ps) n (spell k ++ 44 ∷ []))),
      (g.0, g.1, GoodParts-snoc ps q g.2 g.3 inner),
    )
fields_put out within ps n k b p false true comma brace g t e =
    let q : MemberData = record { name = n; of = k } in
    let inner : IsType false k = subst (λ (v : Bool). IsType v k) g.1 t in
    subst (IsPut out within (in_member ps n) k b) (some_is _ _ e) (
      rw ((brace refl).0, parts_text ps q)
          (ap (λ (l : List ℕ). codes "rec{" ++ l) (regroup (ended_parts ps) n (spell k))),
      (g.0 ∙ g.1, rw (list_of-parts (ps ++ q ∷ [])) (brace refl).1, AreParts-snoc ps q g.2 g.3 inner),
    )
fields_put out within ps n k b p false false comma brace g t e = cc

few : (n : ℕ) → nat_le n 100 ≡ true → n ≤ 100
few n e = grind (arith, nat_tests)

pub put_sound : (out within : Bool) (o : OpenData) (k : ShapeData) (b : ℕ) (p : PlacedData) → GoodConstruct o out within → IsType within k
    → put o k b ≡ Some p → IsPut out within o k b p
put_sound out within in_list k b p g t e = list_put out within k b p (b == 62) (byte_is b 62) g t e
put_sound out within (in_maybe w) k b p g t e =
    maybe_put out within w k b p ((b == 62) && not (takes_nothing k))
    (λ d. let both = and_true (b == 62) (not (takes_nothing k)) d in (byte_is b 62 both.0, not_true (takes_nothing k) both.1)) g t e
put_sound out within (at_name ps) k b p g t e = cc
put_sound out within (in_member ps n) k b p g t e =
    fields_put out within ps n k b p (b == 44) ((b == 125) && names_differ (ps ++ record { name = n; of = k } ∷ [])) (byte_is b 44)
    (λ d. let both = and_true (b == 125) (names_differ (ps ++ record { name = n; of = k } ∷ [])) d in (byte_is b 125 both.0, both.1)) g t e
put_sound out within (in_tuple ks) k b p g t e = tuple_put out within ks k b p (b == 44) (b == 62) (byte_is b 44) (byte_is b 62) g.0 g.1 t e
put_sound out within (in_choice w ks) k b p g t e =
    choice_put out within w ks k b p (b == 44) ((b == 62) && nat_le (length (ks ++ k ∷ [])) 100) (byte_is b 44)
    (λ d. let both = and_true (b == 62) (nat_le (length (ks ++ k ∷ [])) 100) d in
    (byte_is b 62 both.0, few (length (ks ++ k ∷ [])) both.1)) g t e
