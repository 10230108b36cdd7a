-- A leaf, and a part that ends, are spelled as they were read.
use Rattle.std.proofs.Common.{ℕ, List, [], ◌∷◌, ◌++◌, ◌≡◌, refl, sym, ◌∙◌, subst, Bool, true, false, cond, Option, Some, None, append-nil}
use Rattle.std.proofs.lemmas.Slice.Eq.{bytes_eq-Decides}
use Rattle.std.specs.Str.{bytes_eq}
use Rattle.std.specs.Prelude.{option_map, ◌==◌, codes}
use Rattle.nt_lists.proofs.Variants.{some_is}
use Rattle.nt_types.specs.ShapeData.{ShapeData, bool, char, byte, int, text}
use Rattle.nt_types.specs.Words.{leaf, number, int_of}
use Rattle.nt_types.specs.Reading.{kind_kept, ended_here}
use Rattle.nt_types.specs.Spelling.{spell, IsType}
use Rattle.nt_types.proofs.ReadText.{done_text, GoodDone}
use Rattle.nt_types.proofs.PartsPut.{byte_is}

-- a leaf

pub word_is : (w v : List ℕ) → bytes_eq w v ≡ true → w ≡ v
word_is w v e = (bytes_eq-Decides w v).0 e

abbrev IsSpelled : List ℕ → ShapeData → Type 0
IsSpelled w k = (spell k ≡ w) × ((within : Bool) → IsType within k)

width_sound : (w : List ℕ) (signed : Bool) (k : ShapeData) → int_of w signed ≡ Some k → IsSpelled ((cond signed 105 117) ∷ w) k
width_sound w signed k e =
    cases (bytes_eq w (codes "8")) (bytes_eq w (codes "16")) (bytes_eq w (codes "32")) (bytes_eq w (codes "64")) (word_is w (codes "8"))
    (word_is w (codes "16")) (word_is w (codes "32")) (word_is w (codes "64")) e
  where
    cases : (a b c d : Bool) → (a ≡ true → w ≡ codes "8") → (b ≡ true → w ≡ codes "16") → (c ≡ true → w ≡ codes "32")
        → (d ≡ true → w ≡ codes "64")
        → option_map (λ bits. int bits signed) (cond a (Some 8) (cond b (Some 16) (cond c (Some 32) (cond d (Some 64) None)))) ≡ Some k
        → IsSpelled ((cond signed 105 117) ∷ w) k
    cases true b c d ha hb hc hd e = subst (IsSpelled ((cond signed 105 117) ∷ w)) (some_is _ _ e) (rw (ha refl) refl, λ v. refl)
    cases false true c d ha hb hc hd e = subst (IsSpelled ((cond signed 105 117) ∷ w)) (some_is _ _ e) (rw (hb refl) refl, λ v. refl)
    cases false false true d ha hb hc hd e = subst (IsSpelled ((cond signed 105 117) ∷ w)) (some_is _ _ e) (rw (hc refl) refl, λ v. refl)
    cases false false false true ha hb hc hd e =
        subst (IsSpelled ((cond signed 105 117) ∷ w)) (some_is _ _ e) (rw (hd refl) refl, λ v. refl)
    cases false false false false ha hb hc hd e = cc

number_sound : (w : List ℕ) (k : ShapeData) → number w ≡ Some k → IsSpelled w k
number_sound [] k e = cc
number_sound (b ∷ w) k e = cases (b == 105) (b == 117) (byte_is b 105) (byte_is b 117) e
  where
    cases : (c d : Bool) → (c ≡ true → b ≡ 105) → (d ≡ true → b ≡ 117) → cond c (int_of w true) (cond d (int_of w false) None) ≡ Some k
        → IsSpelled (b ∷ w) k
    cases true d hc hd e = rw (hc refl) (width_sound w true k e)
    cases false true hc hd e = rw (hd refl) (width_sound w false k e)
    cases false false hc hd e = cc

leaf_sound : (w : List ℕ) (k : ShapeData) → leaf w ≡ Some k → IsSpelled w k
leaf_sound w k e =
    cases (bytes_eq w (codes "bool")) (bytes_eq w (codes "char")) (bytes_eq w (codes "byte")) (bytes_eq w (codes "string"))
    (word_is w (codes "bool")) (word_is w (codes "char")) (word_is w (codes "byte")) (word_is w (codes "string")) e
  where
    cases : (a b c d : Bool) → (a ≡ true → w ≡ codes "bool") → (b ≡ true → w ≡ codes "char") → (c ≡ true → w ≡ codes "byte")
        → (d ≡ true → w ≡ codes "string")
        → cond a (Some bool) (cond b (Some char) (cond c (Some byte) (cond d (Some text) (number w)))) ≡ Some k → IsSpelled w k
    cases true b c d ha hb hc hd e = subst (IsSpelled w) (some_is _ _ e) (sym (ha refl), λ v. tt)
    cases false true c d ha hb hc hd e = subst (IsSpelled w) (some_is _ _ e) (sym (hb refl), λ v. tt)
    cases false false true d ha hb hc hd e = subst (IsSpelled w) (some_is _ _ e) (sym (hc refl), λ v. tt)
    cases false false false true ha hb hc hd e = subst (IsSpelled w) (some_is _ _ e) (sym (hd refl), λ v. tt)
    cases false false false false ha hb hc hd e = number_sound w k e

-- a part that ends: the text since the construct round it, and the rules
pub settled_sound : (within : Bool) (done : Option ShapeData) (w : List ℕ) (k : ShapeData) → GoodDone within done
    → ended_here true done w ≡ Some k
    → (spell k ≡ done_text done ++ w) × IsType within k
settled_sound within None w k g e = leaf_case (leaf w) refl e
  where
    leaf_case : (r : Option ShapeData) → leaf w ≡ r → option_map (kind_kept true) r ≡ Some k → (spell k ≡ w) × IsType within k
    leaf_case None is e = cc
    leaf_case (Some j) is e = let found = leaf_sound w k (is ∙ e) in (found.0, found.1 within)
settled_sound within (Some j) [] k g e =
    subst (λ (v : ShapeData). (spell v ≡ spell j ++ []) × IsType within v) (some_is _ _ e) (sym (append-nil (spell j)), g)
settled_sound within (Some j) (b ∷ w) k g e = cc
