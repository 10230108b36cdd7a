-- A range that is out stays out when the one behind it is taken off.
use Rattle.std.proofs.Common.{◌≡◌, ◌∙◌, ap, sym, refl, subst, suc, Bool, true, false, List, [], ◌∷◌, ◌++◌, arith}
use Rattle.std.specs.Prelude.{Contains}
use Rattle.nt_outside.specs.declared.range.Range.{Range}
use Rattle.nt_outside.specs.Range.{is_same_range, without}
use Rattle.nt_outside.proofs.Ranges.{same_is, without_here, without_next}

contains_here : (x r : Range) (xs : List Range) → x ≡ r → Contains (x ∷ xs) r
contains_here x r xs is = (0, omega arith, is)

contains_next : (x r : Range) (xs : List Range) → Contains xs r → Contains (x ∷ xs) r
contains_next x r xs h = (suc h.0, omega (arith, h.1), h.2)

contains_at : (before : List Range) (r : Range) (rest : List Range) → Contains (before ++ r ∷ rest) r
contains_at [] r rest = contains_here r r rest refl
contains_at (b ∷ before) r rest = contains_next b r (before ++ r ∷ rest) (contains_at before r rest)

left_here : (b : Bool) (r s : Range) → is_same_range r s ≡ b → Contains (without s (r ∷ s ∷ [])) r
left_here true r s is = subst (λ (l : List Range). Contains l r) (sym (without_here r s (s ∷ []) is))
    (contains_here s r [] (sym (same_is r s is)))
left_here false r s is = subst (λ (l : List Range). Contains l r) (sym (without_next r s (s ∷ []) is))
    (contains_here r r (without s (s ∷ [])) refl)

left_next : (b : Bool) (x r s : Range) (xs : List Range) → is_same_range x s ≡ b → Contains xs r → Contains (without s xs) r
    → Contains (without s (x ∷ xs)) r
left_next true x r s xs is here rest = subst (λ (l : List Range). Contains l r) (sym (without_here x s xs is)) here
left_next false x r s xs is here rest = subst (λ (l : List Range). Contains l r) (sym (without_next x s xs is))
    (contains_next x r (without s xs) rest)

left_beside : (before : List Range) (r s : Range) → Contains (without s (before ++ r ∷ s ∷ [])) r
left_beside [] r s = left_here (is_same_range r s) r s refl
left_beside (b ∷ before) r s = left_next (is_same_range b s) b r s (before ++ r ∷ s ∷ []) refl (contains_at before r (s ∷ []))
    (left_beside before r s)

two_more : (before : List Range) (r s : Range) → (before ++ r ∷ []) ++ s ∷ [] ≡ before ++ r ∷ s ∷ []
two_more [] r s = refl
two_more (b ∷ before) r s = ap (λ (l : List Range). b ∷ l) (two_more before r s)

-- two ranges were put out, and the later one was taken off
pub stays_out : (before out out2 out3 : List Range) (r r' s s' : Range) → out ≡ before ++ r ∷ [] → out2 ≡ out ++ s ∷ [] → s' ≡ s
    → out3 ≡ without s' out2 → r' ≡ r → Contains out3 r'
stays_out before out out2 out3 r r' s s' first second same off is =
    let all : out2 ≡ before ++ r ∷ s ∷ [] = second ∙ (ap (λ (l : List Range). l ++ s ∷ []) first ∙ two_more before r s) in
    let left : out3 ≡ without s (before ++ r ∷ s ∷ []) = off ∙ (ap (λ (x : Range). without x out2) same ∙ ap (without s) all) in
    subst (λ (x : Range). Contains out3 x) (sym is) (subst (λ (l : List Range). Contains l r) (sym left) (left_beside before r s))
