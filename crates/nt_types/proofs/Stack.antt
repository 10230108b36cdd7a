-- What is open, as a list with the innermost first.
use Rattle.std.proofs.Common.{List, [], ◌∷◌, ◌++◌, ◌≡◌, ◌+◌, length, refl, Option, Some, None}
use Rattle.std.specs.Prelude.{MatchOption}
use Rattle.std.specs.Option.{option_to_list}
use Rattle.nt_types.specs.Reading.{OpenData}
use Rattle.nt_types.specs.ConstructViews.{open_view, stack_view, stack_onto}
use Rattle.nt_types.specs.declared.construct.Open.{Open}

stack_onto-snoc : (below : List OpenData) (os : List Open) (o : Open) → stack_onto below (os ++ o ∷ []) ≡ open_view o ∷ stack_onto below os
stack_onto-snoc below [] o = refl
stack_onto-snoc below (p ∷ os) o = stack_onto-snoc (open_view p ∷ below) os o

pub stack_pushed : (old new : List Open) (o : Open) → new ≡ old ++ o ∷ [] → stack_view new ≡ open_view o ∷ stack_view old
stack_pushed old new o e = rw e (stack_onto-snoc [] old o)

empty : (xs : List Open) → length xs ≡ 0 → xs ≡ []
empty [] e = refl
empty (x ∷ xs) e = cc

pub stack_popped : (old new : List Open) (r : Option Open) → old ≡ new ++ option_to_list r
    → MatchOption r ((length old ≡ 0) × (length new ≡ 0)) (λ _. length new + 1 ≡ length old)
    → MatchOption r (stack_view old ≡ []) (λ o. stack_view old ≡ open_view o ∷ stack_view new)
stack_popped old new None e n = rw (empty old n.0) refl
stack_popped old new (Some o) e n = rw e (stack_onto-snoc [] new o)
