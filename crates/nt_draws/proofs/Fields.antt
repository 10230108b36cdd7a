-- Events keep the rules of their fields.
use Rattle.std.proofs.Common.{◌≡◌, ℕ, zero, suc, ◌+◌, ◌%◌, ◌^◌, ◌<◌, true, false, List, [], ◌∷◌, map, decimal, refl, sym, subst, arith}
use Rattle.std.proofs.Common.{lit≤}
use Rattle.std.proofs.lemmas.Bool.{lt-ltb, and_from}
use Rattle.std.proofs.lemmas.Fmt.{decimal_digit}
use Rattle.nt_types.specs.ShapeData.{parts_of}
use Rattle.nt_types.specs.ShapeData as shape
use Rattle.nt_types.specs.Rules.{AreFields}
use Rattle.nt_types.specs.TreeData.{trees_of}
use Rattle.nt_types.specs.TreeBytes.{AreBytes, AllHaveBytes}
use Rattle.nt_types.specs.Fits.{fits, all_trees, fit_parts}
use Rattle.nt_draws.specs.Draws.{drawn}
use Rattle.nt_draws.specs.Events.{event_fields, number_tree, drawn_ids, event_behind, ids_count, after_event}

pub event_fields-rules : AreFields event_fields
event_fields-rules = record {
  some = lit≤ tt;
  differ = refl;
  rules = (refl, refl, (refl, refl, (refl, tt, tt)));
  shallow = lit≤ tt;
  few = lit≤ tt;
}

ids-fit : (n s : ℕ) → all_trees (fits (shape.int 32 false)) (trees_of (map number_tree (drawn_ids n s))) ≡ true
ids-fit zero s = refl
ids-fit (suc n) s = and_from _ _ (lt-ltb (drawn s % 1000000) (2 ^ 32) (omega arith)) (ids-fit n (drawn s))

pub event-fits : (s : ℕ) → fit_parts (parts_of event_fields) (event_behind s) ≡ true
event-fits s = and_from _ _ (lt-ltb (drawn s % 1000) (2 ^ 32) (omega arith))
    (and_from _ _ (ids-fit (ids_count s) (drawn (drawn s))) refl)

ids-bytes : (n s : ℕ) → AllHaveBytes (trees_of (map number_tree (drawn_ids n s)))
ids-bytes zero s = tt
ids-bytes (suc n) s = (tt, ids-bytes n (drawn s))

digit-bytes : (d : ℕ) → d < 10 → AreBytes (116 ∷ (48 + d) ∷ [])
digit-bytes d h zero = omega arith
digit-bytes d h (suc zero) = omega arith
digit-bytes d h (suc (suc i)) = omega arith

tag-bytes : (d : ℕ) → d < 10 → AreBytes (116 ∷ decimal d)
tag-bytes d h = subst (λ (l : List ℕ). AreBytes (116 ∷ l)) (sym (decimal_digit d h)) (digit-bytes d h)

pub event-bytes : (s : ℕ) → AllHaveBytes (event_behind s)
event-bytes s = (tt, (ids-bytes (ids_count s) (drawn (drawn s)), (tag-bytes (after_event s % 10) (omega arith), tt)))
