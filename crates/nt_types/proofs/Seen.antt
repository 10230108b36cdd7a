-- Steps of a set of names.
use Rattle.std.proofs.Common.{ℕ, List, [], ◌∷◌, ◌≡◌, refl, ◌∙◌, Bool, true, false, cond, Bor}
use Rattle.std.specs.Prelude.{◌||◌}
use Rattle.std.specs.BTreeSet.{BTreeSet, Updates, IsEmpty}
use Rattle.std.specs.Str.{bytes_eq}
use Rattle.std.proofs.lemmas.Map.Text.{is_eq-slice_cmp}
use Rattle.nt_types.specs.Names.{has_name}
use Rattle.nt_types.specs.Seen.{KnowsNames, slices_cmp}

-- an empty set holds no name
pub Knows-empty : (s : BTreeSet (Bor (List ℕ))) → IsEmpty s → KnowsNames s []
Knows-empty s e q = rw e refl

cond_or : (b x : Bool) → cond b true x ≡ (b || x)
cond_or true x = refl
cond_or false x = refl

-- a set holds what was put in beside what it held
pub Knows-insert : (s n : BTreeSet (Bor (List ℕ))) (names : List (List ℕ)) (key : Bor (List ℕ)) → KnowsNames s names
    → Updates slices_cmp s n key true → KnowsNames n (key.now ∷ names)
Knows-insert s n names key k u q = u.0 q ∙ rw (is_eq-slice_cmp key.now q.now, k q) (cond_or (bytes_eq key.now q.now) (has_name names q.now))
