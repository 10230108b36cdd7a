-- Names among names.
use Rattle.std.specs.Prelude.{ℕ, Bool, true, List, [], ◌∷◌, ◌&&◌, not}
use Rattle.std.specs.List.{list_any}
use Rattle.std.specs.Str.{bytes_eq}
use Rattle.nt_types.specs.ShapeData.{MemberData}

-- one of the names is this one
abbrev pub has_name : List (List ℕ) → List ℕ → Bool
has_name names name = list_any (λ n. bytes_eq n name) names

-- each name is new, beside those that were seen before
abbrev pub are_new : List (List ℕ) → List MemberData → Bool
are_new seen [] = true
are_new seen (p ∷ ps) = not (has_name seen p.name) && are_new (p.name ∷ seen) ps

-- no name stands twice
abbrev pub names_differ : List MemberData → Bool
names_differ ps = are_new [] ps
