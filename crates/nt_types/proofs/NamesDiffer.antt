-- Steps along the members of a record.
use Rattle.std.proofs.Common.{ℕ, List, [], ◌∷◌, ◌≡◌, ◌+◌, ◌<◌, refl, sym, ◌∙◌, Bool, true, false, Bor, length, ◌≤◌, arith, get_or, drop}
use Rattle.std.proofs.Common.{map, drop-cons, add-one}
use Rattle.std.specs.Prelude.{◌&&◌, not}
use Rattle.std.proofs.lemmas.Grind.{common_steps}
use Rattle.std.specs.BTreeSet.{BTreeSet, contains, Updates}
use Rattle.nt_types.specs.Names.{has_name, are_new}
use Rattle.nt_types.specs.Seen.{KnowsNames, slices_cmp}
use Rattle.nt_types.specs.Views.{member_view}
use Rattle.nt_types.specs.declared.shape.Member.{Member}
use Rattle.nt_types.proofs.Seen.{Knows-insert}
use Rattle.nt_types.proofs.ShapeViews.{member_view-name}

are_new-drop : (seen : List (List ℕ)) (members : List Member) (i : ℕ) (m : Member) → i < length members → m ≡ get_or members i m
    → are_new seen (map member_view (drop i members)) ≡
    (not (has_name seen (member_view m).name) && are_new ((member_view m).name ∷ seen) (map member_view (drop (i + 1) members)))
are_new-drop seen members i m h is = rw (add-one, drop-cons members i m, ← is) refl

negated : (a b : Bool) → a ≡ not b → a ≡ true → b ≡ false
negated true true e t = cc
negated true false e t = refl
negated false b e t = cc

-- one member further, where its name is new
pub new_member : (set after : BTreeSet (Bor (List ℕ))) (seen : List (List ℕ)) (members : List Member) (i : ℕ) (m : Member)
    (name : Bor (List ℕ)) (added all : Bool)
    → KnowsNames set seen → are_new seen (map member_view (drop i members)) ≡ all
    → i < length members → m ≡ get_or members i m → name.now ≡ m.name
    → added ≡ not (contains slices_cmp set name) → added ≡ true → Updates slices_cmp set after name true
    → (x : List (List ℕ)) × KnowsNames after x × (are_new x (map member_view (drop (i + 1) members)) ≡ all)
new_member set after seen members i m name added all k e h is named0 a t u =
    let named : name.now ≡ (member_view m).name = named0 ∙ sym (member_view-name m) in
    let fresh : has_name seen name.now ≡ false = sym (k name) ∙ negated added (contains slices_cmp set name) a t in
    (name.now ∷ seen, Knows-insert set after seen name k u, rw named (ending (rw named at fresh)))
  where
    ending : has_name seen (member_view m).name ≡ false
        → are_new ((member_view m).name ∷ seen) (map member_view (drop (i + 1) members)) ≡ all
    ending f = let s = are_new-drop seen members i m h is in let s' = rw f at s in sym s' ∙ e

-- a member whose name isn't new
-- no member is left
pub last_member : (seen : List (List ℕ)) (members : List Member) (i : ℕ) (all : Bool) → length members ≤ i
    → are_new seen (map member_view (drop i members)) ≡ all → true ≡ all
last_member seen members i all h e = let none : drop i members ≡ [] = grind (arith, common_steps) in rw none at e

pub old_member : (set : BTreeSet (Bor (List ℕ))) (seen : List (List ℕ)) (members : List Member) (i : ℕ) (m : Member) (name : Bor (List ℕ))
    (added all : Bool)
    → KnowsNames set seen → are_new seen (map member_view (drop i members)) ≡ all
    → i < length members → m ≡ get_or members i m → name.now ≡ m.name
    → added ≡ not (contains slices_cmp set name) → added ≡ false
    → false ≡ all
old_member set seen members i m name added all k e h is named0 a t =
    let named : name.now ≡ (member_view m).name = named0 ∙ sym (member_view-name m) in
    let there : not (has_name seen (member_view m).name) ≡ false = rw (← named) (rw (← k name) (sym a ∙ t)) in
    let s = are_new-drop seen members i m h is in sym (rw there at s) ∙ e
