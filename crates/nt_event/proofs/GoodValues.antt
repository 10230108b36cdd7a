-- Values of a list, and of several kinds, one after the other: they fit, and are in range.
use Rattle.std.proofs.Common.{arith, ◌≡◌, ℕ, zero, suc, ◌≤◌, ◌<◌, List, [], ◌∷◌, ◌++◌, length, get_or, true}
use Rattle.std.proofs.Common.{refl}
use Rattle.std.proofs.Math.Nat.{max-le}
use Rattle.json.specs.Tree.{items_depth}
use Rattle.nt_types.specs.ShapeData.{ShapeData, MemberData, parts_of}
use Rattle.nt_types.specs.TreeData.{TreeData}
use Rattle.nt_types.specs.Fits.{fits, fit_kinds, fit_parts, fits_one, all_trees}
use Rattle.nt_event.specs.Json.{AllInRange}
use Rattle.nt_types.specs.TreeData.{trees_of}
use Rattle.nt_types.specs.ShapeData.{kinds_of}
use Rattle.nt_event.specs.Standing.{jsons_of, Good, AllGood, EachGood, kinds_in}

-- ---- values of a list, and of several kinds

pub all-next : (n : ℕ) (k : ShapeData) (vs : List TreeData) (w : TreeData) → AllGood n k vs → Good n k w → AllGood n k (vs ++ w ∷ [])
all-next n k [] w h g = (g, tt)
all-next n k (v ∷ vs) w h g = (h.0, all-next n k vs w h.1 g)

pub each-next : (n : ℕ) (ks : List ShapeData) (k : ShapeData) (vs : List TreeData) (w : TreeData) → EachGood n ks vs → Good n k w
    → EachGood n (ks ++ k ∷ []) (vs ++ w ∷ [])
each-next n [] k [] w h g = (g, tt)
each-next n (j ∷ ks) k (v ∷ vs) w h g = (h.0, each-next n ks k vs w h.1 g)
each-next n [] k (v ∷ vs) w h g = absurd h
each-next n (j ∷ ks) k [] w h g = absurd h

pub all-fit : (n : ℕ) (k : ShapeData) (vs : List TreeData) → AllGood n k vs → all_trees (fits k) (trees_of vs) ≡ true
all-fit n k [] h = refl
all-fit n k (v ∷ vs) h = rw (h.0.fit, all-fit n k vs h.1) refl

pub all-range : (n : ℕ) (k : ShapeData) (vs : List TreeData) → AllGood n k vs → AllInRange (trees_of vs)
all-range n k [] h = tt
all-range n k (v ∷ vs) h = (h.0.range, all-range n k vs h.1)

pub all-shallow : (n : ℕ) (k : ShapeData) (vs : List TreeData) → AllGood n k vs → items_depth (jsons_of (trees_of vs)) ≤ n
all-shallow n k [] h = omega arith
all-shallow n k (v ∷ vs) h = max-le h.0.shallow (all-shallow n k vs h.1)

pub each-fit : (n : ℕ) (ks : List ShapeData) (vs : List TreeData) → EachGood n ks vs → fit_kinds (kinds_of ks) (trees_of vs) ≡ true
each-fit n [] [] h = refl
each-fit n (k ∷ ks) (v ∷ vs) h = rw (h.0.fit, each-fit n ks vs h.1) refl
each-fit n [] (v ∷ vs) h = absurd h
each-fit n (k ∷ ks) [] h = absurd h

pub each-range : (n : ℕ) (ks : List ShapeData) (vs : List TreeData) → EachGood n ks vs → AllInRange (trees_of vs)
each-range n [] [] h = tt
each-range n (k ∷ ks) (v ∷ vs) h = (h.0.range, each-range n ks vs h.1)
each-range n [] (v ∷ vs) h = absurd h
each-range n (k ∷ ks) [] h = absurd h

pub each-shallow : (n : ℕ) (ks : List ShapeData) (vs : List TreeData) → EachGood n ks vs → items_depth (jsons_of (trees_of vs)) ≤ n
each-shallow n [] [] h = omega arith
each-shallow n (k ∷ ks) (v ∷ vs) h = max-le h.0.shallow (each-shallow n ks vs h.1)
each-shallow n [] (v ∷ vs) h = absurd h
each-shallow n (k ∷ ks) [] h = absurd h

pub parts-fit : (n : ℕ) (ps : List MemberData) (vs : List TreeData) → EachGood n (kinds_in ps) vs
    → fit_parts (parts_of ps) (trees_of vs) ≡ true
parts-fit n [] [] h = refl
parts-fit n (p ∷ ps) (v ∷ vs) h = rw (h.0.fit, parts-fit n ps vs h.1) refl
parts-fit n [] (v ∷ vs) h = absurd h
parts-fit n (p ∷ ps) [] h = absurd h

pub one-fits : (ks : List ShapeData) (i : ℕ) (k : ShapeData) (v : TreeData) → i < length ks → fits (get_or ks i k) v ≡ true
    → fits_one (kinds_of ks) (suc i) v ≡ true
one-fits [] i k v lt h = absurd (omega arith)
one-fits (j ∷ ks) zero k v lt h = h
one-fits (j ∷ ks) (suc i) k v lt h = one-fits ks i k v (omega arith) h
