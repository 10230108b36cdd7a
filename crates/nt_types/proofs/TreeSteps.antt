-- One step along trees and what they are compared with.
use Rattle.std.proofs.Common.{◌≡◌, ◌<◌, ◌≢◌, ℕ, zero, suc, Bool, true, false, List, [], ◌∷◌, length, map, get_or, sym, ap, ◌∙◌, arith, refl}
use Rattle.std.specs.Prelude.{◌&&◌}
use Rattle.std.proofs.Common.{◌^◌, ◌/◌, ◌≤◌, nat_lt, nat_eq, ◌⊎◌, inl, inr}
use Rattle.std.proofs.lemmas.Bool.{lt-ltb, le-ltb, le-leb, ne_eqb, cases_lt}
use Rattle.std.proofs.lemmas.Nat.{pow_pos, le-div}
use Rattle.std.proofs.Math.Pow.{pow_mono}
use Rattle.std.proofs.Math.Nat.{div-eq_of_lt}
use Rattle.nt_types.specs.ShapeData.{ShapeData, MemberData, kinds_of, parts_of}
use Rattle.nt_types.specs.Views.{shape_view, member_view}
use Rattle.nt_types.specs.TreeViews.{tree_view}
use Rattle.nt_types.specs.declared.shape.Member.{Member}
use Rattle.nt_types.specs.declared.tree.Tree.{Tree}
use Rattle.nt_types.proofs.ShapeViews.{member_view-of}
use Rattle.std.proofs.Common.{◌+◌, drop}
use Rattle.std.proofs.lemmas.List.{drop_more}
use Rattle.nt_types.specs.declared.shape.Shape.{Shape}
use Rattle.nt_types.specs.TreeData.{TreeData, trees_of}
use Rattle.nt_types.specs.Fits.{fits, fit_parts, fit_kinds, fits_one}

and_false : (b : Bool) → false ≡ (b && false)
and_false true = refl
and_false false = refl

pub kinds_unequal : (ks : List ShapeData) (ts : List TreeData) → length ks ≢ length ts → false ≡ fit_kinds (kinds_of ks) (trees_of ts)
kinds_unequal [] [] n = absurd (n refl)
kinds_unequal [] (t ∷ ts) n = refl
kinds_unequal (k ∷ ks) [] n = refl
kinds_unequal (k ∷ ks) (t ∷ ts) n = rw (← kinds_unequal ks ts (λ e. n (ap suc e))) (and_false (fits k t))

pub parts_unequal : (ps : List MemberData) (ts : List TreeData) → length ps ≢ length ts → false ≡ fit_parts (parts_of ps) (trees_of ts)
parts_unequal [] [] n = absurd (n refl)
parts_unequal [] (t ∷ ts) n = refl
parts_unequal (p ∷ ps) [] n = refl
parts_unequal (p ∷ ps) (t ∷ ts) n = rw (← parts_unequal ps ts (λ e. n (ap suc e))) (and_false (fits p.of t))

pub one-zero : (ks : List ShapeData) (t : TreeData) → false ≡ fits_one (kinds_of ks) 0 t
one-zero [] t = refl
one-zero (k ∷ ks) t = refl

pub one-beyond : (ks : List ShapeData) (tag : ℕ) (t : TreeData) → length ks < tag → false ≡ fits_one (kinds_of ks) tag t
one-beyond [] tag t h = refl
one-beyond (k ∷ ks) zero t h = refl
one-beyond (k ∷ ks) (suc zero) t h = absurd (omega (arith, h))
one-beyond (k ∷ ks) (suc (suc n)) t h = one-beyond ks (suc n) t (omega (arith, h))

pub one-nth : (ks : List ShapeData) (i : ℕ) (k : ShapeData) (t : TreeData) → i < length ks → k ≡ get_or ks i k
    → fits_one (kinds_of ks) (suc i) t ≡ fits k t
one-nth [] i k t lt is = absurd (omega arith)
one-nth (j ∷ ks) zero k t lt is = ap (λ (u : ShapeData). fits u t) (sym is)
one-nth (j ∷ ks) (suc i) k t lt is = one-nth ks i k t (omega arith) is

pub short : (n bits : ℕ) → n < 2 ^ 128 → 128 ≤ bits → nat_lt n (2 ^ bits) ≡ true
short n bits small le = lt-ltb n (2 ^ bits) (omega (arith, small, pow_mono le))

pub high_bits : (n bits : ℕ) → nat_eq (n / 2 ^ bits) 0 ≡ nat_lt n (2 ^ bits)
high_bits n bits = go (cases_lt n (2 ^ bits))
  where
    go : (n < 2 ^ bits) ⊎ (2 ^ bits ≤ n) → nat_eq (n / 2 ^ bits) 0 ≡ nat_lt n (2 ^ bits)
    go (inl h) = ap (λ q. nat_eq q 0) (div-eq_of_lt h) ∙ sym (lt-ltb n (2 ^ bits) h)
    go (inr h) = let big : 1 ≤ n / 2 ^ bits = le-div 1 n (2 ^ bits) (pow_pos bits) (omega (arith, h)) in
        ne_eqb (n / 2 ^ bits) 0 (λ e. omega (arith, e, big)) ∙ sym (le-ltb n (2 ^ bits) h)

pub nth-shape : (ks : List Shape) (i : ℕ) (k : Shape) → i < length ks → k ≡ get_or ks i k
    → shape_view k ≡ get_or (map shape_view ks) i (shape_view k)
nth-shape [] i k lt is = absurd (omega arith)
nth-shape (j ∷ ks) zero k lt is = ap shape_view is
nth-shape (j ∷ ks) (suc i) k lt is = nth-shape ks i k (omega arith) is

-- the members from a place on, and the trees
abbrev pub rest_fits : List Member → List Tree → Bool
rest_fits ms ts = fit_parts (parts_of (map member_view ms)) (trees_of (map tree_view ts))

pub member_step : (ms : List Member) (ts : List Tree) (i : ℕ) (m : Member) (t : Tree) (b : Bool) → i < length ms → i < length ts
    → m ≡ get_or ms i m → t ≡ get_or ts i t → b ≡ fits (shape_view m.of) (tree_view t) → rest_fits (drop i ms) (drop i ts)
    ≡ (b && rest_fits (drop (i + 1) ms) (drop (i + 1) ts))
member_step ms ts i m t b mlt tlt mis tis same =
    ap (λ (l : List Member). rest_fits l (drop i ts)) (drop_more ms i m mlt ∙ ap (λ (x : Member). x ∷ drop (i + 1) ms) (sym mis))
    ∙ ap (λ (l : List Tree). rest_fits (m ∷ drop (i + 1) ms) l) (drop_more ts i t tlt ∙ ap (λ (x : Tree). x ∷ drop (i + 1) ts) (sym tis))
    ∙ ap (λ (c : Bool). c && rest_fits (drop (i + 1) ms) (drop (i + 1) ts))
    (ap (λ (k : ShapeData). fits k (tree_view t)) (member_view-of m) ∙ sym same)
