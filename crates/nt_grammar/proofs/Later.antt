-- Fields inside others stand behind them.
use Rattle.std.proofs.Common.{ℕ, suc, ◌≡◌, ◌<◌, ◌+◌, List, [], ◌∷◌, ◌++◌, length, ap, sym, subst, arith}
use Rattle.std.proofs.lemmas.List.{length-append}
use Rattle.nt_types.specs.ShapeData.{ShapeData, ShapesData, MembersData, bool, char, byte, int, text, list, maybe, fields, tuple, choice}
use Rattle.nt_types.specs.ShapeData.{no_kinds, kind, no_parts, part}
use Rattle.nt_grammar.specs.Rows.{NodeData, inside, members_in, places_in, all_inside}
use Rattle.nt_grammar.proofs.Listing.{all_inside-self, uncons, regrouped}

-- fields with ids from this one on, each of which lies in one before it
abbrev pub AreLater : ℕ → List NodeData → Type 0
AreLater id [] = Unit {0}
AreLater id (n ∷ ns) = (n.parent < id) × AreLater (id + 1) ns

later-append : (id : ℕ) (a b : List NodeData) → AreLater id a → AreLater (id + length a) b → AreLater id (a ++ b)
later-append id [] b h k = subst (λ (n : ℕ). AreLater n b) (omega arith) k
later-append id (n ∷ a) b h k =
    let next : id + suc (length a) ≡ id + 1 + length a = omega arith in
    (h.0, later-append (id + 1) a b h.1 (subst (λ (m : ℕ). AreLater m b) next k))

later-members : (id j : ℕ) (ps : MembersData) → id < j → AreLater j (members_in id ps)
later-members id j no_parts less = tt
later-members id j (part n k ps) less = (less, later-members id (j + 1) ps (omega arith))

later-places : (id i j : ℕ) (ks : ShapesData) → id < j → AreLater j (places_in id i ks)
later-places id i j no_kinds less = tt
later-places id i j (kind k ks) less = (less, later-places id (i + 1) (j + 1) ks (omega arith))

later-inside : (id j : ℕ) (k : ShapeData) → id < j → AreLater j (inside id k)
later-inside id j bool less = tt
later-inside id j char less = tt
later-inside id j byte less = tt
later-inside id j (int bits signed) less = tt
later-inside id j text less = tt
later-inside id j (list k) less = (less, tt)
later-inside id j (maybe k) less = (less, tt)
later-inside id j (fields ps) less = later-members id j ps less
later-inside id j (tuple ks) less = later-places id 0 j ks less
later-inside id j (choice ks) less = later-places id 0 j ks less

pub later-all_inside : (id : ℕ) (front ms : List NodeData) → ms ≡ front ++ all_inside id ms
    → AreLater (id + length front) (all_inside id ms)
later-all_inside id front [] e = tt
later-all_inside id [] (m ∷ ms) e = let none : m ∷ ms ≡ [] = all_inside-self id (m ∷ ms) e in cc
later-all_inside id (q ∷ front) (m ∷ ms) e =
    let d : (m ≡ q) × (ms ≡ front ++ (inside id m.of ++ all_inside (id + 1) ms)) = uncons m q ms _ e in
    let later = later-all_inside (id + 1) (front ++ inside id q.of) ms (regrouped id front q m ms d.0 d.1) in
    let same : length (inside id q.of) ≡ length (inside id m.of) = ap (λ (n : NodeData). length (inside id n.of)) (sym d.0) in
    let place : id + 1 + length (front ++ inside id q.of) ≡ id + suc (length front) + length (inside id m.of) =
    omega (arith, length-append front (inside id q.of), same) in
    later-append (id + suc (length front)) (inside id m.of) (all_inside (id + 1) ms)
    (later-inside id (id + suc (length front)) m.of (omega arith))
    (subst (λ (n : ℕ). AreLater n (all_inside (id + 1) ms)) place later)
